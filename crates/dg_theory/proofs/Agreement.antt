-- What holds of a divisor holds of each that agrees with it on the vertices.
--   agree-sym       if D agrees with E, then E agrees with D
--   agree-trans     if D agrees with E, and E with F, then D agrees with F
--   effective-cong  divisors that agree are effective together
--   fired-here      divisors that agree do so after a firing
--   played-cong     divisors that agree do so after a list of plays
--   winnable-cong   divisors that agree are winnable together
--   reduced-cong    divisors that agree are reduced together
use Rattle.dg_theory.proofs.Common.{ℕ, List, [], ◌∷◌, arith, sym, ◌∙◌, ints, Multigraph, Amounts, IsEffective, DivisorsAgreeOn, fired, Play, script_of_play, played, IsWinnable, IsReduced}

pub agree-sym : (n : ℕ) (D E : Amounts) → DivisorsAgreeOn n D E → DivisorsAgreeOn n E D
agree-sym n D E same v below = sym (same v below)

pub agree-trans : (n : ℕ) (D E F : Amounts) → DivisorsAgreeOn n D E → DivisorsAgreeOn n E F → DivisorsAgreeOn n D F
agree-trans n D E F same next v below = same v below ∙ next v below

pub effective-cong : (n : ℕ) (D E : Amounts) → DivisorsAgreeOn n D E → IsEffective n D → IsEffective n E
effective-cong n D E same effective v below = omega (arith, ints, same v below, effective v below)

pub fired-here : (g : Multigraph) (D E s : Amounts) → DivisorsAgreeOn g.size D E
    → DivisorsAgreeOn g.size (fired g D s) (fired g E s)
fired-here g D E s same v below = omega (arith, ints, same v below)

pub played-cong : (g : Multigraph) (D E : Amounts) (l : List Play) → DivisorsAgreeOn g.size D E →
    DivisorsAgreeOn g.size (played g D l) (played g E l)
played-cong g D E [] same = same
played-cong g D E (p ∷ l) same =
    played-cong g (fired g D (script_of_play p)) (fired g E (script_of_play p)) l
    (fired-here g D E (script_of_play p) same)

pub winnable-cong : (g : Multigraph) (D E : Amounts) → DivisorsAgreeOn g.size D E → IsWinnable g D → IsWinnable g E
winnable-cong g D E same (l, effective) =
    (l, effective-cong g.size (played g D l) (played g E l) (played-cong g D E l same) effective)

pub reduced-cong : (g : Multigraph) (q : ℕ) (D E : Amounts) → DivisorsAgreeOn g.size D E → IsReduced g q D → IsReduced g q E
reduced-cong g q D E same reduced = record {
  no_debt = λ v below other. omega (arith, ints, same v below, reduced.no_debt v below other);
  none_fires = λ S without u below member.
      let (v, inside, in_v, less) = reduced.none_fires S without u below member in
      (v, inside, in_v, omega (arith, ints, same v inside));
}
