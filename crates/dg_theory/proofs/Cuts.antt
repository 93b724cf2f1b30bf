-- What a set of vertices gets by a script, over the edges that leave it.
--   antisymmetric_sum  a sum over all pairs is 0 where swapping the pair changes the sign
--   IsCut g S s a b    an edge leads from a in S to b outside S, and every vertex of S lends by s at least as often as
--                      every vertex outside S
--   cut_loses          if every vertex of S lends at least as often as every other, all of S together loses at least
--                      what goes along one edge out of S
use Rattle.dg_theory.proofs.Common.{if◌then◌else◌, ◌≡◌, ℕ, zero, suc, ◌<◌, arith, refl, sym, ◌∙◌, Bool, true, false, ints, ℤ, pos, ◌+ℤ◌, ◌-ℤ◌, ◌*ℤ◌, *ℤ-zero, ◌≤ℤ◌, sum_below, Multigraph, IsMultigraph, edges_between, Amounts, gain}
use Rattle.dg_theory.proofs.Products.{mul-change}
use Rattle.dg_theory.proofs.SumLaws.{sum_below-cong, sum_below-add, sum_below-zero}
use Rattle.dg_theory.proofs.SumBounds.{mul-nonpos, mul-once, sum_below-nonpos, sum_below-le_term}

pub antisymmetric_sum : (n : ℕ) (h : ℕ → ℕ → ℤ) → ((v w : ℕ) → h v w +ℤ h w v ≡ pos 0) →
    sum_below n (λ v. sum_below n (λ w. h v w)) ≡ pos 0
antisymmetric_sum zero h swapped = refl
antisymmetric_sum (suc n) h swapped =
    let before : sum_below n (λ v. sum_below n (λ w. h v w)) ≡ pos 0 = antisymmetric_sum n h swapped in
    let column : sum_below n (λ v. sum_below n (λ w. h v w) +ℤ h v n)
    ≡ sum_below n (λ v. sum_below n (λ w. h v w)) +ℤ sum_below n (λ v. h v n)
    = sum_below-add n (λ v. sum_below n (λ w. h v w)) (λ v. h v n) in
    let both : sum_below n (λ v. h v n) +ℤ sum_below n (λ w. h n w) ≡ pos 0 =
    sym (sum_below-add n (λ v. h v n) (λ w. h n w)) ∙ sum_below-zero n _ (λ w below. swapped w n) in
    let corner : h n n +ℤ h n n ≡ pos 0 = swapped n n in
    omega (arith, ints)

abbrev inner : Bool → Bool → ℤ → ℤ
inner b c x = if b then (if c then x else pos 0) else pos 0

abbrev across : Bool → Bool → ℤ → ℤ
across b c x = if b then (if c then pos 0 else x) else pos 0

inner-across : (b c : Bool) (x : ℤ) → (if b then x else pos 0) ≡ inner b c x +ℤ across b c x
inner-across true true x = omega (arith, ints)
inner-across true false x = omega (arith, ints)
inner-across false c x = refl

inner-swap : (b c : Bool) (x y : ℤ) → x +ℤ y ≡ pos 0 → inner b c x +ℤ inner c b y ≡ pos 0
inner-swap true true x y opposite = opposite
inner-swap true false x y opposite = refl
inner-swap false true x y opposite = refl
inner-swap false false x y opposite = refl

across-nonpos : (b c : Bool) (x : ℤ) → (b ≡ true → c ≡ false → x ≤ℤ pos 0) → across b c x ≤ℤ pos 0
across-nonpos true true x low = omega (arith, ints)
across-nonpos true false x low = low refl refl
across-nonpos false c x low = omega (arith, ints)

sum_below-if : (b : Bool) (n : ℕ) (f : ℕ → ℤ) →
    (if b then sum_below n f else pos 0) ≡ sum_below n (λ w. if b then f w else pos 0)
sum_below-if true n f = refl
sum_below-if false n f = sym (sum_below-zero n _ (λ w below. refl))

abbrev flow : Multigraph → Amounts → ℕ → ℕ → ℤ
flow g s v w = pos (edges_between g v w) *ℤ (s w -ℤ s v)

flow-swap : (g : Multigraph) (s : Amounts) → IsMultigraph g → (v w : ℕ) → flow g s v w +ℤ flow g s w v ≡ pos 0
flow-swap g s graph v w =
    let none : (s w +ℤ s v) -ℤ (s v +ℤ s w) ≡ pos 0 = omega (arith, ints) in
    let k : ℕ = edges_between g v w in
    let both : pos k *ℤ (s w -ℤ s v) +ℤ pos k *ℤ (s v -ℤ s w) ≡ pos 0 =
    mul-change k (s w) (s v) (s v) (s w) ∙ rw (none, *ℤ-zero) refl in
    rw (graph.symmetric w v) both

split : (g : Multigraph) (S : ℕ → Bool) (s : Amounts) →
    sum_below g.size (λ v. if S v then gain g s v else pos 0)
    ≡ sum_below g.size (λ v. sum_below g.size (λ w. inner (S v) (S w) (flow g s v w)))
    +ℤ sum_below g.size (λ v. sum_below g.size (λ w. across (S v) (S w) (flow g s v w)))
split g S s =
    sum_below-cong g.size _ _ (λ v in_v.
    sum_below-if (S v) g.size (flow g s v)
    ∙ (sum_below-cong g.size _ _ (λ w in_w. inner-across (S v) (S w) (flow g s v w))
    ∙ sum_below-add g.size (λ w. inner (S v) (S w) (flow g s v w)) (λ w. across (S v) (S w) (flow g s v w))))
    ∙ sum_below-add g.size (λ v. sum_below g.size (λ w. inner (S v) (S w) (flow g s v w)))
    (λ v. sum_below g.size (λ w. across (S v) (S w) (flow g s v w)))

pub record IsCut (g : Multigraph) (S : ℕ → Bool) (s : Amounts) (a b : ℕ) : Type 0 where
  pub from : a < g.size
  pub to : b < g.size
  pub within : S a ≡ true
  pub outside : S b ≡ false
  pub edge : 0 < edges_between g a b
  pub down : (v w : ℕ) → S v ≡ true → S w ≡ false → s w ≤ℤ s v

pub cut_loses : (g : Multigraph) (S : ℕ → Bool) (s : Amounts) (a b : ℕ) → IsMultigraph g → IsCut g S s a b →
    (sum_below g.size (λ v. if S v then gain g s v else pos 0) +ℤ (s a -ℤ s b)) ≤ℤ pos 0
cut_loses g S s a b graph cut =
    let cross : ℕ → ℕ → ℤ = λ v w. across (S v) (S w) (flow g s v w) in
    let low : (v w : ℕ) → cross v w ≤ℤ pos 0 = λ v w. across-nonpos (S v) (S w) (flow g s v w) (λ in_v off_w.
    let at : s w ≤ℤ s v = cut.down v w in_v off_w in
    mul-nonpos (edges_between g v w) (s w -ℤ s v) (omega (arith, ints))) in
    let none : sum_below g.size (λ v. sum_below g.size (λ w. inner (S v) (S w) (flow g s v w))) ≡ pos 0 =
    antisymmetric_sum g.size (λ v w. inner (S v) (S w) (flow g s v w))
    (λ v w. inner-swap (S v) (S w) (flow g s v w) (flow g s w v) (flow-swap g s graph v w)) in
    let all : sum_below g.size (λ v. sum_below g.size (cross v)) ≤ℤ sum_below g.size (cross a) =
    sum_below-le_term g.size (λ v. sum_below g.size (cross v))
    (λ v _. sum_below-nonpos g.size (cross v) (λ w _. low v w)) a cut.from in
    let row : sum_below g.size (cross a) ≤ℤ cross a b =
    sum_below-le_term g.size (cross a) (λ w _. low a w) b cut.to in
    let edge : cross a b ≡ flow g s a b = rw (cut.within, cut.outside) refl in
    let at : s b ≤ℤ s a = cut.down a b cut.within cut.outside in
    let once : flow g s a b ≤ℤ (s b -ℤ s a) =
    mul-once (edges_between g a b) (s b -ℤ s a) cut.edge (omega (arith, ints)) in
    let parts : sum_below g.size (λ v. if S v then gain g s v else pos 0)
    ≡ sum_below g.size (λ v. sum_below g.size (λ w. inner (S v) (S w) (flow g s v w)))
    +ℤ sum_below g.size (λ v. sum_below g.size (cross v)) = split g S s in
    omega (arith, ints)
