-- What happens where each vertex of a set S lends once.
--   into_first      how many edges join w to the first n vertices, as far as these are in S
--   into_first-next one vertex more adds the edges to it, if it is in S
--   into_first-in   one vertex of S more adds the edges to it, and they are few
--   none_there      past the graph there is no vertex of S
--   set-gain        each vertex gets what comes along its edges from S, and one of S loses a dollar along each of its edges
--   set-outside     so a 0 that stands where there is no vertex stays
--   lends-once      what is told of a vertex as a number is how often it lends
--   held_flow       a machine's sum of an amount and what comes less what goes is the amount after it
--   range-more      whether the first amounts are in range, and one more
use Rattle.dg_chips.proofs.Common.{if◌then◌else◌, ◌≡◌, ℕ, ◌+◌, ◌<◌, ◌≤◌, Bool, true, false, ◌&&◌, arith, add-one, refl, ap, ◌∙◌, below_more, ⊎_elim, w32, mul-one, MatchBool, nat_le, unsigned_abs, to_z, of_z, bool_byte, cases_Bool, leb-true, leb-false, ints, ℤ, pos, ◌+ℤ◌, ◌-ℤ◌, ◌*ℤ◌, *ℤ-zero, sum_below, nat_sum_below, Multigraph, edges_between, valence, edges_into, Amounts, gain, fired, indicator, within_abs, into-le-valence, gain-outside, sum_below-total, IsGraph, IsVertexSet, valence-few, valence-outside, IsInRange, IsOutOfRange}
use Rattle.dg_chips.proofs.FlowLaws.{gain-products}
use Rattle.dg_chips.proofs.LightLaws.{total-within}

abbrev counted : Multigraph → (ℕ → Bool) → ℕ → ℕ → ℕ
counted g S w u = if S u then edges_between g w u else 0

abbrev pub into_first : Multigraph → (ℕ → Bool) → ℕ → ℕ → ℕ
into_first g S w n = nat_sum_below n (λ u. if S u then edges_between g w u else 0)

into_first-next : (g : Multigraph) (S : ℕ → Bool) (w v : ℕ) →
    into_first g S w (v + 1) ≡ into_first g S w v + counted g S w v
into_first-next g S w v = rw add-one refl

pub into_first-in : (g : Multigraph) (S : ℕ → Bool) (w v : ℕ) → IsGraph g → v < g.size → S v ≡ true →
    (into_first g S w v + edges_between g v w ≤ 63)
    × (into_first g S w v + edges_between g v w ≡ into_first g S w (v + 1))
into_first-in g S w v graph below member =
    let last : counted g S w v ≡ edges_between g w v = ap (λ b. if b then edges_between g w v else 0) member in
    let next : into_first g S w v + edges_between g v w ≡ into_first g S w (v + 1) =
    omega (arith, into_first-next g S w v, graph.multigraph.symmetric v w) in
    let few : into_first g S w (v + 1) ≤ 63 =
    omega (
      arith,
      total-within (counted g S w) (v + 1) g.size (omega arith),
      into-le-valence g S w,
      valence-few g w graph,
    ) in
    (omega arith, next)

pub none_there : (g : Multigraph) (S : ℕ → Bool) (v : ℕ) → IsVertexSet g.size S → g.size ≤ v → S v ≡ false
none_there g S v inside past = ⊎_elim
    (λ (member : S v ≡ true). absurd (omega (arith, inside v member)))
    (λ (missing : S v ≡ false). missing)
    (cases_Bool (S v))

along_once : (e : ℕ) (b : Bool) → pos e *ℤ (if b then pos 1 else pos 0) ≡ pos (if b then e else 0)
along_once e true = ap pos (mul-one e)
along_once e false = *ℤ-zero (pos e)

pub set-gain : (g : Multigraph) (S : ℕ → Bool) (v got lent : ℕ) → got ≡ edges_into g S v →
    lent ≡ (if S v then valence g v else 0) → gain g (indicator S) v ≡ pos got -ℤ pos lent
set-gain g S v got lent there here =
    let all : sum_below g.size (λ w. pos (edges_between g v w) *ℤ indicator S w) ≡ pos (edges_into g S v) =
    sum_below-total g.size _ _ (λ w _. along_once (edges_between g v w) (S w)) in
    omega (arith, ints, gain-products g (indicator S) v, along_once (valence g v) (S v))

pub set-outside : (g : Multigraph) (D : Amounts) (S : ℕ → Bool) (v : ℕ) → IsGraph g → IsVertexSet g.size S → g.size ≤ v →
    D v ≡ pos 0 → fired g D (indicator S) v ≡ pos 0
set-outside g D S v graph inside past none =
    omega (
      arith,
      ints,
      gain-outside g S v (none_there g S v inside past),
      into-le-valence g S v,
      valence-outside g v graph past,
    )

pub lends-once : (S : ℕ → Bool) (v : ℕ) (member : Bool) (x : ℤ) → member ≡ S v → x ≡ pos (bool_byte member) →
    (x ≡ indicator S v) × (unsigned_abs x ≤ 1)
lends-once S v member x same is = (is ∙ told member ∙ ap (λ b. if b then pos 1 else pos 0) same, rw is (small member))
  where
    told : (b : Bool) → pos (bool_byte b) ≡ (if b then pos 1 else pos 0)
    told true = refl
    told false = refl

    small : (b : Bool) → unsigned_abs (pos (bool_byte b)) ≤ 1
    small true = omega arith
    small false = omega arith

pub held_flow : (a x y after : ℤ) (got lent : ℕ) → unsigned_abs a ≤ 1000000 → got ≤ 255 → lent ≤ 255 → x ≡ pos got →
    y ≡ pos lent → a +ℤ (pos got -ℤ pos lent) ≡ after →
    to_z w32 (of_z w32 (to_z w32 (of_z w32 a) +ℤ
    to_z w32 (of_z w32 (to_z w32 (of_z w32 x) -ℤ to_z w32 (of_z w32 y))))) ≡ after
held_flow a x y after got lent small few less in_got in_lent sum =
    let (low, high) = within_abs a 1000000 small in omega (arith, ints)

pub range-more : (D : Amounts) (n : ℕ) (fits : Bool) → MatchBool fits (IsInRange n D) (IsOutOfRange n D) →
    MatchBool (fits && nat_le (unsigned_abs (D n)) 1000000) (IsInRange (n + 1) D) (IsOutOfRange (n + 1) D)
range-more D n false (v, below, far) = (v, omega arith, far)
range-more D n true near = ⊎_elim
    (λ (low : nat_le (unsigned_abs (D n)) 1000000 ≡ true).
    rw low (below_more _ _ near (leb-true _ _ low)))
    (λ (high : nat_le (unsigned_abs (D n)) 1000000 ≡ false).
    rw high (n, omega arith, leb-false _ _ high))
    (cases_Bool (nat_le (unsigned_abs (D n)) 1000000))
