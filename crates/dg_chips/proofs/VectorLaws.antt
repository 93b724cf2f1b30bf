-- Lists of numbers, read at a place.
--   at_same       each number of a list of equal numbers is that number, also past its end
--   at_zeros      the same for zeros
--   filled        a list that is f below v is f below v + 1 once f v is written at v; z stands for what is past its end
--   rest          a list that is z from v on is z from v + 1 on, whatever is written at v
--   filled-set    the law of filled lists with 0 past the end
--   rest-set      the law of the rest for 0
--   IsFilled      a list of 16 numbers is f below v and 0 from there on
--   filled_more   it is f below v + 1 once f v is written at v
--   one_more      numbers of which one is replaced by so much more are so much more at that place
--   one_written   a vector with another number within the limit at one place is within the limit
--   one_vector    vectors are one if they have as many places and the same numbers
--   held_once     and so if they hold the numbers of one list
--   not_past      amounts that a divisor holds are not out of range
--   within_all    past the size too, the numbers of a vector are within its limit
use Rattle.dg_chips.proofs.Common.{◌≡◌, ◌≢◌, ℕ, ◌+◌, ◌<◌, ◌≤◌, List, length, length-set, slice_set, arith, inl, inr, get_or-set_same, get_or-set_other, below_more, ext_get_or, sym, ◌∙◌, unsigned_abs, replicate, slice_index_or, ℤ, pos, ◌+ℤ◌, +ℤ_idr, cases_lt, cases_eq, get_or-replicate, get_or_past, length-replicate, ap, Amounts, IsOutOfRange, only_at, only_at-here, only_at-other, Vector, IsVector, HoldsNumbers, at}

pub at_same : {X : Type 0} (n v : ℕ) (x : X) → slice_index_or (replicate n x) v x ≡ x
at_same n v x = elim (cases_lt v n) [
  | inl within ↦ get_or-replicate n v x x within
  | inr past ↦ get_or_past (replicate n x) v x (omega (arith, length-replicate n x))
]

pub at_zeros : (n v : ℕ) → slice_index_or (replicate n (pos 0)) v (pos 0) ≡ pos 0
at_zeros n v = at_same n v (pos 0)

pub filled : {X : Type 0} (z : X) (xs : List X) (v : ℕ) (x : X) (f : ℕ → X) → v < length xs → x ≡ f v →
    ((u : ℕ) → u < v → slice_index_or xs u z ≡ f u) →
    (u : ℕ) → u < v + 1 → slice_index_or (slice_set xs v x) u z ≡ f u
filled z xs v x f within here before = below_more _ _
    (λ u below. let other : u ≢ v = omega arith in get_or-set_other xs v u x z other ∙ before u below)
    (get_or-set_same xs v x z within ∙ here)

pub rest : {X : Type 0} (z : X) (xs : List X) (v : ℕ) (x : X) → ((u : ℕ) → v ≤ u → slice_index_or xs u z ≡ z) →
    (u : ℕ) → v + 1 ≤ u → slice_index_or (slice_set xs v x) u z ≡ z
rest z xs v x same u above =
    let other : u ≢ v = omega arith in get_or-set_other xs v u x z other ∙ same u (omega arith)

pub filled-set : (xs : List ℤ) (v : ℕ) (x : ℤ) (f : ℕ → ℤ) → v < length xs → x ≡ f v →
    ((u : ℕ) → u < v → slice_index_or xs u (pos 0) ≡ f u) →
    (u : ℕ) → u < v + 1 → slice_index_or (slice_set xs v x) u (pos 0) ≡ f u
filled-set = filled (pos 0)

pub rest-set : (xs : List ℤ) (v : ℕ) (x : ℤ) → ((u : ℕ) → v ≤ u → slice_index_or xs u (pos 0) ≡ pos 0) →
    (u : ℕ) → v + 1 ≤ u → slice_index_or (slice_set xs v x) u (pos 0) ≡ pos 0
rest-set = rest (pos 0)

pub record IsFilled (xs : List ℤ) (v : ℕ) (f : ℕ → ℤ) : Type 0 where
  pub size : length xs ≡ 16
  pub same : (w : ℕ) → w < v → slice_index_or xs w (pos 0) ≡ f w
  pub zero : (w : ℕ) → v ≤ w → slice_index_or xs w (pos 0) ≡ pos 0

pub filled_more : (xs : List ℤ) (v : ℕ) (x : ℤ) (f : ℕ → ℤ) → v < 16 → x ≡ f v → IsFilled xs v f →
    IsFilled (slice_set xs v x) (v + 1) f
filled_more xs v x f within here before = record {
  size = length-set _ _ _ ∙ before.size;
  same = filled-set xs v x f (omega (arith, before.size)) here before.same;
  zero = rest-set xs v x before.zero;
}

pub one_more : (xs : List ℤ) (v : ℕ) (x more : ℤ) → v < length xs → x ≡ slice_index_or xs v (pos 0) +ℤ more → (w : ℕ) →
    slice_index_or (slice_set xs v x) w (pos 0) ≡ slice_index_or xs w (pos 0) +ℤ only_at v more w
one_more xs v x more within sum w = elim (cases_eq w v) [
  | inl same ↦ rw (same, only_at-here v more) (get_or-set_same xs v x (pos 0) within ∙ sum)
  | inr other ↦ rw (only_at-other v more w other)
      (get_or-set_other xs v w x (pos 0) other ∙ sym (+ℤ_idr (slice_index_or xs w (pos 0))))
]

pub one_written : (limit : ℕ) (a : Vector) (v : ℕ) (x : ℤ) → v < a.size → v < length a.numbers →
    unsigned_abs x ≤ limit → IsVector limit a →
    IsVector limit (record { size = a.size; numbers = slice_set a.numbers v x })
one_written limit a v x below within small right = record {
  few = right.few;
  places = length-set a.numbers v x ∙ right.places;
  within = λ w here. elim (cases_eq w v) [
    | inl same ↦ rw (same, get_or-set_same a.numbers v x (pos 0) within) small
    | inr other ↦ rw (get_or-set_other a.numbers v w x (pos 0) other) (right.within w here)
  ];
  inside = λ w past.
      let other : w ≢ v = omega arith in get_or-set_other a.numbers v w x (pos 0) other ∙ right.inside w past;
}

pub within_all : (limit : ℕ) (x : Vector) → IsVector limit x → (v : ℕ) → unsigned_abs (at x v) ≤ limit
within_all limit x right v = elim (cases_lt v x.size) [
  | inl below ↦ right.within v below
  | inr above ↦ rw (right.inside v (omega arith)) (omega arith)
]

pub one_vector : (limit : ℕ) (x y : Vector) → IsVector limit x → IsVector limit y → x.size ≡ y.size →
    ((v : ℕ) → v < x.size → at x v ≡ at y v) → x ≡ y
one_vector limit x y right other sizes same =
    let numbers : x.numbers ≡ y.numbers =
    ext_get_or (pos 0) x.numbers y.numbers (right.places ∙ sym other.places) (λ v below. elim (cases_lt v x.size) [
      | inl here ↦ same v here
      | inr past ↦ right.inside v past ∙ sym (other.inside v (omega (arith, past, sizes)))
    ]) in
    λ i. record { size = sizes i; numbers = numbers i }

pub held_once : (limit : ℕ) (xs : List ℤ) (x y : Vector) → HoldsNumbers xs x → HoldsNumbers xs y → IsVector limit x →
    IsVector limit y → x ≡ y
held_once limit xs x y first second right other =
    one_vector limit x y right other (first.size ∙ sym second.size) (λ v below.
    let here : v < length xs = omega (arith, below, first.size) in
    first.numbers v here ∙ sym (second.numbers v here))

pub not_past : (n : ℕ) (D : Amounts) (d : Vector) → IsVector 1000000 d → d.size ≡ n → ((v : ℕ) → v < n → at d v ≡ D v) →
    IsOutOfRange n D → ⊥
not_past n D d right size same (v, below, past) =
    omega (arith, right.within v (omega arith), ap unsigned_abs (same v below))
