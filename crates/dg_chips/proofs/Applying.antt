-- What the amounts after a firing tell of a script that is played.
--   AreFired        the numbers xs were made by firing the script s, which has the size of the graph
--   numbers_taken   there are enough of them for every vertex
--   fired_numbers   the first n of the numbers made are the amounts after the script
--   moved           a divisor that holds them is the one after it
--   moved_once      there is one divisor after a move
--   out_of_range    where they are refused as a divisor, the script leaves the range
use Rattle.dg_chips.proofs.Common.{◌≡◌, ℕ, ◌<◌, ◌≤◌, List, length, take, arith, ◌∙◌, slice_index_or, ℤ, pos, get_or-take, length-take, Multigraph, Amounts, fired, Vector, at, HoldsNumbers, IsVector, IsOutOfRange, IsAfterMove, IsChipFault, ChipFault, Length, Range, sym}
use Rattle.dg_chips.specs.declared.moves.Move.{Move}
use Rattle.dg_chips.specs.declared.moves.Move.TheVariants.{Script}
use Rattle.dg_chips.proofs.VectorLaws.{one_vector}

pub record AreFired (g : Multigraph) (D : Amounts) (s : Vector) (n : ℕ) (xs : List ℤ) : Type 0 where
  pub size : n ≡ g.size
  pub few : g.size ≤ 16
  pub places : length xs ≡ 16
  pub fits : s.size ≡ g.size
  pub amounts : (v : ℕ) → v < g.size → slice_index_or xs v (pos 0) ≡ fired g D (at s) v

pub numbers_taken : (g : Multigraph) (D : Amounts) (s : Vector) (n : ℕ) (xs : List ℤ) → AreFired g D s n xs →
    length (take n xs) ≡ g.size
numbers_taken g D s n xs made = omega (arith, length-take n xs, made.places, made.few, made.size)

pub fired_numbers : (g : Multigraph) (D : Amounts) (s : Vector) (n : ℕ) (xs : List ℤ) → AreFired g D s n xs →
    (v : ℕ) → v < g.size → slice_index_or (take n xs) v (pos 0) ≡ fired g D (at s) v
fired_numbers g D s n xs made v below =
    let short : v < n = omega arith in
    get_or-take n xs v (pos 0) short ∙ made.amounts v below

pub moved : (g : Multigraph) (D : Amounts) (s : Vector) (n : ℕ) (xs : List ℤ) (d : Vector) → AreFired g D s n xs →
    d.size ≡ g.size → HoldsNumbers (take n xs) d → IsVector 1000000 d → IsAfterMove g D (Script s) d
moved g D s n xs d made size holds right = record {
  playable = made.fits;
  size = size;
  divisor = right;
  amounts = λ v below.
      holds.numbers v (omega (arith, numbers_taken g D s n xs made)) ∙ fired_numbers g D s n xs made v below;
}

pub out_of_range : (g : Multigraph) (D : Amounts) (s : Vector) (n : ℕ) (xs : List ℤ) (fault : ChipFault) →
    AreFired g D s n xs → IsChipFault g.size (take n xs) fault → IsOutOfRange g.size (fired g D (at s))
out_of_range g D s n xs Length made other = absurd (other (numbers_taken g D s n xs made))
out_of_range g D s n xs (Range v) made first =
    let below : v < g.size = omega (arith, numbers_taken g D s n xs made, first.1.place) in
    (v, below, rw (← fired_numbers g D s n xs made v below) first.1.past)

pub moved_once : (g : Multigraph) (D : Amounts) (m : Move) (d e : Vector) → IsAfterMove g D m d → IsAfterMove g D m e →
    d ≡ e
moved_once g D m d e first second =
    one_vector 1000000 d e first.divisor second.divisor (first.size ∙ sym second.size) (λ v below.
    let here : v < g.size = omega (arith, below, first.size) in
    first.amounts v here ∙ sym (second.amounts v here))
