-- What many cells hold. An item is a number of the caller's, a cell's name and a value.
--   noted_cells R items       == a note for each item, knowing its value
--   AgreesOnCell x items      == each item of x's cell has x's value
--   AgreeOnCells items others == wherever both lists have one cell they have one value of it
use Rattle.std.specs.Prelude.{◌≡◌, ℕ, List, [], ◌∷◌, ⊤}
use base.Fml.{Fml, ftrue, fsep}
use denote.RattleType.{RattleType}
use Rattle.std.specs.declared.option.Option.TheVariants.{Some}
use Rattle.once_cell.specs.Once.{noted}

abbrev pub noted_cells : (R : RattleType) → List (ℕ × ℕ × R.Denot) → Fml
noted_cells R [] = ftrue
noted_cells R (x ∷ items) = fsep (noted R x.1 (Some x.2)) (noted_cells R items)

abbrev pub AgreesOnCell : {X : Type 0} → ℕ × ℕ × X → List (ℕ × ℕ × X) → Type 0
AgreesOnCell x [] = ⊤
AgreesOnCell x (y ∷ items) = (x.1 ≡ y.1 → x.2 ≡ y.2) × AgreesOnCell x items

abbrev pub AgreeOnCells : {X : Type 0} → List (ℕ × ℕ × X) → List (ℕ × ℕ × X) → Type 0
AgreeOnCells [] others = ⊤
AgreeOnCells (x ∷ items) others = AgreesOnCell x others × AgreeOnCells items others
