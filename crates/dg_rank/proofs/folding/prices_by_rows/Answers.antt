use Rattle.dg_rank.proofs.Common.{ℕ, ◌≡◌, ◌<◌, ◌≤◌, List, [], arith, ap, refl, replicate, get_or-replicate, get_or_past, slice_index, slice_index_or, ⊎_elim, cases_lt, ◌∙◌}
use Rattle.dg_rank.proofs.folding.prices_by_rows.Goals as goal

free : (u t : ℕ) → slice_index (slice_index_or (replicate 16 (replicate 105 0)) u []) t ≡ 0
free u t = ⊎_elim
    (λ (below : u < 16). ap (λ (row : List ℕ). slice_index row t) (get_or-replicate {A = List ℕ} 16 u (replicate 105 0) [] below)
    ∙ ⊎_elim
    (λ (few : t < 105). get_or-replicate {A = ℕ} 105 t 0 0 few)
    (λ (many : 105 ≤ t). get_or_past (replicate 105 0) t 0 many)
    (cases_lt t 105))
    (λ (past : 16 ≤ u). ap (λ (row : List ℕ). slice_index row t) (get_or_past (replicate 16 (replicate 105 0)) u [] past))
    (cases_lt u 16)

pub loop-v-init : goal.loop-v-init
loop-v-init c = record {
  places = refl;
  rising = λ u s t less few. omega (arith, free u s, free u t);
  cheap = λ u t few. omega (arith, free u t);
  unfolded = λ u t below few left. absurd (omega arith);
  folded = λ u t few out. free u t;
}
