-- The pairs of a divisor, written from the last to the first.
--   pairs_last    after the last vertex there are none
--   pairs_before  a vertex's number and its label, written before the pairs of the vertices after it, give the pairs
--                 from it on
--   pairs_whole   the pairs of all vertices are those from the first one on, without the space before it
use Rattle.dg_lines.proofs.Common.{◌≡◌, ℕ, ◌+◌, ◌-◌, ◌<◌, ◌≤◌, ℤ, List, [], ◌∷◌, ◌++◌, length, take, drop, min, refl, ap, sym, ◌∙◌, add-one, append_assoc, codes, signed_decimal, drop-cons, drop_all, drop-drop, drop_min, take_rest, label, name_at, pair}
use Rattle.dg_lines.specs.Texts.{more_pairs, pairs}

more_pairs-at : (names : List (List ℕ)) (amounts : ℕ → ℤ) (v : ℕ) → v < length names
    → more_pairs (drop v names) amounts v
    ≡ codes " " ++ pair (name_at names v) (amounts v) ++ more_pairs (drop (v + 1) names) amounts (v + 1)
unfolding more_pairs
more_pairs-at names amounts v here =
    ap (λ rest. more_pairs rest amounts v) (drop-cons names v [] here)
    ∙ ap (λ rest. codes " " ++ pair (name_at names v) (amounts v) ++ more_pairs rest amounts (v + 1))
    (ap (λ n. drop n names) (sym (add-one v)))

pub pairs_last : (names : List (List ℕ)) (amounts : ℕ → ℤ) (v : ℕ) → length names ≤ v →
    more_pairs (drop v names) amounts v ≡ []
unfolding more_pairs
pairs_last names amounts v past = ap (λ rest. more_pairs rest amounts v) (drop_all v names past)

labelled : (name number rest : List ℕ) →
    label name ++ (number ++ rest) ≡ codes " " ++ (name ++ codes "=" ++ number) ++ rest
labelled name number rest = simp append_assoc

pub pairs_before : (text numbered next : List ℕ) (names : List (List ℕ)) (amounts : ℕ → ℤ) (v w : ℕ) → w ≡ v + 1 →
    v < length names
    → text ≡ more_pairs (drop w names) amounts w → numbered ≡ signed_decimal (amounts v) ++ text
    → next ≡ label (name_at names v) ++ numbered → next ≡ more_pairs (drop v names) amounts v
pairs_before text numbered next names amounts v w more here after number front =
    let rest : List ℕ = more_pairs (drop (v + 1) names) amounts (v + 1) in
    let follows : text ≡ rest = after ∙ ap (λ (k : ℕ). more_pairs (drop k names) amounts k) more in
    let told : numbered ≡ signed_decimal (amounts v) ++ rest =
    number ∙ ap (λ (back : List ℕ). signed_decimal (amounts v) ++ back) follows in
    let whole : next ≡ label (name_at names v) ++ (signed_decimal (amounts v) ++ rest) =
    front ∙ ap (λ (back : List ℕ). label (name_at names v) ++ back) told in
    let split = labelled (name_at names v) (signed_decimal (amounts v)) rest in
    whole ∙ split ∙ sym (more_pairs-at names amounts v here)

without_space : (names : List (List ℕ)) (amounts : ℕ → ℤ) → drop 1 (more_pairs names amounts 0) ≡ pairs names amounts
unfolding more_pairs pairs
without_space [] amounts = refl
without_space (name ∷ names) amounts = refl

pub pairs_whole : (line : List ℕ) (names : List (List ℕ)) (amounts : ℕ → ℤ) (start v n from : ℕ) → v ≡ 0 →
    length line ≡ n
    → from ≡ min (start + 1) n → drop start line ≡ more_pairs (drop v names) amounts v →
    take (n - from) (drop from line) ≡ pairs names amounts
pairs_whole line names amounts start v n from none long is written =
    let all : drop start line ≡ more_pairs names amounts 0 =
    written ∙ ap (λ (k : ℕ). more_pairs (drop k names) amounts k) none in
    let place : from ≡ min (start + 1) (length line) = is ∙ ap (λ (k : ℕ). min (start + 1) k) (sym long) in
    ap (λ (k : ℕ). take (k - from) (drop from line)) (sym long) ∙ take_rest line from
    ∙ ap (λ (k : ℕ). drop k line) place ∙ drop_min (start + 1) line
    ∙ sym (drop-drop 1 start line) ∙ ap (λ (rest : List ℕ). drop 1 rest) all ∙ without_space names amounts
