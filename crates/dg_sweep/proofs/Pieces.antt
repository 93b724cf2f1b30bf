-- Pieces of bytes that workers answer.
--   all_both, all_joined, all_and_one   what holds of each element of two lists; of two results; and of one more
--   piece_at                   the text that answers a piece answers the piece at its place
--   pieces_more                one piece more
--   leads_none, leads_piece    no pieces, and one piece more
--   puts_piece                 the text has the answers to one piece more
--   puts_all                   it has those to all
--   leads_rest                 pieces, and then what follows them
use Rattle.dg_sweep.proofs.Common.{◌≡◌, ℕ, ◌+◌, ◌<◌, ◌≤◌, List, [], ◌∷◌, ◌++◌, length, map, get_or, All, Bor, Result, Ok, Err, IfOk, IsOkAnd, refl, sym, ap, subst, ◌∙◌, arith, append_assoc, append-nil, flat_map, take, get_or-map, take_more, take_all, All-append, All-cons, All-nil, All-get_or, flat_map-append, AnswersFront, EndsWithNewline, AnswersPiece, LeadsPiece, Rule}
use Rattle.dg_sweep.proofs.Taken.{pieces_both}

pub all_both : {X : Type 0} (P : X → Type 0) (xs ys zs : List X) → All P xs → All P ys → zs ≡ xs ++ ys → All P zs
all_both P xs ys zs here there e = subst (All P) (sym e) (All-append P xs ys here there)

pub all_joined : {X V E : Type 0} (P : X → Type 0) (items : V → List X) (here there done : Result V E)
    → IfOk here (λ v. All P (items v)) → IfOk there (λ v. All P (items v))
    → IfOk done (λ v. IsOkAnd here (λ a. IsOkAnd there (λ b. items v ≡ items a ++ items b)))
    → IfOk done (λ v. All P (items v))
all_joined P items here there (Err fault) p q e = tt
all_joined P items (Ok a) (Ok b) (Ok v) p q e = all_both P (items a) (items b) (items v) p q e
all_joined P items (Ok a) (Err fault) (Ok v) p q e = absurd e
all_joined P items (Err fault) there (Ok v) p q e = absurd e

pub all_and_one : {X : Type 0} (P : X → Type 0) (xs zs : List X) (x : X) → All P xs → P x → zs ≡ xs ++ x ∷ [] → All P zs
all_and_one P xs zs x all one e = all_both P xs (x ∷ []) zs all (All-cons P x [] one (All-nil P)) e

pub piece_at : (rule : Rule) (pieces : List (Bor (List ℕ))) (place place' : ℕ) (d : Bor (List ℕ))
    (text : List ℕ) → place < length pieces → place' ≡ place → AnswersPiece rule (get_or pieces place d).now text
    → AnswersPiece rule (get_or (map (λ (piece : Bor (List ℕ)). piece.now) pieces) place' []) text
piece_at rule pieces place place' d text within e answered =
    subst (λ l. AnswersPiece rule l text)
    (sym (ap (λ n. get_or (map (λ (piece : Bor (List ℕ)). piece.now) pieces) n []) e
    ∙ get_or-map (λ (piece : Bor (List ℕ)). piece.now) pieces place d [] within)) answered

flat_more : (pieces : List (Bor (List ℕ))) (piece : Bor (List ℕ))
    → flat_map (λ (p : Bor (List ℕ)). p.now) (pieces ++ piece ∷ []) ≡ flat_map (λ (p : Bor (List ℕ)). p.now) pieces ++ piece.now
flat_more pieces piece =
    flat_map-append (λ (p : Bor (List ℕ)). p.now) pieces (piece ∷ [])
    ∙ ap (λ l. flat_map (λ (p : Bor (List ℕ)). p.now) pieces ++ l) (append-nil piece.now)

pub pieces_more : (pieces pieces' : List (Bor (List ℕ))) (piece : Bor (List ℕ)) (bytes rest after : List ℕ)
    → bytes ≡ flat_map (λ (p : Bor (List ℕ)). p.now) pieces ++ rest → rest ≡ piece.now ++ after → pieces' ≡ pieces ++ piece ∷ []
    → bytes ≡ flat_map (λ (p : Bor (List ℕ)). p.now) pieces' ++ after
pieces_more pieces pieces' piece bytes rest after whole cut grown =
    let flat = flat_map (λ (p : Bor (List ℕ)). p.now) pieces in
    whole ∙ ap (λ l. flat ++ l) cut ∙ sym (append_assoc flat piece.now after)
    ∙ ap (λ l. l ++ after) (sym (ap (flat_map (λ (p : Bor (List ℕ)). p.now)) grown ∙ flat_more pieces piece))

pub leads_none : (rule : Rule) → LeadsPiece rule [] []
leads_none rule back rest text answers = answers

pub leads_piece : (rule : Rule) (front piece said text : List ℕ) → LeadsPiece rule front said →
    EndsWithNewline piece
    → AnswersPiece rule piece text
    → LeadsPiece rule (front ++ piece) (said ++ text)
leads_piece rule front piece said text leads ends answered back rest more answers =
    subst (λ l. AnswersFront rule l rest ((said ++ text) ++ more)) (sym (append_assoc front piece back))
    (subst (λ l. AnswersFront rule (front ++ (piece ++ back)) rest l) (sym (append_assoc said text more))
    (leads (piece ++ back) rest (text ++ more)
    (pieces_both rule (piece ++ back) piece back answered.0 rest rest text more (text ++ more) ends refl answered.1 answers
    refl refl)))

pub leads_rest : (rule : Rule) (bytes front back rest old mid new : List ℕ)
    → (said : List ℕ) × LeadsPiece rule front said × (mid ≡ old ++ said)
    → bytes ≡ front ++ back
    → (more : List ℕ) × AnswersFront rule back rest more × (new ≡ mid ++ more)
    → (said : List ℕ) × AnswersFront rule bytes rest said × (new ≡ old ++ said)
leads_rest rule bytes front back rest old mid new first whole second =
    let (said, leads, grown) = first in
    let (more, answers, grown') = second in (
      said ++ more,
      subst (λ l. AnswersFront rule l rest (said ++ more)) (sym whole) (leads back rest more answers),
      grown' ∙ ap (λ l. l ++ more) grown ∙ append_assoc old said more,
    )

pub puts_piece : (rule : Rule) (pieces : List (Bor (List ℕ))) (n : ℕ) (old mid new : List ℕ)
    → n < length pieces → All (λ (p : Bor (List ℕ)). EndsWithNewline p.now) pieces
    → (said : List ℕ) × LeadsPiece rule (flat_map (λ (p : Bor (List ℕ)). p.now) (take n pieces)) said × (mid ≡ old ++ said)
    → (said : List ℕ) × AnswersPiece rule (get_or (map (λ (p : Bor (List ℕ)). p.now) pieces) n []) said × (new ≡ mid ++ said)
    → (said : List ℕ) × LeadsPiece rule (flat_map (λ (p : Bor (List ℕ)). p.now) (take (n + 1) pieces)) said × (new ≡
    old ++ said)
puts_piece rule [] n old mid new within ends first second = absurd (omega (arith, within))
puts_piece rule (p ∷ ps) n old mid new within ends first second =
    let pieces = p ∷ ps in
    let (said, leads, grown) = first in
    let (more, answered, grown') = second in
    let piece = get_or pieces n p in
    let answers : AnswersPiece rule piece.now more =
    subst (λ l. AnswersPiece rule l more) (get_or-map (λ (p : Bor (List ℕ)). p.now) pieces n p [] within) answered in
    let front = flat_map (λ (p : Bor (List ℕ)). p.now) (take n pieces) in
    let longer : flat_map (λ (p : Bor (List ℕ)). p.now) (take (n + 1) pieces) ≡ front ++ piece.now =
    ap (flat_map (λ (p : Bor (List ℕ)). p.now)) (take_more pieces n p within) ∙ flat_more (take n pieces) piece in (
      said ++ more,
      subst (λ l. LeadsPiece rule l (said ++ more)) (sym longer)
          (leads_piece rule front piece.now said more leads
          (All-get_or (λ (p : Bor (List ℕ)). EndsWithNewline p.now) pieces n p within ends) answers),
      grown' ∙ ap (λ l. l ++ more) grown ∙ append_assoc old said more,
    )

pub puts_all : (rule : Rule) (pieces : List (Bor (List ℕ))) (n : ℕ) (old new : List ℕ) → length pieces ≤ n
    → (said : List ℕ) × LeadsPiece rule (flat_map (λ (p : Bor (List ℕ)). p.now) (take n pieces)) said × (new ≡ old ++ said)
    → (said : List ℕ) × LeadsPiece rule (flat_map (λ (p : Bor (List ℕ)). p.now) pieces) said × (new ≡ old ++ said)
puts_all rule pieces n old new all put =
    subst (λ l. (said : List ℕ) × LeadsPiece rule (flat_map (λ (p : Bor (List ℕ)). p.now) l) said × (new ≡ old ++ said))
    (take_all n pieces all) put
