-- Entries that lines make, one line after another.
--   history_none   no entry is a history of a table
--   ascend_from    numbers that are b or more are a or more, where that is less
--   ascend_more    numbers that ascend, and greater ones after them, ascend
--   below_stand    entries that stand in a history have numbers below its length
--   stand_on       they stand in what begins with it
--   stand_both     so do two lists of them, one after the other
--   comes_from     what comes after a history comes after its beginning
--   met_keeps      a seat that met a history knows what it knew
--   gained_met     what a seat gained after it met a history, it gained
--   line_one       a line makes at most one entry
--   hears_one      whatever its outcome
--   last_made      what was made is the last entry, where there is one more
use Rattle.dg_session.proofs.Common.{◌≡◌, ℕ, ◌+◌, ◌-◌, ◌<◌, ◌≤◌, inl, inr, List, [], ◌∷◌, ◌++◌, length, length-append, Option, Some, None, slice_get, refl, sym, ap, subst, ◌∙◌, arith, slice_get_within, same_Some, legal_none, Entry, IsHistoryOf, Command, Call, Commit, Rank, AreBelow, StandIn, IsPrefixOf, SeatView, Keeps, HasMet, begins_on, begins_length, stand_longer, Ascend, ComesAfter, Setup, Gains, AnswersCommand, AnswersLine, OfLine, Result, Ok, Err, SessionEnd, Memory, TableData}

pub history_none : (table : TableData) → IsHistoryOf table []
history_none table = record { legal = legal_none table.start; few = omega arith; seated = λ k e at. absurd (cc) }

pub ascend_from : (a b : ℕ) (ps : List (ℕ × Entry)) → a ≤ b → Ascend b ps → Ascend a ps
ascend_from a b [] few up = tt
ascend_from a b (p ∷ ps) few up = (omega (arith, few, up.0), up.1)

pub ascend_more : (a n : ℕ) (ps qs : List (ℕ × Entry)) → a ≤ n → Ascend a ps → AreBelow n ps →
    Ascend n qs
    → Ascend a (ps ++ qs)
ascend_more a n [] qs few up below more = ascend_from a n qs few more
ascend_more a n (p ∷ ps) qs few up below more =
    (up.0, ascend_more (p.0 + 1) n ps qs (omega (arith, below.0)) up.1 below.1 more)

pub below_stand : (H : List Entry) (ps : List (ℕ × Entry)) → StandIn H ps → AreBelow (length H) ps
below_stand H [] stand = tt
below_stand H (p ∷ ps) stand = (slice_get_within H p.0 p.1 stand.0, below_stand H ps stand.1)

pub stand_on : (K H : List Entry) (ps : List (ℕ × Entry)) → IsPrefixOf K H → StandIn K ps → StandIn H ps
stand_on K H ps (rest, is) stand = subst (λ L. StandIn L ps) (sym is) (stand_longer K rest ps stand)

pub stand_both : (H : List Entry) (ps qs : List (ℕ × Entry)) → StandIn H ps → StandIn H qs → StandIn H (ps ++ qs)
stand_both H [] qs first second = second
stand_both H (p ∷ ps) qs first second = (first.0, stand_both H ps qs first.1 second)

pub comes_from : (K M H : List Entry) (made : List (ℕ × Entry)) → IsPrefixOf K M → ComesAfter M made H
    → ComesAfter K made H
comes_from K M H made begins comes = record {
  begins = begins_on K M H begins comes.begins;
  stand = comes.stand;
  after = ascend_from (length K) (length M) made (begins_length K M begins) comes.after;
}

pub met_keeps : {L : List Entry} {x m : SeatView} → HasMet L x m → Keeps x m
met_keeps meets = record {
  number = meets.number;
  mine = meets.mine;
  told = meets.told;
  prefix = meets.prefix;
  met = meets.met.first;
}

module _ {x m : SeatView} (meets : Keeps x m) where
  pub gained_met : (y : SeatView) (made : List (ℕ × Entry)) → Gains m y made → Gains x y made
  gained_met y made g = record {
    number = g.number ∙ meets.number;
    mine = g.mine ∙ ap (λ ps. ps ++ made) meets.mine;
    looks = g.looks;
    told = g.told ∙ ap (λ ps. ps ++ g.looks) meets.told;
    named = g.named;
    stand = g.stand;
    prefix = subst (λ K. IsPrefixOf K y.prefix) meets.prefix g.prefix;
    order = comes_from x.met m.met y.met made meets.met g.order;
    still = λ none. g.still none ∙ meets.prefix;
  }

command_one : (t : Setup) (k : Option ℕ) (command : Command) (made : List (ℕ × Entry)) (after : Option ℕ)
    (said : List ℕ) → AnswersCommand t k command made after said → length made ≤ 1
command_one t k (Call plain) made after said a = omega (arith, ap length a.2)
command_one t None Commit made after said a = omega (arith, ap length a.0)
command_one t (Some i) Commit made after said a = omega (arith, ap length a.2)
command_one t None (Rank n) made after said a = omega (arith, ap length a.0)
command_one t (Some i) (Rank n) made after said a = elim a [
  | inl prefix ↦ omega (arith, ap length prefix.1.0)
  | inr within ↦ omega (arith, ap length within.1.2)
]

line_one : (t : Setup) (k : Option ℕ) (line : List ℕ) (made : List (ℕ × Entry)) (after : Option ℕ) (said : List ℕ)
    → AnswersLine t k line made after said → length made ≤ 1
line_one t k line made after said a = elim a [
  | inl bad ↦ omega (arith, ap length bad.2.0)
  | inr good ↦ command_one t k good.0 made after said good.2
]

pub hears_one : (t : Setup) (line : List ℕ) (y : SeatView) (look : Option ℕ) (made : List (ℕ × Entry)) (after : Option ℕ)
    (o : Result (List ℕ) SessionEnd) → OfLine t line y look made after o → length made ≤ 1
hears_one t line y look made after (Ok text) h = line_one t look line made after text h
hears_one t line y look made after (Err Memory) h = elim h [
  | inl none ↦ omega (arith, ap length none)
  | inr a ↦ line_one t look line made a.0 a.1 a.2
]
hears_one t line y look made after (Err end) h = omega (arith, ap length h.0)

pub last_made : (before made all : List (ℕ × Entry)) (r : ℕ × Entry) → all ≡ before ++ made
    → length before < length all → length made ≤ 1 → slice_get all (length all - 1) ≡ Some r → made ≡ r ∷ []
last_made before [] all r is more few at = absurd (omega (arith, ap length is, length-append before [], more))
last_made before (p ∷ []) all r is more few at =
    let size = length-append before (p ∷ []) in
    let place : length all - 1 ≡ length before = omega (arith, ap length is, size) in
    let there : slice_get all (length all - 1) ≡ Some p =
    ap (slice_get all) place ∙ ap (λ l. slice_get l (length before)) is ∙ seam before p in
    ap (λ q. q ∷ []) (same_Some p r (sym there ∙ at))
  where
    seam : (ps : List (ℕ × Entry)) (p : ℕ × Entry) → slice_get (ps ++ p ∷ []) (length ps) ≡ Some p
    seam [] p = refl
    seam (q ∷ ps) p = seam ps p
last_made before (p ∷ q ∷ made) all r is more few at = absurd (omega (arith, few))
