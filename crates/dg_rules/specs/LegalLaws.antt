-- The laws of legal histories.
--   EmptyIsLegal         == a history with no entry is legal
--   ExtensionIsLegal     == a legal history stays legal by an entry that is a seat's, looks back to a look
--                           if it asks for a verdict or for a rank test, and is answered rightly
--   PrefixIsLegal        == the first entries of a legal history are a legal history, however many they are
--   FrontIsLegal         == what comes first in a legal history of two parts is a legal history
--   IsSizedReply n reply == each divisor, script, wide amount and graph in the reply is one of n vertices
--   LegalIsSized         == each reply of a legal history has the size of the start
--   LegalGraphsHold      == a legal history, from a start on a graph within the limits, leads to a position
--                           on one
--   LegalLooksShow       == a look of a legal history showed what `IsLookAt` says, whatever drift is kept
--                           with it
use Rattle.std.specs.Prelude.{◌≡◌, ℕ, List, [], ◌∷◌, ◌++◌, take, slice_get, Some, ⊤}
use Rattle.dg_rules.specs.Common.{IsGraph, StartData, AtLeast, Below}
use Rattle.dg_rules.specs.History.{position_after}
use Rattle.dg_rules.specs.Replies.{Replies}
use Rattle.dg_rules.specs.Legal.{IsSeatNumber, LooksBack, IsLegal}
use Rattle.dg_rules.specs.Look.{IsLookAt}
use Rattle.dg_rules.specs.declared.entry.Entry.{Entry}
use Rattle.dg_rules.specs.declared.entry.Request.TheVariants.{Look}
use Rattle.dg_rules.specs.declared.entry.Reply.{Reply}
use Rattle.dg_rules.specs.declared.entry.Reply.TheVariants.{Moved, Given, Joined, Looked, Verdict, Rank, Stale, Won, NotWon, Refused}
use Rattle.dg_rules.specs.declared.look.LookData.{LookData}

abbrev pub EmptyIsLegal : Type 0
EmptyIsLegal = (o : StartData) → IsLegal o []

abbrev pub ExtensionIsLegal : Type 0
ExtensionIsLegal = (o : StartData) (H : List Entry) (e : Entry) → IsLegal o H → IsSeatNumber e.seat →
    LooksBack H e.request →
    Replies o H e.request e.reply → IsLegal o (H ++ e ∷ [])

abbrev pub PrefixIsLegal : Type 0
PrefixIsLegal = (o : StartData) (H : List Entry) (k : ℕ) → IsLegal o H → IsLegal o (take k H)

abbrev pub FrontIsLegal : Type 0
FrontIsLegal = (o : StartData) (K L : List Entry) → IsLegal o (K ++ L) → IsLegal o K

abbrev pub IsSizedReply : ℕ → Reply → Type 0
IsSizedReply n (Moved d) = d.size ≡ n
IsSizedReply n (Given gifts d) = d.size ≡ n
IsSizedReply n (Joined gifts d) = d.size ≡ n
IsSizedReply n (Looked gifts d graph) = (d.size ≡ n) × (graph.size ≡ n)
IsSizedReply n (Verdict x) = (x.script.size ≡ n) × (x.reduced.size ≡ n)
IsSizedReply n (Rank (AtLeast k)) = ⊤
IsSizedReply n (Rank (Below k d)) = d.size ≡ n
IsSizedReply n (Stale gifts) = ⊤
IsSizedReply n Won = ⊤
IsSizedReply n NotWon = ⊤
IsSizedReply n (Refused refusal) = ⊤

abbrev pub LegalIsSized : Type 0
LegalIsSized = (o : StartData) (H : List Entry) (i : ℕ) (e : Entry) → IsLegal o H →
    slice_get H i ≡ Some e → IsSizedReply o.graph.size e.reply

abbrev pub LegalGraphsHold : Type 0
LegalGraphsHold = (o : StartData) (H : List Entry) → IsGraph o.graph → IsLegal o H →
    IsGraph (position_after o H).graph

abbrev pub LegalLooksShow : Type 0
LegalLooksShow = (o : StartData) (H : List Entry) (e : Entry) (x : LookData) → IsLegal o H →
    slice_get H x.number ≡ Some e →
    e.request ≡ Look → e.reply ≡ Looked x.gifts x.position x.graph → IsLookAt o H x
