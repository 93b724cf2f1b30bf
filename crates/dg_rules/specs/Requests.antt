-- What calls ask.
--   call_request call     == the request that a call of the game makes
--   choice_request choice == that of a choice: its move, and a claim if it has none
use Rattle.std.specs.Prelude.{Option, Some, None}
use Rattle.dg_rules.specs.Common.{Move}
use Rattle.dg_rules.specs.declared.entry.Plain.{Plain}
use Rattle.dg_rules.specs.declared.entry.Plain.TheVariants as plain
use Rattle.dg_rules.specs.declared.entry.Request.{Request}
use Rattle.dg_rules.specs.declared.entry.Request.TheVariants as request

abbrev pub call_request : Plain → Request
call_request (plain.Move m) = request.Move m
call_request (plain.Gift v x) = request.Gift v x
call_request (plain.Join u v) = request.Join u v
call_request plain.Look = request.Look
call_request plain.Claim = request.Claim

abbrev pub choice_request : Option Move → Request
choice_request (Some m) = request.Move m
choice_request None = request.Claim
