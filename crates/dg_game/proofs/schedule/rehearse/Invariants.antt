use Rattle.dg_game.proofs.Common.{◌≡◌, ◌≤◌, length, vec_capacity, min, IsRehearsalAfter, MAX_ENTRIES}
use Rattle.dg_game.proofs.schedule.rehearse.Given as goal

abbrev pub invariant-loop-step : goal.invariant-loop-step
invariant-loop-step g l = record {
  room : min (length l.steps) MAX_ENTRIES ≤ vec_capacity l.history;
  few : l.step-index ≤ MAX_ENTRIES;
  played : length l.history.items ≡ l.step-index;
  playing : IsRehearsalAfter l.start l.steps l.history.items l.rehearsal;
}
