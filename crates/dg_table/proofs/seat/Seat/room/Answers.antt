-- Space is made in the two lists alone, whose items stay.
use Rattle.dg_table.proofs.Common.{[], sym, ap, ◌∙◌, SeatView}
use Rattle.std.proofs.Common.{append-nil}
use Rattle.dg_table.proofs.seat.Seat.room.Goals as goal

pub returns-in_err-reserve_both-clause-kept : goal.returns-in_err-reserve_both-clause-kept
returns-in_err-reserve_both-clause-kept g c = record {
  number = ap (λ (s : SeatView). s.number) c.self.view_is;
  mine = c.reserve_both.ensures.mine ∙ ap (λ (s : SeatView). s.mine) c.self.view_is;
  told = c.reserve_both.ensures.told ∙ ap (λ (s : SeatView). s.told) c.self.view_is;
  prefix = ap (λ (s : SeatView). s.prefix) c.self.view_is;
  met = ([], ap (λ (s : SeatView). s.met) c.self.view_is ∙ sym (append-nil c.args.self.now.met));
}

pub returns-clause-kept : goal.returns-clause-kept
returns-clause-kept g c = record {
  number = ap (λ (s : SeatView). s.number) c.self.view_is;
  mine = c.reserve_both.ensures.mine ∙ ap (λ (s : SeatView). s.mine) c.self.view_is;
  told = c.reserve_both.ensures.told ∙ ap (λ (s : SeatView). s.told) c.self.view_is;
  prefix = ap (λ (s : SeatView). s.prefix) c.self.view_is;
  met = ([], ap (λ (s : SeatView). s.met) c.self.view_is ∙ sym (append-nil c.args.self.now.met));
}
