use Rattle.dg_cli.proofs.Telling.{passes}
use Rattle.dg_cli.proofs.reading.serve_in.Goals as goal

pub returns-in_err-capacity : goal.returns-in_err-capacity
returns-in_err-capacity c =
    passes _ _ _ _ c.in_err-capacity.ensures c.from_residual-in_err-capacity.ensures.1 (λ t asks. (t.capacity, asks.capacity))

pub returns-in_err-workers : goal.returns-in_err-workers
returns-in_err-workers c =
    passes _ _ _ _ c.in_err-workers.ensures c.from_residual-in_err-workers.ensures.1 (λ t asks. (t.workers, asks.workers))

pub returns-in_err-seats : goal.returns-in_err-seats
returns-in_err-seats c =
    passes _ _ _ _ c.in_err-seats.ensures c.from_residual-in_err-seats.ensures.1 (λ t asks. (t.seats, asks.seats))
