-- A `&` to a `Witness` says the same in each thread.
use Rattle.dg_log.proofs.Common.{RattleType, IsSync, sendable, shape, Struct}
use Rattle.dg_log.specs.contracts.witness.Witness as witness

pub sync : (T : RattleType) → IsSync (witness.the_row T)
sync T = let fields : IsSync (Struct (shape (witness.the_type T))) = search sendable depth 20 in
    record { shared = λ k b o κ. (fields.shared (tt, tt) b o κ, tt) }
