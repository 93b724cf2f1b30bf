-- A `&` to a `Witnesses` says the same in each thread.
use Rattle.dg_log.proofs.Common.{RattleType, IsSync, sendable, shape, Struct}
use Rattle.dg_log.specs.contracts.witnesses.Witnesses as witnesses
use Rattle.dg_log.proofs.AllNoted.{all_keyless}

pub sync : (T : RattleType) → IsSync (witnesses.the_row T)
sync T = let fields : IsSync (Struct (shape (witnesses.the_type T))) = search sendable depth 20 in
    record { shared = λ f b o κ. (fields.shared (tt, tt) b o κ, all_keyless T f.items) }
