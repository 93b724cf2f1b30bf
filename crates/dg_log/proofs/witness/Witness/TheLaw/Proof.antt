-- A `&` to a `Witness` holds what it knows, which can be had twice. Assumes `Logic`.
use Rattle.dg_log.proofs.Common.{snd∗, before, sem, RattleType, Laws, copy_shared, field_copy, of_Lends, Some, noted, mark}
use Rattle.std.specs.contracts.marker.PhantomData as phantom
use Rattle.dg_log.specs.contracts.witness.Witness as witness
use Rattle.dg_log.proofs.Tokens.{lends_twice}
use Rattle.dg_log.proofs.witness.Witness.TheLaw.Statement.{statement}

pub shares : (T : RattleType) (L : Laws T) → statement T L
shares T L = of_Lends (witness.struct T) (witness.the_codes T.Denot T.coded (phantom.the_row T).coded) (witness.the_heap T)
    (witness.the_lent T)
    (λ k p. record {
      contraction = λ M 𝓤 𝓛 κ. 𝓛.names.res_dup k.cell (mark T k.cell k.value);
      mono = λ M 𝓤 𝓛 κ' κ. snd∗ 𝓤 (sem 𝓛 (before κ' κ)) (sem 𝓛 (noted T k.cell (Some k.value)));
    })
    (copy_shared (phantom.the_field T) (field_copy (phantom.the_type T) tt), tt)
    (λ M 𝓤 𝓛 k p. lends_twice 𝓛 (noted T k.cell (Some k.value)) (𝓛.names.res_dup k.cell (mark T k.cell k.value))
    (witness.the_row T).lives)
