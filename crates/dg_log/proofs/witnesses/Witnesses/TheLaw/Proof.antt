-- A `&` to a `Witnesses` holds what it knows, which can be had twice. Assumes `Logic`.
use Rattle.dg_log.proofs.Common.{snd∗, before, sem, RattleType, Laws, copy_shared, field_copy, of_Lends, noted_cells}
use Rattle.std.specs.contracts.marker.PhantomData as phantom
use Rattle.dg_log.specs.contracts.witnesses.Witnesses as witnesses
use Rattle.dg_log.proofs.AllNoted.{all_twice}
use Rattle.dg_log.proofs.Tokens.{lends_twice}
use Rattle.dg_log.proofs.witnesses.Witnesses.TheLaw.Statement.{statement}

pub shares : (T : RattleType) (L : Laws T) → statement T L
shares T L = of_Lends (witnesses.struct T) (witnesses.the_codes T.Denot T.coded (phantom.the_row T).coded) (witnesses.the_heap T)
    (witnesses.the_lent T)
    (λ f p. record {
      contraction = λ M 𝓤 𝓛 κ. all_twice 𝓛 T f.items;
      mono = λ M 𝓤 𝓛 κ' κ. snd∗ 𝓤 (sem 𝓛 (before κ' κ)) (sem 𝓛 (noted_cells T f.items));
    })
    (copy_shared (phantom.the_field T) (field_copy (phantom.the_type T) tt), tt)
    (λ M 𝓤 𝓛 f p. lends_twice 𝓛 (noted_cells T f.items) (all_twice 𝓛 T f.items) (witnesses.the_row T).lives)
