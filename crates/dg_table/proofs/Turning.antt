-- A turn that is barred before the choice is asked.
--   barred_turn      the choice was not asked, as it should not be
--   turn_refused     what is known of a turn that is refused under the lock
use Rattle.dg_table.proofs.Common.{◌≡◌, Option, arith, refl, inr, Mut, Bor, Multigraph, Vector, Move, RefusesStep, SeatView, IsAdmissible, asking, IsAskedToEnter, Fault, OutOfMemory, Full, Log, TableData, Written}

pub barred_turn : {F : Type 0} (c : Mut F (Bor Multigraph × (Bor Vector × Unit {0})) (Option Move)) (f : F)
    (table : TableData) (p : Written) (x : SeatView) (e : Fault) → RefusesStep table p p x e →
    (e ≡ Log → ¬ IsAdmissible p.entries x) → IsAskedToEnter c table p.entries x (asking f f)
barred_turn c f table p x OutOfMemory refused barred = absurd refused
barred_turn c f table p x Full refused barred = inr ((λ may. omega (arith, may.0, refused.0.full)), refl)
barred_turn c f table p x Log refused barred = inr ((λ may. barred refl may.1), refl)
