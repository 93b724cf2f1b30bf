-- What makes a verdict right.
--   all_in_order    where the order in which vertices burn is that of a reduced divisor, all burn
--   is_right        a script that leads to a reduced divisor, the order in which all vertices burn there, and whether q owes
--   told_apart      a flag and a test that is right tell by their being equal whether the flag is right
use Rattle.dg_verdict.proofs.Common.{◌≡◌, ℕ, ◌<◌, Bool, true, false, List, take, refl, ◌↔◌, ◌≤ℤ◌, MatchBool, beq, Multigraph, Amounts, FiresTo, IsReduced, IsLeastBurningOrder, IsBurningOrder, may_burn, reduced_burnt, reduced_decides, at, Verdict, IsRightVerdict}
use Rattle.std.proofs.Common.{pos}

pub all_in_order : (g : Multigraph) (q : ℕ) (D : Amounts) (l : List ℕ) → IsLeastBurningOrder g q D l → IsReduced g q D →
    IsBurningOrder g q D l
all_in_order g q D l order reduced = record {
  first = order.begun.first;
  next = may_burn g q D l order;
  all = reduced_burnt g q D l order reduced;
}

pub is_right : (g : Multigraph) (q : ℕ) (D : Amounts) (x : Verdict) → q < g.size → x.script.size ≡ g.size →
    x.reduced.size ≡ g.size → at x.script q ≡ pos 0 → FiresTo g (at x.script) D (at x.reduced) →
    IsReduced g q (at x.reduced) → IsLeastBurningOrder g q (at x.reduced) (take g.size x.order) →
    ((x.winnable ≡ true) ↔ (pos 0 ≤ℤ at x.reduced q)) → IsRightVerdict g q D x
is_right g q D x vertex script_size reduced_size at_q led reduced order told =
    let (to, from) = reduced_decides g q D (at x.reduced) vertex (at x.script, led) reduced in
    record {
      script_size = script_size;
      reduced_size = reduced_size;
      at_q = at_q;
      led = led;
      reduced = reduced;
      order = all_in_order g q (at x.reduced) (take g.size x.order) order reduced;
      winnable = (λ yes. from (told.0 yes), λ winnable. told.1 (to winnable));
    }

pub told_apart : (flag test : Bool) (W P : Type 0) → ((test ≡ true) ↔ W) → (((flag ≡ true) ↔ W) → P) →
    (P → ((flag ≡ true) ↔ W)) → MatchBool (beq flag test) P (¬ P)
told_apart true true W P told from to = from told
told_apart true false W P told from to = λ right. let clash : false ≡ true = told.1 ((to right).0 refl) in absurd (cc)
told_apart false true W P told from to = λ right. let clash : false ≡ true = (to right).1 (told.0 refl) in absurd (cc)
told_apart false false W P told from to = from told
