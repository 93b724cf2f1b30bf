-- The divisor of an order of the vertices, and that of the reversed order.
--   one_counts             an edge counts at one of its ends, where exactly one of two tests fails
--   earlier-reversed       each edge leads to an earlier vertex, or to one that is earlier in the reversed order
--   order_divisor-reversed    so the divisors of an order and of the reversed one add up to the canonical divisor
--   paired_total           a sum over all ordered pairs, where the two orders of a pair share what it has
--   valence_total          so the valences add up to two for each edge
--   earlier_total          in any order, each edge leads to an earlier vertex from one of its ends
--   order_divisor-degree   so the divisor of an order has the degree g - 1
--   canonical-degree       and the canonical divisor has the degree 2g - 2
use Rattle.dg_theory.proofs.Common.{if◌then◌else◌, ◌≡◌, ℕ, zero, suc, ◌+◌, ◌<◌, Bool, true, false, arith, refl, ap, sym, ◌∙◌, ◌≤ℤ◌, ints, pos, ◌+ℤ◌, ◌-ℤ◌, sum_below, nat_sum_below, Multigraph, IsMultigraph, edges_between, valence, edge_count, genus, Amounts, degree, DivisorsAgreeOn, canonical, AreApart, earlier, order_divisor}
use Rattle.dg_theory.proofs.SumLaws.{sum_below-cong, sum_below-add}
use Rattle.dg_theory.proofs.SumTotals.{sum_below-total}
use Rattle.dg_theory.proofs.TotalLaws.{nat_sum_below-cong, nat_sum_below-add}
use Rattle.dg_theory.proofs.Leaving.{burnt_weight-all}
use Rattle.dg_theory.proofs.Levels.{level, level_in, level_off}
use Rattle.dg_theory.proofs.Equivalence.{opposite}

one_counts : (b c : Bool) (e : ℕ) → (b ≡ true → c ≡ true → e ≡ 0) → (b ≡ false → c ≡ false → ⊥) →
    (if b then 0 else e) + (if c then 0 else e) ≡ e
one_counts true true e both neither = omega (arith, both refl refl)
one_counts true false e both neither = omega arith
one_counts false true e both neither = omega arith
one_counts false false e both neither = absurd (neither refl refl)

-- no edges join two vertices with the same place
no_edges : (g : Multigraph) (place : Amounts) (v w : ℕ) → IsMultigraph g → AreApart g.size place → v < g.size →
    w < g.size → place v ≤ℤ place w → place w ≤ℤ place v → edges_between g v w ≡ 0
no_edges g place v w graph apart inside within less more =
    let same : v ≡ w = apart v w inside within (omega (arith, ints)) in
    ap (λ (u : ℕ). edges_between g u w) same ∙ graph.loopless w

earlier-reversed : (g : Multigraph) (place : Amounts) (v : ℕ) → IsMultigraph g → AreApart g.size place → v < g.size →
    earlier g place v + earlier g (opposite place) v ≡ valence g v
earlier-reversed g place v graph apart inside =
    sym (nat_sum_below-add g.size _ _)
    ∙ nat_sum_below-cong g.size _ (edges_between g v) (λ w within.
    one_counts (level place (place v) w) (level (opposite place) (opposite place v) w) (edges_between g v w)
    (λ later sooner. no_edges g place v w graph apart inside within (level_in place (place v) w later)
    (omega (arith, ints, level_in (opposite place) (opposite place v) w sooner)))
    (λ sooner later. omega (
      arith,
      ints,
      level_off place (place v) w sooner,
      level_off (opposite place) (opposite place v) w later,
    )))

pub order_divisor-reversed : (g : Multigraph) (place : Amounts) → IsMultigraph g → AreApart g.size place →
    DivisorsAgreeOn g.size (canonical g) (λ v. order_divisor g place v +ℤ order_divisor g (opposite place) v)
order_divisor-reversed g place graph apart v inside = omega (arith, ints, earlier-reversed g place v graph apart inside)

pub paired_total : (n : ℕ) (h e : ℕ → ℕ → ℕ) → ((v w : ℕ) → v < n → w < n → h v w + h w v ≡ e v w) →
    ((v : ℕ) → e v v ≡ 0) → nat_sum_below n (λ v. nat_sum_below n (h v)) ≡ nat_sum_below n (λ v. nat_sum_below v (e v))
paired_total zero h e shared loopless = refl
paired_total (suc n) h e shared loopless =
    let before : nat_sum_below n (λ v. nat_sum_below n (h v)) ≡ nat_sum_below n (λ v. nat_sum_below v (e v)) =
    paired_total n h e (λ v w inside within. shared v w (omega arith) (omega arith)) loopless in
    let column : nat_sum_below n (λ v. nat_sum_below n (h v) + h v n)
    ≡ nat_sum_below n (λ v. nat_sum_below n (h v)) + nat_sum_below n (λ v. h v n) =
    nat_sum_below-add n (λ v. nat_sum_below n (h v)) (λ v. h v n) in
    let row : nat_sum_below n (h n) + nat_sum_below n (λ v. h v n) ≡ nat_sum_below n (e n) =
    sym (nat_sum_below-add n (h n) (λ v. h v n))
    ∙ nat_sum_below-cong n _ (e n) (λ w within. shared n w (omega arith) (omega arith)) in
    let corner : h n n + h n n ≡ e n n = shared n n (omega arith) (omega arith) in
    omega (arith, loopless n)

pub valence_total : (g : Multigraph) → IsMultigraph g → nat_sum_below g.size (valence g) ≡ edge_count g + edge_count g
valence_total g graph =
    let e : ℕ → ℕ → ℕ = edges_between g in
    paired_total g.size e (λ v w. e v w + e v w) (λ v w _ _. omega (arith, graph.symmetric v w))
    (λ v. omega (arith, graph.loopless v))
    ∙ nat_sum_below-cong g.size _ _ (λ v _. nat_sum_below-add v (e v) (e v))
    ∙ nat_sum_below-add g.size _ _

pub earlier_total : (g : Multigraph) (place : Amounts) → IsMultigraph g → AreApart g.size place →
    nat_sum_below g.size (earlier g place) ≡ edge_count g
earlier_total g place graph apart =
    paired_total g.size (λ v w. if level place (place v) w then 0 else edges_between g v w) (edges_between g)
    (λ v w inside within.
    let back : edges_between g w v ≡ edges_between g v w = graph.symmetric w v in
    ap (λ (e : ℕ). (if level place (place v) w then 0 else edges_between g v w) +
    (if level place (place w) v then 0 else e)) back
    ∙ one_counts (level place (place v) w) (level place (place w) v) (edges_between g v w)
    (λ later sooner. no_edges g place v w graph apart inside within (level_in place (place v) w later)
    (level_in place (place w) v sooner))
    (λ sooner later. omega (arith, ints, level_off place (place v) w sooner, level_off place (place w) v later)))
    graph.loopless

pub order_divisor-degree : (g : Multigraph) (place : Amounts) → IsMultigraph g → AreApart g.size place →
    degree g.size (order_divisor g place) ≡ genus g -ℤ pos 1
order_divisor-degree g place graph apart =
    let all : sum_below g.size (λ v. order_divisor g place v +ℤ pos 1)
    ≡ degree g.size (order_divisor g place) +ℤ pos g.size =
    burnt_weight-all g.size (order_divisor g place) (λ _. false) (λ _ _. refl) in
    let edges : sum_below g.size (λ v. order_divisor g place v +ℤ pos 1) ≡ pos (nat_sum_below g.size (earlier g place)) =
    sum_below-total g.size _ (earlier g place) (λ v _. omega (arith, ints)) in
    omega (arith, ints, earlier_total g place graph apart)

pub canonical-degree : (g : Multigraph) → IsMultigraph g → degree g.size (canonical g) ≡ (genus g +ℤ genus g) -ℤ pos 2
canonical-degree g graph =
    let place : Amounts = λ v. pos v in
    let apart : AreApart g.size place = λ v w _ _ same. omega (arith, ints) in
    let apart' : AreApart g.size (opposite place) = λ v w _ _ same. omega (arith, ints) in
    let both : degree g.size (canonical g)
    ≡ degree g.size (order_divisor g place) +ℤ degree g.size (order_divisor g (opposite place)) =
    sum_below-cong g.size (canonical g) _ (order_divisor-reversed g place graph apart)
    ∙ sum_below-add g.size (order_divisor g place) (order_divisor g (opposite place)) in
    omega (arith, ints, order_divisor-degree g place graph apart, order_divisor-degree g (opposite place) graph apart')
