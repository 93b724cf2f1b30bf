-- The exchange of two vertices.
--   by_exchange          what holds of u and v, of v and u, and of each other vertex and itself, holds of each and what is
--                        exchanged for it
--   exchange-twice       done twice it changes nothing
--   exchange-below       it takes vertices to vertices
--   exchange-same        what is the same at u and v stays as it is
--   sum_below-exchanged  so does a sum over the vertices
--   edges-exchanged      if the two are twins, so does the number of edges between any two vertices
--   gain-exchanged       and what a vertex gains by the exchanged script is what that in its place gains by the script
--   win_exchanged        the law that an exchange of twins keeps winnability
use Rattle.dg_theory.proofs.Common.{◌≡◌, ◌≢◌, ℕ, ◌<◌, arith, refl, sym, ap, ◌∙◌, ⊎_elim, ints, cases_eq, nat_tests, ℤ, pos, ◌+ℤ◌, ◌-ℤ◌, ◌*ℤ◌, sum_below, Multigraph, IsMultigraph, edges_between, Amounts, gain, only_at}
use Rattle.dg_theory.specs.Twins.{AreTwins, exchange, exchanged, ExchangeKeepsWinnable}
use Rattle.dg_theory.proofs.Giving.{degree-only_at}
use Rattle.dg_theory.proofs.Plays.{only_at-here, only_at-other}
use Rattle.dg_theory.proofs.SumLaws.{sum_below-add, sum_below-cong}
use Rattle.dg_theory.proofs.Winning.{script_of_win, win_of_script}

exchange-left : (u v : ℕ) → exchange u v u ≡ v
exchange-left u v = grind (arith, nat_tests)

exchange-right : (u v : ℕ) → exchange u v v ≡ u
exchange-right u v = grind (arith, nat_tests)

exchange-other : (u v w : ℕ) → w ≢ u → w ≢ v → exchange u v w ≡ w
exchange-other u v w off_u off_v = grind (arith, nat_tests)

pub by_exchange : (u v : ℕ) (P : ℕ → ℕ → Type 0) → P u v → P v u → ((w : ℕ) → w ≢ u → w ≢ v → P w w) → (w : ℕ) →
    P w (exchange u v w)
by_exchange u v P left right other w = ⊎_elim
    (λ (here : w ≡ u). rw (here, exchange-left u v) left)
    (λ (off_u : w ≡ u → ⊥). ⊎_elim
    (λ (here : w ≡ v). rw (here, exchange-right u v) right)
    (λ (off_v : w ≡ v → ⊥). rw (exchange-other u v w off_u off_v) (other w off_u off_v))
    (cases_eq w v))
    (cases_eq w u)

pub exchange-twice : (u v w : ℕ) → exchange u v (exchange u v w) ≡ w
exchange-twice u v w = by_exchange u v (λ x y. exchange u v y ≡ x) (exchange-right u v) (exchange-left u v) (exchange-other u v) w

pub exchange-below : (n u v w : ℕ) → u < n → v < n → w < n → exchange u v w < n
exchange-below n u v w left right below = grind (arith, nat_tests)

pub exchange-same : {T : Type 0} (f : ℕ → T) (u v w : ℕ) → f u ≡ f v → f (exchange u v w) ≡ f w
exchange-same f u v w same = by_exchange u v (λ x y. f y ≡ f x) (sym same) same (λ _ _ _. refl) w

change : (f : ℕ → ℤ) (u v : ℕ) → u ≢ v → (w : ℕ) →
    f (exchange u v w) ≡ f w +ℤ (only_at u (f v -ℤ f u) w +ℤ only_at v (f u -ℤ f v) w)
change f u v apart =
    let x = only_at u (f v -ℤ f u) in
    let y = only_at v (f u -ℤ f v) in
    by_exchange u v (λ w z. f z ≡ f w +ℤ (x w +ℤ y w))
    (omega (arith, ints, only_at-here u (f v -ℤ f u), only_at-other v (f u -ℤ f v) u apart))
    (omega (arith, ints, only_at-other u (f v -ℤ f u) v (λ e. apart (sym e)), only_at-here v (f u -ℤ f v)))
    (λ w off_u off_v. omega (arith, ints, only_at-other u (f v -ℤ f u) w off_u, only_at-other v (f u -ℤ f v) w off_v))

pub sum_below-exchanged : (n u v : ℕ) (f : ℕ → ℤ) → u < n → v < n →
    sum_below n (λ w. f (exchange u v w)) ≡ sum_below n f
sum_below-exchanged n u v f left right = ⊎_elim
    (λ (same : u ≡ v). sum_below-cong n _ _ (λ w _. exchange-same f u v w (ap f same)))
    (λ (apart : u ≡ v → ⊥).
    let x = only_at u (f v -ℤ f u) in
    let y = only_at v (f u -ℤ f v) in
    omega (
      arith,
      ints,
      sum_below-cong n (λ w. f (exchange u v w)) (λ w. f w +ℤ (x w +ℤ y w)) (λ w _. change f u v apart w),
      sum_below-add n f (λ w. x w +ℤ y w),
      sum_below-add n x y,
      degree-only_at n u (f v -ℤ f u) left,
      degree-only_at n v (f u -ℤ f v) right,
    ))
    (cases_eq u v)

pub edges-exchanged : (g : Multigraph) (u v : ℕ) → IsMultigraph g → AreTwins g u v → (x w : ℕ) →
    edges_between g (exchange u v x) (exchange u v w) ≡ edges_between g x w
edges-exchanged g u v graph twins x w = by_exchange u v (λ a b. edges_between g b (exchange u v w) ≡ edges_between g a w)
    (by_exchange u v (λ c d. edges_between g v d ≡ edges_between g u c)
    (graph.loopless v ∙ sym (graph.loopless u)) (graph.symmetric v u) (λ y off_u off_v. sym (twins y off_u off_v)) w)
    (by_exchange u v (λ c d. edges_between g u d ≡ edges_between g v c)
    (graph.symmetric u v) (graph.loopless u ∙ sym (graph.loopless v)) twins w)
    (λ y off_u off_v. exchange-same (edges_between g y) u v w
    (graph.symmetric y u ∙ twins y off_u off_v ∙ graph.symmetric v y))
    x

pub gain-exchanged : (g : Multigraph) (s : Amounts) (u v : ℕ) → IsMultigraph g → u < g.size → v < g.size →
    AreTwins g u v → (x : ℕ) → gain g (exchanged u v s) x ≡ gain g s (exchange u v x)
gain-exchanged g s u v graph left right twins x =
    let y = exchange u v x in
    sum_below-cong g.size _ _ (λ w _. ap (λ (k : ℕ). pos k *ℤ (exchanged u v s w -ℤ s y))
    (sym (edges-exchanged g u v graph twins x w)))
    ∙ sum_below-exchanged g.size u v (λ w. pos (edges_between g y w) *ℤ (s w -ℤ s y)) left right

pub win_exchanged : ExchangeKeepsWinnable
win_exchanged g D u v graph left right twins win =
    let (s, effective) = script_of_win g D win in
    win_of_script g (exchanged u v D) (exchanged u v s) (λ x below. omega (
      arith,
      ints,
      gain-exchanged g s u v graph left right twins x,
      effective (exchange u v x) (exchange-below g.size u v x left right below),
    ))
