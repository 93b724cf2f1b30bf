-- Chains of edges: a chain from a vertex ends at a vertex (end), one edge is a chain (edge), two chains in a row are
-- a chain (append), where edges have no direction a chain can be walked back (reverse), a chain from within a set
-- that no edge leaves ends within it (stays), a chain is one where there are more edges (more), and equal numbers of
-- edges give the same chains (cong).
use Rattle.dg_theory.proofs.Common.{◌≡◌, ℕ, ◌<◌, ◌≤◌, arith, IsConnectedTo, here, along}

pub IsConnectedTo-end : {n : ℕ} {e : ℕ → ℕ → ℕ} {u w : ℕ} → u < n → IsConnectedTo n e u w → w < n
IsConnectedTo-end vertex here = vertex
IsConnectedTo-end vertex (along v w chain below edge) = below

pub IsConnectedTo-edge : {n : ℕ} {e : ℕ → ℕ → ℕ} (u v : ℕ) → v < n → 0 < e u v → IsConnectedTo n e u v
IsConnectedTo-edge u v below edge = along u v here below edge

pub IsConnectedTo-append : {n : ℕ} {e : ℕ → ℕ → ℕ} {u v w : ℕ} → IsConnectedTo n e u v → IsConnectedTo n e v w
    → IsConnectedTo n e u w
IsConnectedTo-append first here = first
IsConnectedTo-append first (along v w chain below edge) = along v w (IsConnectedTo-append first chain) below edge

pub IsConnectedTo-reverse : {n : ℕ} {e : ℕ → ℕ → ℕ} {u w : ℕ} → ((a b : ℕ) → e a b ≡ e b a) → u < n →
    IsConnectedTo n e u w → IsConnectedTo n e w u
IsConnectedTo-reverse symmetric vertex here = here
IsConnectedTo-reverse {e = e} symmetric vertex (along v w chain below edge) =
    let back : 0 < e w v = omega (arith, symmetric v w) in
    IsConnectedTo-append (IsConnectedTo-edge w v (IsConnectedTo-end vertex chain) back)
    (IsConnectedTo-reverse symmetric vertex chain)

pub IsConnectedTo-stays : {n : ℕ} {e : ℕ → ℕ → ℕ} {u w : ℕ} (P : ℕ → Type 0) →
    ((a b : ℕ) → P a → b < n → 0 < e a b → P b) → P u → IsConnectedTo n e u w → P w
IsConnectedTo-stays P closed start here = start
IsConnectedTo-stays P closed start (along v w chain below edge) =
    closed v w (IsConnectedTo-stays P closed start chain) below edge

pub IsConnectedTo-more : {n : ℕ} {e f : ℕ → ℕ → ℕ} {u w : ℕ} → ((a b : ℕ) → e a b ≤ f a b) →
    IsConnectedTo n e u w → IsConnectedTo n f u w
IsConnectedTo-more more here = here
IsConnectedTo-more {f = f} more (along v w chain below edge) =
    let there : 0 < f v w = omega (arith, more v w) in
    along v w (IsConnectedTo-more more chain) below there

pub IsConnectedTo-cong : {n : ℕ} {e f : ℕ → ℕ → ℕ} {u w : ℕ} → ((a b : ℕ) → e a b ≡ f a b) →
    IsConnectedTo n e u w → IsConnectedTo n f u w
IsConnectedTo-cong same chain = IsConnectedTo-more (λ a b. omega (arith, same a b)) chain
