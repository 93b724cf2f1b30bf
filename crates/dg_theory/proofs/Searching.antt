-- Looking through the numbers below n.
--   AllBelow n P    P holds of each number below n
--   FirstOf n P Q   there is a first number below n that does not hold as P does, and Q holds of it
--   all_to          what holds of all numbers below n, and of n, holds of all below n + 1
--   first_or_all    where P or Q holds of each number, P holds of all, or there is a first of which Q holds
use Rattle.dg_theory.proofs.Common.{◌≡◌, ℕ, zero, suc, ◌<◌, ◌⊎◌, inl, inr, arith, subst, ⊎_elim, cases_eq}

abbrev pub AllBelow : ℕ → (ℕ → Type 0) → Type 0
AllBelow n P = (v : ℕ) → v < n → P v

abbrev pub FirstOf : ℕ → (ℕ → Type 0) → (ℕ → Type 0) → Type 0
FirstOf n P Q = (v : ℕ) × (v < n) × Q v × AllBelow v P

all_to : (n : ℕ) (P : ℕ → Type 0) → AllBelow n P → P n → AllBelow (suc n) P
all_to n P before last v below =
    ⊎_elim
    (λ (same : n ≡ v). subst P same last)
    (λ (other : n ≡ v → ⊥). before v (omega arith))
    (cases_eq n v)

pub first_or_all : (n : ℕ) (P Q : ℕ → Type 0) → ((v : ℕ) → v < n → P v ⊎ Q v) → AllBelow n P ⊎ FirstOf n P Q
first_or_all zero P Q each = inl (λ v below. absurd (omega arith))
first_or_all (suc n) P Q each =
    ⊎_elim
    (λ (before : AllBelow n P).
    ⊎_elim
    (λ (last : P n). inl (all_to n P before last))
    (λ (last : Q n). inr (n, omega arith, last, before))
    (each n (omega arith)))
    (λ (first : FirstOf n P Q). inr (first.0, omega (arith, first.1), first.2, first.3))
    (first_or_all n P Q (λ v below. each v (omega arith)))
