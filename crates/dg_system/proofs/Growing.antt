-- What is written of a text, step by step.
--   appends_none    what is kept has grown by nothing
--   appends_more    two texts, one after the other
--   more_written    a write takes the next bytes
use Rattle.dg_system.proofs.Common.{◌≡◌, ℕ, ◌+◌, ◌-◌, ◌≤◌, List, [], ◌++◌, Option, Some, None, length, take, drop, sym, ap, subst, ◌∙◌, arith, append_assoc, append-nil, Appends, take_all, length-drop, take-add}

pub appends_none : (a : Option (List ℕ)) → Appends a a []
appends_none None = tt
appends_none (Some xs) = sym (append-nil xs)

pub appends_more : (a b c : Option (List ℕ)) (bs cs : List ℕ) → Appends a b bs → Appends b c cs → Appends a c (bs ++ cs)
appends_more None b c bs cs p q = tt
appends_more (Some x) None c bs cs p q = absurd p
appends_more (Some x) (Some y) None bs cs p q = absurd q
appends_more (Some x) (Some y) (Some z) bs cs p q = q ∙ ap (λ l. l ++ cs) p ∙ append_assoc x bs cs

rest_of : (s : List ℕ) (at : ℕ) → take (length s - at) (drop at s) ≡ drop at s
rest_of s at = take_all (length s - at) (drop at s) (let e = length-drop at s in omega (arith, e))

pub more_written : (a b c : Option (List ℕ)) (s : List ℕ) (at n : ℕ) → at ≤ length s
    → n ≤ length (take (length s - at) (drop at s)) → Appends a b (take at s)
    → Appends b c (take n (take (length s - at) (drop at s))) → (at + n ≤ length s) × Appends a c (take (at + n) s)
more_written a b c s at n low bound first next =
    let rest = rest_of s at in
    let size = length-drop at s in
    let few : n ≤ length (drop at s) = subst (λ (l : List ℕ). n ≤ length l) rest bound in (
      omega (arith, size, few),
      subst (Appends a c) (sym (take-add at n s))
          (appends_more a b c (take at s) (take n (drop at s)) first
          (subst (λ (l : List ℕ). Appends b c (take n l)) rest next)),
    )
