-- What is read of a stream, step by step.
--   consumes_none   nothing is read
--   consumes_more, consumes_kept   two reads, one after the other, and a read after which one fails
--   chunk_size, read_chunk, read_nothing   a read filled the front of the buffer
use Rattle.dg_system.proofs.Common.{◌≡◌, ℕ, ◌≤◌, List, [], ◌++◌, Option, Some, None, length, take, sym, refl, ap, subst, ◌∙◌, arith, append_assoc, Consumes, Keeps, length-take-le}

pub consumes_none : (a : Option (List ℕ)) → Consumes a a []
consumes_none None = tt
consumes_none (Some xs) = refl

pub consumes_more : (a b c : Option (List ℕ)) (bs cs : List ℕ) → Consumes a b bs → Consumes b c cs
    → Consumes a c (bs ++ cs)
consumes_more None b c bs cs p q = tt
consumes_more (Some x) None c bs cs p q = absurd p
consumes_more (Some x) (Some y) None bs cs p q = absurd q
consumes_more (Some x) (Some y) (Some z) bs cs p q = p ∙ ap (λ l. bs ++ l) q ∙ sym (append_assoc bs cs z)

pub consumes_kept : (a b : Option (List ℕ)) → Keeps a b → Consumes a b []
consumes_kept None b kept = tt
consumes_kept (Some x) None kept = absurd kept
consumes_kept (Some x) (Some y) kept = sym kept

pub chunk_size : (n : ℕ) (chunk items : List ℕ) → chunk ≡ items → n ≤ length items → length (take n chunk) ≡ n
chunk_size n chunk items same bound = length-take-le n chunk (omega (arith, ap length same, bound))

pub read_chunk : (rest rest' : Option (List ℕ)) (n : ℕ) (chunk items : List ℕ) → chunk ≡ items
    → Consumes rest rest' (take n items) → Consumes rest rest' (take n chunk)
read_chunk rest rest' n chunk items same read = subst (λ l. Consumes rest rest' (take n l)) (sym same) read

pub read_nothing : (rest rest' : Option (List ℕ)) (n : ℕ) (items : List ℕ) → n ≡ 0
    → Consumes rest rest' (take n items) → Consumes rest rest' []
read_nothing rest rest' n items none read = subst (λ k. Consumes rest rest' (take k items)) none read
