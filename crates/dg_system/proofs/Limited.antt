-- What a reader gives up to a limit that it does not reach is all that it has left.
use Rattle.dg_system.proofs.Common.{◌≡◌, ℕ, ◌<◌, ◌≤◌, List, [], ◌++◌, length, take, Option, Some, None, IfSome, ◌∙◌, ap, subst, arith, option_map, take_all, length-take}

pub whole_below : (limit : ℕ) (known : Option (List ℕ)) (items : List ℕ)
    → IfSome (option_map (take limit) known) (λ given. items ≡ given) → length items < limit
    → IfSome known (λ left. items ≡ left)
whole_below limit None items is few = tt
whole_below limit (Some left) items is few =
    let counted : length items ≡ length (take limit left) = ap length is in
    let measured = length-take limit left in
    let all : length left ≤ limit = omega (arith, counted, measured, few) in
    is ∙ take_all limit left all

pub whole_of : {R : Type 0} (remaining : R → Option (List ℕ)) (reader inner : R) (limit asked : ℕ)
    (before items : List ℕ)
    → inner ≡ reader → limit ≡ asked → before ≡ []
    → IfSome (option_map (take limit) (remaining inner)) (λ given. items ≡ before ++ given) → length items < asked
    → IfSome (remaining reader) (λ left. items ≡ left)
whole_of {R} remaining reader inner limit asked before items same_reader same_limit none is few =
    let Of : R → Type 0 = λ r. IfSome (option_map (take limit) (remaining r)) (λ given. items ≡ before ++ given) in
    let Upto : ℕ → Type 0 = λ n. IfSome (option_map (take n) (remaining reader)) (λ given. items ≡ before ++ given) in
    let After : List ℕ
    → Type 0 = λ xs. IfSome (option_map (take asked) (remaining reader)) (λ given. items ≡ xs ++ given) in
    whole_below asked (remaining reader) items (subst After none (subst Upto same_limit (subst Of same_reader is))) few
