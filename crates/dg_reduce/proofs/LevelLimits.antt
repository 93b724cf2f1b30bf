-- The limits of amounts while the debts of one level after another are cleared.
--   level_limit_at-next    the limit of a level is 64 times the limit of the next farther one
--   level_limit_at-least   all are at least 2000000, which the amounts at the start are within
--   level_limit_at-small   all are below 2 ^ 111
use Rattle.dg_reduce.proofs.Common.{◌≡◌, ℕ, ◌+◌, ◌-◌, ◌*◌, ◌^◌, ◌<◌, ◌≤◌, arith, mul-le, pow-le-pow_right, one-le-pow, limit_step, limit_last}
use Rattle.dg_reduce.specs.States.{level_limit_at}

pub level_limit_at-next : (j : ℕ) → 0 < j → j ≤ 15 → level_limit_at (j - 1) ≡ 64 * level_limit_at j
unfolding level_limit_at
level_limit_at-next j some few =
    let place : (j - 1) + 1 ≡ j = omega arith in
    rw place at (limit_step 2000000 (j - 1) (omega arith))

pub level_limit_at-least : (j : ℕ) → 2000000 ≤ level_limit_at j
unfolding level_limit_at
level_limit_at-least j =
    let some : 1 ≤ 64 ^ (15 - j) = one-le-pow (15 - j) 64 (omega arith) in
    let product : 2000000 * 1 ≤ 2000000 * 64 ^ (15 - j) = mul-le 2000000 1 2000000 (64 ^ (15 - j)) (omega arith) some in
    omega arith

pub level_limit_at-small : (j : ℕ) → level_limit_at j < 2 ^ 111
unfolding level_limit_at
level_limit_at-small j =
    let power : 64 ^ (15 - j) ≤ 64 ^ 15 = pow-le-pow_right {n = 64} (omega arith) {i = 15 - j} {j = 15} (omega arith) in
    let product : 2000000 * 64 ^ (15 - j) ≤ 2000000 * 64 ^ 15 =
    mul-le 2000000 (64 ^ (15 - j)) 2000000 (64 ^ 15) (omega arith) power in
    let most : 2000000 * 64 ^ (15 - 0) < 2 ^ 111 = limit_last 2000000 (omega arith) in
    omega arith
