-- `places` meets its contract: the limit is the next power of ten, and a number below it has no more digits than its exponent says.
use Prim.Native.Nat.{ℕ, suc, ◌+◌, ◌-◌, ◌*◌, ◌^◌, ◌≤◌}
use native.Mathlib.Nat.{pow-suc, pow-le-pow_right}
use native.Mathlib.Omega.{arith}
use mathlib.Core.Path.{◌≡◌, refl, sym, ap, ◌∙◌}
use lib.Dec.{lit<}
use Rattle.lines.proofs.Decimals.{decimal_some, decimal_few, decimal_many}
use Rattle.lines.proofs.places.Goals as goal

next_power : (k : ℕ) → 1 ≤ k → 10 ^ (k - 1) * 10 ≡ 10 ^ k
next_power k h =
    let all : suc (k - 1) ≡ k = omega arith in
    sym (pow-suc 10 (k - 1)) ∙ ap (λ (j : ℕ). 10 ^ j) all

pub loop-k-init : goal.loop-k-init
loop-k-init c = (refl, decimal_some c.args.n)

pub overflow_mul-limit : goal.overflow_mul-limit
overflow_mul-limit c = omega (arith, pow-le-pow_right (lit< {m = 0} {n = 10} tt) {i = c.loop-k.k - 1} {j = 18} (omega arith))

pub returns-then-n-limit : goal.returns-then-n-limit
returns-then-n-limit c =
    let k = c.loop-k.k in
    omega (arith, next_power k (omega arith), decimal_few c.args.n k (omega (arith, next_power k (omega arith))) (omega arith))

pub loop-k-preserved : goal.loop-k-preserved
loop-k-preserved c =
    let k = c.loop-k.k in
    let power = next_power k (omega arith) in
    let same : k + 1 - 1 ≡ k = omega arith in
    (rw (c.loop-k.invariant.0, same) power, omega (arith, decimal_many c.args.n k (omega arith) (omega arith)))

pub returns : goal.returns
returns c = omega (arith, decimal_few c.args.n 20 (omega arith) (lit< tt))
