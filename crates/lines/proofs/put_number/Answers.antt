-- `put_number` meets its contract.
use Prim.Native.Nat.{ℕ, suc, ◌+◌, ◌-◌, ◌*◌, ◌/◌, ◌%◌, ◌^◌, ◌≤◌, ◌<◌}
use native.Mathlib.Nat.{mul-add-mod_self_left, div-div-eq-div-mul, pow-suc}
use native.Mathlib.Omega.{arith}
use mathlib.Core.List.{List, [], ◌∷◌, ◌++◌}
use mathlib.Core.Path.{◌≡◌, refl, sym, ap, subst, ◌∙◌}
use lib.ListN.{length, set, length-set}
use Rattle.lists.specs.Put.{put}
use Rattle.lists.proofs.Put.{put_none, put_last}
use Rattle.lines.specs.Decimal.{last_digit, decimal}
use Rattle.lines.proofs.Decimals.{last_digits, length_last_digits, decimal_last, decimal_below}
use Rattle.lines.proofs.put_number.Goals as goal
use Rattle.lines.proofs.put_number.Goals.{then-at-i, else-at-i}

-- a digit put in place leaves those in front of it
digit-put : (at i n : ℕ) (out : List ℕ) → at < i → i ≤ length out → put at (last_digits (i - 1 - at) (n / 10)) (set out (i - 1) (last_digit n)) ≡ put at (last_digits (i - at) n) out
digit-put at i n out some inside =
    let k = i - 1 - at in
    let ds = last_digits k (n / 10) in
    let place : i - 1 ≡ at + length ds = omega (arith, length_last_digits k (n / 10)) in
    let all : i - at ≡ suc k = omega arith in
    ap (λ (p : ℕ). put at ds (set out p (last_digit n))) place
    ∙ put_last at ds (last_digit n) out (omega arith)
    ∙ ap (λ (j : ℕ). put at (last_digits j n) out) (sym all)

-- two digits of one division put in place
two-put : (at i n : ℕ) (out : List ℕ) → at + 1 < i → i ≤ length out
    → put at (last_digits (i - 2 - at) (n / 100)) (set (set out (i - 1) (48 + n % 100 % 10)) (i - 2) (48 + n % 100 / 10)) ≡ put at (last_digits (i - at) n) out
two-put at i n out some inside =
    let tenth : n / 10 ≡ 10 * (n / 100) + n % 100 / 10 = omega arith in
    let last : 48 + n % 100 % 10 ≡ last_digit n = omega arith in
    let small : n % 100 / 10 % 10 ≡ n % 100 / 10 = omega arith in
    let before : 48 + n % 100 / 10 ≡ last_digit (n / 10) = ap (λ (d : ℕ). 48 + d) (sym (ap (λ (m : ℕ). m % 10) tenth ∙ mul-add-mod_self_left 10 (n / 100) (n % 100 / 10) ∙ small)) in
    let hundredth : n / 100 ≡ n / 10 / 10 = sym (div-div-eq-div-mul n 10 10) in
    let place : i - 2 ≡ i - 1 - 1 = omega arith in
    ap (λ (m : ℕ). put at (last_digits (i - 2 - at) m) (set (set out (i - 1) (48 + n % 100 % 10)) (i - 2) (48 + n % 100 / 10))) hundredth
    ∙ ap (λ (p : ℕ). put at (last_digits (p - at) (n / 10 / 10)) (set (set out (i - 1) (48 + n % 100 % 10)) p (48 + n % 100 / 10))) place
    ∙ ap (λ (d : ℕ). put at (last_digits (i - 1 - 1 - at) (n / 10 / 10)) (set (set out (i - 1) (48 + n % 100 % 10)) (i - 1 - 1) d)) before
    ∙ ap (λ (d : ℕ). put at (last_digits (i - 1 - 1 - at) (n / 10 / 10)) (set (set out (i - 1) d) (i - 1 - 1) (last_digit (n / 10)))) last
    ∙ digit-put at (i - 1) (n / 10) (set out (i - 1) (last_digit n)) (omega arith) (omega (arith, length-set out (i - 1) (last_digit n)))
    ∙ digit-put at i n out (omega arith) inside

-- what is left has no more digits than places
two-fewer : (at i n : ℕ) → at + 1 < i → n < 10 ^ (i - at) → n / 100 < 10 ^ (i - 2 - at)
two-fewer at i n some h =
    let k = i - 2 - at in
    let all : i - at ≡ suc (suc k) = omega arith in
    let below : n < 10 ^ suc (suc k) = subst (λ (j : ℕ). n < 10 ^ j) all h in
    let hundreds = rw (pow-suc, pow-suc) at below in
    omega arith

one_left : (at i n : ℕ) → at < i → i ≤ at + 1 → n < 10 ^ (i - at) → n < 10
one_left at i n some few h = let one : i - at ≡ 1 = omega arith in subst (λ (j : ℕ). n < 10 ^ j) one h

-- no digit is left, and the byte behind them was stored before
digits-put : (at end n after : ℕ) (old : List ℕ) (i rest : ℕ) {new : List ℕ} → i ≡ at → end ≡ at + length (decimal n) → end < length old
    → put at (last_digits (i - at) rest) new ≡ put at (last_digits (end - at) n) (set old end after) → new ≡ put at (decimal n ++ (after ∷ [])) old
digits-put at end n after old i rest {new} first behind inside h =
    let none : i - at ≡ 0 = omega arith in
    let all : end - at ≡ length (decimal n) = omega arith in
    sym (put_none at new)
    ∙ ap (λ (k : ℕ). put at (last_digits k rest) new) (sym none)
    ∙ h
    ∙ ap (λ (k : ℕ). put at (last_digits k n) (set old end after)) all
    ∙ ap (λ (ds : List ℕ). put at ds (set old end after)) (sym (decimal_last n))
    ∙ ap (λ (p : ℕ). put at (decimal n) (set old p after)) behind
    ∙ put_last at (decimal n) after old (omega arith)

-- one digit is left
digit-left : (at end n after : ℕ) (old : List ℕ) (i rest : ℕ) (out : List ℕ) → i ≡ at + 1 → i ≤ length out → end ≡ at + length (decimal n) → end < length old → rest < 10
    → put at (last_digits (i - at) rest) out ≡ put at (last_digits (end - at) n) (set old end after) → set out at (48 + rest) ≡ put at (decimal n ++ (after ∷ [])) old
digit-left at end n after old i rest out one few behind inside small h =
    let place : at ≡ i - 1 = omega arith in
    let digit : 48 + rest ≡ last_digit rest = omega arith in
    ap (λ (d : ℕ). set out at d) digit
    ∙ digits-put at end n after old (i - 1) (rest / 10) (omega arith) behind inside
    (ap (λ (p : ℕ). put at (last_digits (i - 1 - at) (rest / 10)) (set out p (last_digit rest))) place ∙ digit-put at i rest out (omega arith) few ∙ h)

pub loop-i-init : goal.loop-i-init
loop-i-init c =
    let a = c.args in
    let all : a.at + c.places.result - a.at ≡ length (decimal a.n) = omega arith in
    (omega arith, omega arith, refl, subst (λ (j : ℕ). a.n < 10 ^ j) (sym all) (decimal_below a.n (omega arith)))

pub loop-i-preserved : goal.loop-i-preserved
loop-i-preserved c =
    let at-loop = c.loop-i in (
      omega arith,
      omega arith,
      two-put c.args.at at-loop.i at-loop.rest at-loop.out (omega arith) (omega (arith, length-set {A = ℕ})) ∙ at-loop.invariant.2,
      two-fewer c.args.at at-loop.i at-loop.rest (omega arith) at-loop.invariant.3,
    )

pub overflow_cast-out-then-at-i : goal.overflow_cast-out-then-at-i
overflow_cast-out-then-at-i c =
    let at-loop = c.loop-i in
    let one = one_left c.args.at at-loop.i at-loop.rest (omega arith) (omega arith) at-loop.invariant.3 in
    record { fits = omega arith }

pub overflow_add-out-then-at-i : goal.overflow_add-out-then-at-i
overflow_add-out-then-at-i c =
    let at-loop = c.loop-i in
    let one = one_left c.args.at at-loop.i at-loop.rest (omega arith) (omega arith) at-loop.invariant.3 in
    record { fits = omega arith }

pub returns-clause-out_after : goal.returns-clause-out_after
returns-clause-out_after c =
    let a = c.args in
    let at-loop = c.loop-i in
    let end = a.at + c.places.result in
    elim c.if-at-i.branch [
      | then-at-i w ↦ w.out-is ∙ digit-left a.at end a.n a.after a.out.now at-loop.i at-loop.rest at-loop.out (omega (arith, w.if-at-i.true)) (omega (arith, length-set {A = ℕ})) (omega arith) (omega arith) (one_left a.at at-loop.i at-loop.rest (omega (arith, w.if-at-i.true)) (omega arith) at-loop.invariant.3) at-loop.invariant.2
      | else-at-i w ↦ w.out-is ∙ digits-put a.at end a.n a.after a.out.now at-loop.i at-loop.rest (omega (arith, w.if-at-i.false)) (omega arith) (omega arith) at-loop.invariant.2
    ]
