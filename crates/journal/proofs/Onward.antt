-- A gate moves onward: from an open clock to one that is no earlier or to closed, and never back.
use Prim.Native.Nat.{ℕ, ◌≤◌, ◌<◌}
use native.Mathlib.Omega.{arith}
use mathlib.Core.Bool.{true, false, true≢false, false≢true}
use mathlib.Core.Path.{◌≡◌, refl}
use borrow.Author.Tests.{ltb-true, ltb-false, lt-ltb, le-ltb, leb-true, le-leb}
use Rattle.pairing.specs.declared.Entry.{Entry}
use Rattle.journal.specs.declared.Gate.{Gate}
use Rattle.journal.specs.declared.Gate.TheVariants.{Open, Closed}
use Rattle.journal.specs.Journal.{wanted, below, not_past, is_closed, is_behind}

abbrev pub Onward : Gate → Gate → Type 0
Onward (Open clock) (Open next) = clock ≤ next
Onward (Open clock) Closed = Unit {0}
Onward Closed (Open next) = ⊥
Onward Closed Closed = Unit {0}

pub onward_same : (gate : Gate) → Onward gate gate
onward_same (Open clock) = omega arith
onward_same Closed = tt

pub onward_trans : (first second third : Gate) → Onward first second → Onward second third → Onward first third
onward_trans (Open a) (Open b) (Open c) p q = omega arith
onward_trans (Open a) (Open b) Closed p q = tt
onward_trans (Open a) Closed (Open c) p q = absurd q
onward_trans (Open a) Closed Closed p q = tt
onward_trans Closed (Open b) third p q = absurd p
onward_trans Closed Closed third p q = q

pub onward_closed : (gate : Gate) → Onward gate Closed
onward_closed (Open clock) = tt
onward_closed Closed = tt

-- a time that refusals 2 and 4 let through moves the clock onward
pub onward_open : (gate : Gate) (time : ℕ) → is_closed gate ≡ false → is_behind gate time ≡ false → Onward gate (Open time)
onward_open (Open clock) time e f = ltb-false time clock f
onward_open Closed time e f = absurd (true≢false e)

-- what was below the clock stays below it
pub below_onward : (gate next : Gate) → Onward gate next → (t : ℕ) → below gate t ≡ true → below next t ≡ true
below_onward (Open clock) (Open later) h t e = lt-ltb t later (omega (arith, ltb-true t clock e))
below_onward (Open clock) Closed h t e = refl
below_onward Closed (Open later) h t e = absurd h
below_onward Closed Closed h t e = refl

-- a start that did not pass the clock still does not
pub not_past_onward : (gate next : Gate) → Onward gate next → (t : ℕ) → not_past gate t ≡ true → not_past next t ≡ true
not_past_onward (Open clock) (Open later) h t e = le-leb t later (omega (arith, leb-true t clock e))
not_past_onward (Open clock) Closed h t e = refl
not_past_onward Closed (Open later) h t e = absurd h
not_past_onward Closed Closed h t e = refl

-- nothing from a time on that the clock may move to is below the clock yet
pub below_ahead : (gate : Gate) (time : ℕ) → Onward gate (Open time) → (t : ℕ) → time ≤ t → below gate t ≡ false
below_ahead (Open clock) time h t k = le-ltb t clock (omega arith)
below_ahead Closed time h t k = absurd h

-- what it has passed lies before that time
pub below_before : (gate : Gate) (time t : ℕ) → Onward gate (Open time) → below gate t ≡ true → t < time
below_before (Open clock) time t h e = omega (arith, ltb-true t clock e)
below_before Closed time t h e = absurd h

-- a later gate wants no more
pub wanted_onward : (gate next : Gate) → Onward gate next → (e : Entry) → wanted next e ≡ true → wanted gate e ≡ true
wanted_onward (Open clock) (Open later) h e k = lt-ltb clock e.span.end (omega (arith, ltb-true later e.span.end k))
wanted_onward (Open clock) Closed h e k = absurd (false≢true k)
wanted_onward Closed (Open later) h e k = absurd h
wanted_onward Closed Closed h e k = k

-- and whatever ends after a time that the clock may move to is wanted
pub wanted_after : (gate : Gate) (time : ℕ) (e : Entry) → Onward gate (Open time) → time < e.span.end → wanted gate e ≡ true
wanted_after (Open clock) time e h k = lt-ltb clock e.span.end (omega arith)
wanted_after Closed time e h k = absurd h
