-- Laws of intervals. Above this file only computed examples look into `holds_at`, `proper_of` or `meeting_of`.
use Prim.Native.Nat.{ℕ, ◌<◌, ◌≤◌, min, max}
use native.Mathlib.Omega.{arith}
use mathlib.Core.Bool.{true, false, ◌&&◌}
use mathlib.Core.Path.{◌≡◌}
use lib.Dec.{ltb, leb}
use borrow.Author.Tests.{ltb-true, leb-true, lt-ltb, le-ltb, le-leb}
use Rattle.lists.proofs.Bools.{and_left, and_right, bool_ext}
use Rattle.interval.specs.declared.Interval.{Interval}
use Rattle.interval.specs.Interval.{holds_at, proper_of, meeting_of}

holds_elim : (t : ℕ) (i : Interval) → holds_at t i ≡ true → (i.start ≤ t) × (t < i.end)
unfolding holds_at
holds_elim t i h = (leb-true i.start t (and_left (leb i.start t) (ltb t i.end) h), ltb-true t i.end (and_right (leb i.start t) (ltb t i.end) h))

holds_intro : (t : ℕ) (i : Interval) → i.start ≤ t → t < i.end → holds_at t i ≡ true
unfolding holds_at
holds_intro t i h k = rw (le-leb i.start t h, lt-ltb t i.end k)

-- an interval that holds at some instant is proper
pub holds_proper : (t : ℕ) (i : Interval) → holds_at t i ≡ true → proper_of i ≡ true
unfolding proper_of
holds_proper t i h = let v = holds_elim t i h in lt-ltb i.start i.end (omega arith)

-- the meeting holds when both do
pub meeting_holds : (t : ℕ) (i j : Interval) → holds_at t (meeting_of i j) ≡ holds_at t i && holds_at t j
unfolding meeting_of
meeting_holds t i j = bool_ext (holds_at t (meeting_of i j)) (holds_at t i && holds_at t j) to from
  where
    to : holds_at t (meeting_of i j) ≡ true → holds_at t i && holds_at t j ≡ true
    to h = let v = holds_elim t (meeting_of i j) h in rw (holds_intro t i (omega arith) (omega arith), holds_intro t j (omega arith) (omega arith))

    from : holds_at t i && holds_at t j ≡ true → holds_at t (meeting_of i j) ≡ true
    from h =
        let v = holds_elim t i (and_left (holds_at t i) (holds_at t j) h) in
        let w = holds_elim t j (and_right (holds_at t i) (holds_at t j) h) in
        holds_intro t (meeting_of i j) (omega arith) (omega arith)

-- the meeting is the same either way round
pub meeting_comm : (i j : Interval) → meeting_of i j ≡ meeting_of j i
unfolding meeting_of
meeting_comm i j =
    let s : max i.start j.start ≡ max j.start i.start = omega arith in
    let e : min i.end j.end ≡ min j.end i.end = omega arith in
    rw (s, e)

-- it starts at neither start's left
pub meeting_start : (i j : Interval) → i.start ≤ (meeting_of i j).start
unfolding meeting_of
meeting_start i j = omega arith

-- it starts no earlier with an interval that starts no earlier
pub meeting_later : (i j k : Interval) → j.start ≤ k.start → (meeting_of i j).start ≤ (meeting_of i k).start
unfolding meeting_of
meeting_later i j k h = omega arith

-- an interval that has ended when the other starts does not meet it
pub meeting_ended : (i j : Interval) → i.end ≤ j.start → proper_of (meeting_of i j) ≡ false
unfolding meeting_of proper_of
meeting_ended i j h = le-ltb (max i.start j.start) (min i.end j.end) (omega arith)
