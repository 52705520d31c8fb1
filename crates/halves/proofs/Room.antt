-- What the rows of room answer: 6 where a wanted entry finds its area full, else 7 where too many pairs would wait, else nothing.
use Prim.Native.Nat.{ℕ, ◌≤◌, ◌<◌}
use mathlib.Core.Bool.{Bool, true, false}
use mathlib.Core.Path.{◌≡◌}
use borrow.Author.Tests.{lt-ltb, le-ltb, le-leb, lt-leb}
use Rattle.journal.specs.Answer.{Accepted, Refused, first_of}
use Rattle.area.specs.Area as area
use Rattle.queue.specs.Queue as queue
use Rattle.halves.specs.Calls.{room_for}

module _ (wanted : Bool) (held waiting : ℕ) where
  pub area_full : wanted ≡ true → area.most ≤ held → Refused 6 ≡ first_of (room_for wanted held waiting)
  unfolding room_for
  area_full w h = rw (w, le-leb area.most held h)

  pub queue_full : held < area.most → queue.places < waiting → Refused 7 ≡ first_of (room_for wanted held waiting)
  unfolding room_for
  queue_full h q = go wanted
    where
      go : (b : Bool) → Refused 7 ≡ first_of (room_for b held waiting)
      go true = rw (lt-leb area.most held h, lt-ltb queue.places waiting q)
      go false = rw (lt-ltb queue.places waiting q)

  pub queue_full_unwanted : wanted ≡ false → queue.places < waiting → Refused 7 ≡ first_of (room_for wanted held waiting)
  unfolding room_for
  queue_full_unwanted w q = rw (w, lt-ltb queue.places waiting q)

  pub free : held < area.most → waiting ≤ queue.places → Accepted ≡ first_of (room_for wanted held waiting)
  unfolding room_for
  free h q = go wanted
    where
      go : (b : Bool) → Accepted ≡ first_of (room_for b held waiting)
      go true = rw (lt-leb area.most held h, le-ltb queue.places waiting q)
      go false = rw (le-ltb queue.places waiting q)

  pub free_unwanted : wanted ≡ false → waiting ≤ queue.places → Accepted ≡ first_of (room_for wanted held waiting)
  unfolding room_for
  free_unwanted w q = rw (w, le-ltb queue.places waiting q)
