-- The invariant of its loop: the digits that are still to be put in make the whole. The measure is how many they are.
use Prim.Native.Nat.{◌-◌, ◌^◌, ◌≤◌, ◌<◌}
use mathlib.Core.Path.{◌≡◌}
use Rattle.lists.specs.Put.{put}
use Rattle.lines.proofs.Decimals.{last_digits}
use Rattle.lines.proofs.put_number.Given as goal

abbrev pub invariant-loop-i : goal.invariant-loop-i
invariant-loop-i l = (l.at ≤ l.i) × (l.i ≤ l.end) × (put l.at (last_digits (l.i - l.at) l.rest) l.out ≡ put l.at (last_digits (l.end - l.at) l.n) l.initial.out) × (l.rest < 10 ^ (l.i - l.at))

abbrev pub decreases-loop-i : goal.decreases-loop-i
decreases-loop-i l = l.i - l.at
