-- The invariant of its loop: the numbers from the next on make the whole line, put in behind those before.
use Prim.Native.Nat.{◌+◌}
use mathlib.Core.Path.{◌≡◌}
use lib.ListN.{length, drop}
use Rattle.lists.specs.Put.{put}
use Rattle.lines.specs.Line.{line}
use Rattle.lines.proofs.put_line.Given as goal

abbrev pub invariant-loop-n : goal.invariant-loop-n
invariant-loop-n l =
    (l.next + length (line (drop l.n-index l.numbers)) ≡ l.at + length (line l.numbers))
    × (put l.next (line (drop l.n-index l.numbers)) l.out ≡ put l.at (line l.numbers) l.initial.out)
