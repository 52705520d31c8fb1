-- The invariant of its loop: the numbers before the next are put in.
use mathlib.Core.Path.{◌≡◌}
use lib.ListN.{take}
use Rattle.std.specs.List.{flat_map}
use Rattle.lists.specs.Put.{put}
use Rattle.feed.specs.Number.{bytes}
use Rattle.feed_write.proofs.put_numbers.Given as goal

abbrev pub invariant-loop-i : goal.invariant-loop-i
invariant-loop-i l = l.buf ≡ put l.at (flat_map (bytes 4) (take l.i l.numbers)) l.initial.buf
