-- The run is kept, and the places in feed and buffer are within them. The measure: what is left of the feed, and how far the window can still grow.
use Rattle.std.proofs.Common.{◌+◌, ◌-◌, ◌≤◌, length}
use Rattle.steps.specs.Step.{Kept}
use Rattle.many_run.proofs.put_pieces.Given as goal

abbrev pub invariant-loop-out : goal.invariant-loop-out
invariant-loop-out l = record {
  kept : Kept l.run l.flow.left;
  order : l.flow.at ≤ l.flow.end;
  in_feed : l.flow.end ≤ length l.feed;
  in_buffer : l.flow.filled ≤ length l.out;
}

abbrev pub decreases-loop-out : goal.decreases-loop-out
decreases-loop-out l = (length l.feed - l.flow.at) + (length l.feed - l.flow.end)
