-- The run is kept and stands so far in the text, and the places are within the feed and the limit. The measure is what is left of the limit.
use Rattle.std.proofs.Common.{◌≡◌, ◌+◌, ◌*◌, ◌≤◌, length, take, drop}
use Rattle.framing.proofs.Text.{Stands}
use Rattle.steps.specs.Printed.{joinfeed, printed, read_limit}
use Rattle.steps.specs.Step.{Kept, room}
use Rattle.whole_feed.proofs.put_steps.Given as goal

abbrev pub invariant-loop-used : goal.invariant-loop-used
invariant-loop-used l = record {
  kept : Kept l.run l.left;
  in_feed : l.at ≤ length l.feed;
  limit : l.at + l.left ≡ read_limit;
  few : l.size ≤ room * l.at;
  stands : Stands joinfeed (printed l.fn.rule read_limit l.feed) (take l.left (drop l.at l.feed)) l.run l.size l.initial.out l.out;
}

abbrev pub decreases-loop-used : goal.decreases-loop-used
decreases-loop-used l = l.left
