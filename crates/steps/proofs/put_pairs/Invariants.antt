-- The lines of the pairs so far are put in, none longer than a line may be.
use Rattle.std.proofs.Common.{◌≡◌, ◌≤◌, ◌*◌, length, take}
use Rattle.lists.specs.Put.{put}
use Rattle.steps.specs.Printed.{pair_lines}
use Rattle.steps.specs.Step.{line_room}
use Rattle.steps.proofs.put_pairs.Given as goal

abbrev pub invariant-loop-p : goal.invariant-loop-p
invariant-loop-p l = record {
  few : l.at ≤ line_room * l.p-index;
  long : l.at ≡ length (pair_lines (take l.p-index l.pairs));
  placed : l.out ≡ put 0 (pair_lines (take l.p-index l.pairs)) l.initial.out;
}
