-- Each iteration of `join_input` has a run that is kept, and a flow that keeps its order. Where the bytes of the input are known, what was written, what the buffer holds and what is printed of the rest make up the text of the feed.
use Rattle.std.proofs.Common.{IfSome}
use Rattle.pairing.specs.declared.Rule.TheVariants.{Equal}
use Rattle.pipe.proofs.Loop.{Piped, remaining}
use Rattle.steps.specs.Printed.{joinfeed, printed}
use Rattle.steps.specs.Step.{Kept, room}
use Rattle.feed_stream.proofs.Stream.{Streamed}
use Rattle.feed_stream.proofs.join_input.Given as goal

abbrev pub invariant-loop-flow : goal.invariant-loop-flow
invariant-loop-flow g l =
    record {
      kept : Kept l.run l.flow.left;
      piped : Piped l.flow l.window l.out room;
      streamed : IfSome (g.R.Read.remaining l.fn.input) (λ feed. Streamed joinfeed (printed Equal l.limit feed) l.limit feed l.flow l.window l.out l.run (g.R.Read.remaining l.input) (g.W.Write.contents l.fn.output) (g.W.Write.contents l.output));
    }

abbrev pub decreases-loop-flow : goal.decreases-loop-flow
decreases-loop-flow g l = remaining l.flow
