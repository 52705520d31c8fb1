-- The run begins with all of the limit left, and its flow with nothing read.
use Rattle.std.proofs.Common.{arith, ap, rules}
use Rattle.pipe.specs.declared.Flow.{Flow}
use Rattle.steps.proofs.Steps.{kept_begun}
use Rattle.many_run.proofs.put_pieces.Goals as goal

pub loop-out-init : goal.loop-out-init
loop-out-init c = record {
  kept = rw (c.begun-run.ensures, ap (λ (f : Flow). f.left) c.begun-flow.ensures) (kept_begun _ _ (omega arith));
  order = search rules;
  in_feed = search rules;
  in_buffer = search rules;
}
