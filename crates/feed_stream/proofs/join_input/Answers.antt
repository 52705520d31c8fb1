-- The run begins with a fresh join and a flow with nothing read; each step goes on with the text of the feed, and the last one ends it.
use Rattle.std.proofs.Common.{drop, arith, rules, refl, ap, sym, subst}
use Rattle.pairing.specs.declared.Rule.TheVariants.{Equal}
use Rattle.pipe.specs.declared.Flow.{Flow}
use Rattle.pipe.proofs.Loop.{piped_on, piped_refilled}
use Rattle.framing.specs.declared.Went.TheVariants as answered
use Rattle.steps.specs.declared.Progress.{Progress}
use Rattle.steps.specs.Printed.{begun, joinfeed}
use Rattle.steps.specs.Step.{effect_with, Kept, room}
use Rattle.steps.proofs.Steps.{kept_begun}
use Rattle.feed_stream.proofs.Stream.{streamed_if, streamed_on, streamed_more, streamed_ended, streamed_read, read_few, if_some, on_ok}
use Rattle.feed_stream.proofs.join_input.Goals as goal

pub loop-flow-init : goal.loop-flow-init
loop-flow-init g c =
    let limit = c.args.limit in
    let start = c.begun-run.ensures in
    let flow = c.begun-flow.ensures in
    record {
      kept = subst (Kept _) (sym (ap (λ (f : Flow). f.left) flow)) (subst (λ (p : Progress). Kept p limit) (sym start) (kept_begun Equal limit (omega arith)));
      piped = search rules;
      streamed = streamed_if joinfeed (begun Equal) limit _ _ _ _ _ _ flow start;
    }

pub loop-flow-preserved-in-More : goal.loop-flow-preserved-in-More
loop-flow-preserved-in-More g c =
    let i = c.loop-flow.invariant in
    let f = i.piped.flowing in
    let long = i.piped.window_long in
    let after = c.step_on.new in
    let e = c.in-More.ensures in
    let r = c.in_ok-flow-in-More.ensures in
    let waits = e.bounds.4 refl in
    let few = waits.1 in
    let same = r.refilled.left in
    record {
      kept = subst (Kept after.run) (omega arith) e.kept;
      piped = piped_refilled i.piped r.refilled (omega arith) (omega arith) (omega arith);
      streamed = if_some _ (λ feed s.
          streamed_more joinfeed s f.order (omega arith) (effect_with answered.More after.run (drop c.loop-flow.flow.filled after.out)) e.out_after after.out e.out_unchanged refl refl
          c.refill.new.window c.in_ok-flow-in-More.flow _ _ r.refilled r.window_after r.none_lost r.consumed (λ ended less. r.at_end ended less (omega arith)) r.written) i.streamed;
    }

pub loop-flow-preserved : goal.loop-flow-preserved
loop-flow-preserved g c =
    let i = c.loop-flow.invariant in
    let f = i.piped.flowing in
    let long = i.piped.window_long in
    let after = c.step_on.new in
    let on = c.in-On in
    let e = on.ensures in
    let r = c.in_ok-flow-in-On.ensures in
    record {
      kept = subst (Kept after.run) (sym (ap (λ (x : Flow). x.left) r.gone.1)) e.kept;
      piped = piped_on i.piped on.used on.filled e.bounds.1 r.gone (omega arith);
      streamed = if_some _ (λ feed s.
          streamed_on joinfeed s f.order (omega arith) (effect_with (answered.On on.used on.filled) after.run (drop c.loop-flow.flow.filled after.out)) e.out_after after.out e.out_unchanged refl refl room c.in_ok-flow-in-On.flow _ r.gone.1 r.written) i.streamed;
    }

pub returns-in-Ended-clause-written : goal.returns-in-Ended-clause-written
returns-in-Ended-clause-written g c =
    let i = c.loop-flow.invariant in
    let f = i.piped.flowing in
    let long = i.piped.window_long in
    let after = c.step_on.new in
    let e = c.in-Ended.ensures in
    on_ok c.finish.result (λ put. if_some _ (λ feed s.
    streamed_ended joinfeed s f.order (omega arith) (effect_with (answered.Ended c.in-Ended.filled) after.run (drop c.loop-flow.flow.filled after.out)) e.out_after after.out e.out_unchanged refl refl _ put) i.streamed) c.finish.ensures.written

pub returns-in-Ended-clause-in_limit : goal.returns-in-Ended-clause-in_limit
returns-in-Ended-clause-in_limit g c =
    let i = c.loop-flow.invariant in
    on_ok c.finish.result (λ put. read_few c.args.limit _ _ (if_some _ (λ feed s. streamed_read joinfeed s i.piped.flowing.in_limit) i.streamed)) c.finish.ensures.written
