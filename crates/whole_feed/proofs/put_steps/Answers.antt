-- `put_steps` meets its contract: each step puts out what comes next of the text.
use Rattle.std.proofs.Common.{arith, ◌≡◌, ◌+◌, ◌-◌, List, ℕ, take, drop, true, refl, ap, ◌∙◌}
use Rattle.std.proofs.lemmas.List.{length-drop, drop-drop, take_rest}
use Rattle.feed.proofs.Fields.{drop_first}
use Rattle.framing.specs.Step.{stepped}
use Rattle.framing.proofs.Text.{stands_begun, stands_ended, stands_on}
use Rattle.steps.specs.Printed.{begun, joinfeed, read_limit}
use Rattle.steps.proofs.Steps.{kept_begun}
use Rattle.whole_feed.proofs.put_steps.Goals as goal

pub loop-used-init : goal.loop-used-init
loop-used-init c =
    let rule = c.args.rule in
    record {
      kept = rw c.begun-run.ensures (kept_begun rule _ (omega arith));
      in_feed = omega arith;
      limit = refl;
      few = omega arith;
      stands = rw c.begun-run.ensures (stands_begun joinfeed (begun rule) read_limit c.args.feed.now c.args.out.now);
    }

pub loop-used-preserved : goal.loop-used-preserved
loop-used-preserved c =
    let l = c.loop-used in
    let i = l.invariant in
    let w = c.in-On in
    let e = w.ensures in
    let feed = c.args.feed.now in
    let same = e.out_after ∙ ap (λ (rest : List ℕ). stepped joinfeed l.run l.left rest true l.lines) (take_rest feed l.at) in
    let rest : drop w.used (take l.left (drop l.at feed)) ≡ take (l.left - w.used) (drop (l.at + w.used) feed) =
    drop_first w.used l.left (drop l.at feed) e.bounds.0 ∙ ap (take (l.left - w.used)) (drop-drop w.used l.at feed) in
    record {
      kept = e.kept;
      in_feed = let within = rw take_rest at e.bounds.1 in omega (arith, i.in_feed, within, length-drop l.at feed);
      limit = omega (arith, i.limit, e.bounds.0);
      few = omega (arith, i.few, e.bounds.2, e.goes.0 refl);
      stands = rw rest at (stands_on joinfeed l.left (drop l.at feed) i.stands l.lines _ same c.put_fitting.new.out c.put_fitting.ensures l.auto.out refl);
    }

pub returns-in-Ended : goal.returns-in-Ended
returns-in-Ended c =
    let l = c.loop-used in
    let feed = c.args.feed.now in
    let same = c.in-Ended.ensures.out_after ∙ ap (λ (rest : List ℕ). stepped joinfeed l.run l.left rest true l.lines) (take_rest feed l.at) in
    let both = stands_ended joinfeed l.left (drop l.at feed) l.invariant.stands l.lines _ same c.put_fitting-in-Ended.new.out c.put_fitting-in-Ended.ensures l.auto.out refl in
    record { value = both.0; out_after = both.1 }
