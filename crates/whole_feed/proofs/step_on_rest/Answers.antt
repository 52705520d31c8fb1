-- `step_on_rest` meets its contract: such a step is told that the feed ends, so that it never waits.
use Rattle.std.proofs.Common.{true≢false}
use Rattle.framing.proofs.Moves.{moves}
use Rattle.whole_feed.proofs.step_on_rest.Goals as goal

pub returns : goal.returns
returns c =
    let e = c.step.ensures in
    let m = moves _ _ _ _ _ _ _ e.out_after in
    record {
      out_after = e.out_after;
      kept = e.kept;
      bounds = (m.in_left, m.in_window, m.fits c.step.auto.out);
      goes = (m.on, λ more. true≢false (m.more more).0);
    }
