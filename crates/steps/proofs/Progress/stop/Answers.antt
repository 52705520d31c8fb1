-- `stop` meets its contract: the last line is that of a refused reading, or of the feed's end.
use Rattle.std.proofs.Common.{refl, sym, ap, ◌∙◌}
use Rattle.feed.specs.Reading.{Reading}
use Rattle.framing.specs.Step.{done}
use Rattle.framing.proofs.Steps.{ends_effect}
use Rattle.steps.specs.Printed.{joinfeed}
use Rattle.steps.proofs.Steps.{found_end}
use Rattle.steps.proofs.Progress.stop.Goals as goal

pub returns-in_default : goal.returns-in_default
returns-in_default c =
    let p = c.args.self.now in
    let placed = c.put_end-filled in
    ends_effect p c.args.out.now 0 _ placed.result placed.new.out placed.ensures.value placed.ensures.out_after p refl
    ∙ ap (λ (r : Reading). done joinfeed p c.args.out.now r) (sym (found_end c.args.reading c.requires.2 c.in_default.not-Err))

pub returns : goal.returns
returns c =
    let p = c.args.self.now in
    let placed = c.put_refused-filled in
    rw c.in-Err.is (ends_effect p c.args.out.now 0 _ placed.result placed.new.out placed.ensures.value placed.ensures.out_after p refl)
