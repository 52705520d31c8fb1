-- `mark` meets its contract: 8, then 1, then whatever the side answers.
use Rattle.std.proofs.Common.{◌∙◌}
use Rattle.std.proofs.lemmas.Result.{err_from_is_err_and}
use Rattle.join.proofs.Laws.{beside_own, refused_mark, judged_mark}
use Rattle.join.proofs.Join.mark.Goals as goal

pub returns-in_err-side : goal.returns-in_err-side
returns-in_err-side c =
    let handed = err_from_is_err_and c.from_residual.result c.from_residual.ensures.1 in
    rw (handed.1, handed.2) (refused_mark c.args.self.now c.args.stream _ c.in_err-side.ensures.err c.args.time)

pub returns : goal.returns
returns c =
    let s = c.args.self.now in
    let ok = c.in_ok-side.ensures.ok in
    let after = c.mark_on.ensures in
    beside_own _ s _ _ after.queue (after.answer s.queue ok.2.holds_queue) ∙ judged_mark s c.args.stream _ ok.1 ok.0 c.args.time
