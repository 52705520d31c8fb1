-- `close` meets its contract: 8, then 1, then whatever the side answers.
use Rattle.std.proofs.Common.{◌∙◌}
use Rattle.std.proofs.lemmas.Result.{err_from_is_err_and}
use Rattle.join.proofs.Laws.{beside_own, refused_close, judged_close}
use Rattle.join.proofs.Join.close.Goals as goal

pub returns-in_err-side : goal.returns-in_err-side
returns-in_err-side c =
    let handed = err_from_is_err_and c.from_residual.result c.from_residual.ensures.1 in
    rw (handed.1, handed.2) (refused_close c.args.self.now c.args.stream _ c.in_err-side.ensures.err)

pub returns : goal.returns
returns c =
    let s = c.args.self.now in
    let ok = c.in_ok-side.ensures.ok in
    let after = c.close_on.ensures in
    beside_own _ s _ _ after.queue (after.answer s.queue ok.2.holds_queue) ∙ judged_close s c.args.stream _ ok.1 ok.0
