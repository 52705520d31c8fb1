-- `entry` meets its contract: 8, then 1, then whatever the side answers.
use Rattle.std.proofs.Common.{◌∙◌}
use Rattle.std.proofs.lemmas.Result.{err_from_is_err_and}
use Rattle.join.proofs.Laws.{refused_entry, judged_entry}
use Rattle.join.proofs.Join.entry.Goals as goal

pub returns-in_err-side : goal.returns-in_err-side
returns-in_err-side c =
    let handed = err_from_is_err_and c.from_residual.result c.from_residual.ensures.1 in
    rw (handed.1, handed.2) (refused_entry c.args.self.now c.args.stream _ c.in_err-side.ensures.err c.args.e)

pub returns : goal.returns
returns c =
    let ok = c.in_ok-side.ensures.ok in
    c.entry_on.ensures ∙ judged_entry c.args.self.now c.args.stream _ ok.1 ok.0 c.args.e
