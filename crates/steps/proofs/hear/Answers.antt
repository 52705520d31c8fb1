-- `hear` meets its contract: each record has its call, made after judging.
use Rattle.std.proofs.Common.{◌∙◌}
use Rattle.join.proofs.Laws.{beside_own}
use Rattle.steps.proofs.Heard.{heard_entry, heard_mark, heard_close}
use Rattle.steps.proofs.hear.Goals as goal

pub returns-in-Entry : goal.returns-in-Entry
returns-in-Entry c = c.entry_on.ensures ∙ heard_entry c.args.join.now c.requires.0 c.args.«record» c.requires.1 _ _ c.in-Entry.is _ c.side_of.ensures

pub returns-in-Mark : goal.returns-in-Mark
returns-in-Mark c =
    let s = c.args.join.now in
    let after = c.mark_on.ensures in
    beside_own _ s _ _ after.queue (after.answer s.queue c.requires.0.holds_queue) ∙ heard_mark s c.requires.0 c.args.«record» c.requires.1 _ _ c.in-Mark.is _ c.side_of-in-Mark.ensures

pub returns-in-Close : goal.returns-in-Close
returns-in-Close c =
    let s = c.args.join.now in
    let after = c.close_on.ensures in
    beside_own _ s _ _ after.queue (after.answer s.queue c.requires.0.holds_queue) ∙ heard_close s c.requires.0 c.args.«record» c.requires.1 _ c.in-Close.is _ c.side_of-in-Close.ensures
