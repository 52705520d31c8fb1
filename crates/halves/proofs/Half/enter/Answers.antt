-- `enter` meets its contract: a refusal leaves all as it stood, and what is not refused is admitted.
use Rattle.std.proofs.Common.{sym}
use Rattle.std.proofs.lemmas.Result.{err_from_is_err_and}
use Rattle.halves.specs.View.{halves_with, seen}
use Rattle.halves.proofs.Laws.{refused_first, answered_by_room, partners_formed, partners_placed, room_answers}
use Rattle.halves.proofs.Half.enter.Goals as goal

pub returns-in_err-first_answer-clause-answer : goal.returns-in_err-first_answer-clause-answer
returns-in_err-first_answer-clause-answer c =
    let h = halves_with c.args.rule c.args.self.now c.args.other.now c.args.queue.now in
    let handed = err_from_is_err_and c.from_residual.result c.from_residual.ensures.1 in
    rw (handed.1, handed.2) (refused_first c.args.side (seen h) c.args.e _ c.in_err-first_answer.ensures)

pub room_answer-requires : goal.room_answer-requires
room_answer-requires c =
    let h = halves_with c.args.rule c.args.self.now c.args.other.now c.args.queue.now in
    (c.requires.holds_queue.few, partners_placed h c.requires c.args.side c.args.e _ c.partners-new.ensures)

pub returns-in_err-room_answer-clause-answer : goal.returns-in_err-room_answer-clause-answer
returns-in_err-room_answer-clause-answer c =
    let h = halves_with c.args.rule c.args.self.now c.args.other.now c.args.queue.now in
    let room = room_answers h c.requires c.args.side c.args.e _ c.partners-new.ensures _ c.in_err-room_answer.ensures in
    let handed = err_from_is_err_and c.from_residual-in_err-room_answer.result c.from_residual-in_err-room_answer.ensures.1 in
    rw (handed.1, handed.2) (answered_by_room c.args.side (seen h) c.args.e c.in_ok-first_answer.ensures _ room)

pub admit-requires-clause-admitted : goal.admit-requires-clause-admitted
admit-requires-clause-admitted c =
    let h = halves_with c.args.rule c.args.self.now c.args.other.now c.args.queue.now in
    (sym c.in_ok-first_answer.ensures, sym (room_answers h c.requires c.args.side c.args.e _ c.partners-new.ensures _ c.in_ok-room_answer.ensures))

pub admit-requires-clause-counted : goal.admit-requires-clause-counted
admit-requires-clause-counted c =
    let h = halves_with c.args.rule c.args.self.now c.args.other.now c.args.queue.now in
    partners_formed h c.requires c.args.side c.args.e _ c.partners-new.ensures

pub returns-clause-answer : goal.returns-clause-answer
returns-clause-answer c =
    let h = halves_with c.args.rule c.args.self.now c.args.other.now c.args.queue.now in
    answered_by_room c.args.side (seen h) c.args.e c.in_ok-first_answer.ensures _ (room_answers h c.requires c.args.side c.args.e _ c.partners-new.ensures _ c.in_ok-room_answer.ensures)
