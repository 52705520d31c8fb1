-- `take` meets its contract: 8 for an unsound state, else what the queue and the gates answer.
use Rattle.std.proofs.Common.{sym, ◌∙◌}
use Rattle.join.specs.Calls.{take_call}
use Rattle.join.proofs.Join.take.Goals as goal

pub returns-then-sound : goal.returns-then-sound
unfolding take_call
returns-then-sound c = rw (sym c.sound.ensures.value ∙ c.if-sound.true) c.take_on.ensures

pub returns-else-sound : goal.returns-else-sound
unfolding take_call
returns-else-sound c = rw (sym c.sound.ensures.value ∙ c.if-sound.false)
