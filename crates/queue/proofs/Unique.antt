-- The contract of each public function allows one result, and one queue after it.
use Rattle.unique.specs.Unique.{OneResult, OneOutcome}
use Rattle.unique.proofs.Equation.{one_by_equation, agree}
use Rattle.queue.specs.declared.Queue.{Queue}
use Rattle.queue.proofs.is_ready.Reads as is-ready
use Rattle.queue.proofs.Queue.fresh.Reads as fresh
use Rattle.queue.proofs.Queue.first.Reads as first
use Rattle.queue.proofs.Queue.drop_first.Reads as drop_first
use Rattle.queue.proofs.Queue.merge.Reads as merge
use Rattle.queue.proofs.Queue.ready.Reads as ready
use Rattle.queue.proofs.Queue.sound.Reads as sound

one_is_ready : OneResult is-ready.Post
one_is_ready = one_by_equation _ _

one_fresh : OneResult fresh.Post
one_fresh = one_by_equation _ _

one_first : OneResult first.Post
one_first = one_by_equation _ _

one_drop_first : OneOutcome {Seen = Queue} (λ κs result left. left.0.now) drop_first.Post
one_drop_first κs args x y left other p q = agree p q

one_merge : OneOutcome {Seen = Queue} (λ κs result left. left.0.now) merge.Post
one_merge κs args x y left other p q = agree p q

one_ready : OneResult ready.Post
one_ready κs args x y left other p q = agree p.0 q.0

one_sound : OneResult sound.Post
one_sound κs args x y left other p q = agree p.0 q.0
