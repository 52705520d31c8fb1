-- What is ready: the laws of what is due, of pairs by their start.
use Prim.Native.Nat.{ℕ, ◌≤◌}
use mathlib.Core.Bool.{true, false}
use mathlib.Core.List.{List, ◌∷◌, ◌++◌}
use mathlib.Core.Path.{◌≡◌}
use Rattle.std.specs.Prelude.{filter}
use Rattle.lists.proofs.Order.{Ascending}
use Rattle.pairing.specs.declared.Pair.{Pair}
use Rattle.pairing.specs.Pair.{comes_before}
use Rattle.pairing.proofs.Pairs.{before_start}
use Rattle.journal.specs.declared.Gate.{Gate}
use Rattle.journal.specs.declared.Gate.TheVariants.{Open}
use Rattle.journal.proofs.Due.{filter_due_comm, due_ahead, due_head, due_grows}
use Rattle.journal.proofs.Onward.{Onward}
use Rattle.queue.specs.Queue.{ready}

-- when a pair falls due
abbrev pub start : Pair → ℕ
start p = p.meeting.start

pub filter_ready_comm : (a b : Gate) (ps : List Pair) → filter (ready a b) ps ≡ filter (ready b a) ps
unfolding ready
filter_ready_comm = filter_due_comm start

pub ready_ahead : (a b : Gate) (time : ℕ) → Onward a (Open time) → (p : Pair) → time ≤ p.meeting.start → ready a b p ≡ false
unfolding ready
ready_ahead = due_ahead start

pub ready_head : (a b : Gate) (q : Pair) (qs : List Pair) → Ascending comes_before (q ∷ qs) → (p : Pair) (ps : List Pair) → filter (ready a b) (q ∷ qs) ≡ p ∷ ps → ready a b q ≡ true
unfolding ready
ready_head = due_head start comes_before before_start

pub ready_grows : (a b next_a next_b : Gate) → Onward a next_a → Onward b next_b → (ps next : List Pair) → filter (ready a b) next ≡ filter (ready a b) ps → Ascending comes_before next
    → (new : List Pair) × (filter (ready next_a next_b) next ≡ filter (ready a b) ps ++ new)
unfolding ready
ready_grows = due_grows start comes_before before_start
