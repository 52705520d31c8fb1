-- A state, and what its two sides see of it.
use mathlib.Core.Path.{◌≡◌, refl, sym, ap, ◌∙◌}
use Rattle.pairing.specs.declared.Side.{Side}
use Rattle.pairing.specs.declared.Side.TheVariants.{A, B}
use Rattle.area.specs.Area as area
use Rattle.queue.specs.Queue as queue
use Rattle.halves.specs.View.{View}
use Rattle.halves.proofs.View.{seen_stored, halves_seen, across, turned}
use Rattle.join.specs.State.{State, seen_from, join_of, view, state_of}
use Rattle.join.specs.Calls.{waiting_in}

-- what a side sees of the state that it sees so
pub view_state_of : (side : Side) (v : View) → view side (state_of side v) ≡ v
unfolding view state_of
view_state_of A v = seen_stored v
view_state_of B v = seen_stored v

-- ---- the other side

pub view_across : (side : Side) (s : State) → view (across side) s ≡ turned (view side s)
unfolding view
view_across A s = refl
view_across B s = refl

pub state_of_across : (side : Side) (v : View) → state_of (across side) (turned v) ≡ state_of side v
unfolding state_of
state_of_across A v = refl
state_of_across B v = refl

-- either side sees the pairs that wait
pub view_waiting : (side : Side) (s : State) → (view side s).waiting ≡ waiting_in s
unfolding view
view_waiting A s = refl
view_waiting B s = refl

-- a state that stores what it holds is the stored form of what a side sees
module _ (s : State) (a : area.Holds s.a.area) (b : area.Holds s.b.area) (q : queue.Holds s.queue) where
  stored_from_a : state_of A (view A s) ≡ s
  unfolding view state_of
  stored_from_a = sym (ap (join_of A) (halves_seen (seen_from A s) a b q))

  pub state_of_view : (side : Side) → state_of side (view side s) ≡ s
  state_of_view A = stored_from_a
  state_of_view B = ap (state_of B) (view_across A s) ∙ state_of_across A (view A s) ∙ stored_from_a
