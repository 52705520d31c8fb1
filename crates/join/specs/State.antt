-- The state of a join: its rule, its two journals with their areas, and its queue.
use Rattle.std.specs.Prelude.{Bool, true, ◌&&◌, [], ◌≡◌, leb}
use Rattle.pairing.specs.declared.Rule.{Rule}
use Rattle.pairing.specs.declared.Side.{Side}
use Rattle.pairing.specs.declared.Side.TheVariants.{A, B}
use Rattle.journal.specs.Journal.{entries, fresh_journal}
use Rattle.area.specs.Area as area
use Rattle.queue.specs.Queue as queue
use Rattle.halves.specs.View.{View, Halves, seen, halves_of}
use Rattle.join.specs.declared.Join.{Join}

abbrev pub State : Type 0
State = Join

-- A state is sound when: counts are within limits; held entries and waiting pairs are sound; spare places are zero.
unfoldable pub sound : State → Bool
sound s =
    leb s.a.journal.accepted entries
    && (leb s.b.journal.accepted entries
    && (area.sound_area s.rule s.a.journal s.b.journal.gate s.a.area
    && (area.sound_area s.rule s.b.journal s.a.journal.gate s.b.area
    && queue.sound_queue s.a.journal.accepted s.b.journal.accepted s.queue)))

-- a sound state whose places are as many as the types of the code say: they store what is held and waiting
pub record Sound (s : State) : Type 0 where
  pub judged : sound s ≡ true
  pub holds_a : area.Holds s.a.area
  pub holds_b : area.Holds s.b.area
  pub holds_queue : queue.Holds s.queue

-- what a side sees of a join: its own half first
abbrev pub seen_from : Side → Join → Halves
seen_from A join = record { rule = join.rule; own = join.a; other = join.b; queue = join.queue }
seen_from B join = record { rule = join.rule; own = join.b; other = join.a; queue = join.queue }

-- the join that a side sees so
abbrev pub join_of : Side → Halves → Join
join_of A halves = record { rule = halves.rule; a = halves.own; b = halves.other; queue = halves.queue }
join_of B halves = record { rule = halves.rule; a = halves.other; b = halves.own; queue = halves.queue }

-- what a side sees of a state
unfoldable pub view : Side → State → View
view side s = seen (seen_from side s)

-- the one state that a side sees so. Places beyond a count hold zeros, so equal histories give equal states.
unfoldable pub state_of : Side → View → State
state_of side v = join_of side (halves_of v)

-- a fresh join: both journals open at 0, nothing held, nothing waiting
unfoldable pub fresh_state : Rule → State
fresh_state rule = state_of A (record { rule = rule; own = fresh_journal; other = fresh_journal; mine = []; others = []; waiting = [] })
