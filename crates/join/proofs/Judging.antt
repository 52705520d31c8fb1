-- A state is not sound where more entries were accepted in a journal than may be.
use Prim.Native.Nat.{◌≤◌, ◌<◌}
use mathlib.Core.Bool.{false}
use mathlib.Core.Path.{◌≡◌}
use borrow.Author.Tests.{le-leb, lt-leb}
use Rattle.journal.specs.Journal.{entries}
use Rattle.join.specs.State.{State, sound}

module _ (s : State) where
  pub too_many_a : entries < s.a.journal.accepted → false ≡ sound s
  unfolding sound
  too_many_a h = rw (lt-leb s.a.journal.accepted entries h)

  pub too_many_b : s.a.journal.accepted ≤ entries → entries < s.b.journal.accepted → false ≡ sound s
  unfolding sound
  too_many_b f h = rw (le-leb s.a.journal.accepted entries f, lt-leb s.b.journal.accepted entries h)
