-- `squeeze` meets its contract.
use mathlib.Core.Path.{sym, ◌∙◌}
use Prim.Native.Nat.{◌<◌}
use lib.ListN.{length}
use Rattle.std.proofs.Common.{rules}
use Rattle.std.proofs.lemmas.List.Filters.{FiltersInPlace-more_set}
use Rattle.lists.proofs.InPlace.{FiltersInPlace-more_left}
use Rattle.area.proofs.Area.squeeze.Goals as goal
use Rattle.area.proofs.Area.squeeze.Goals.{then-wanted, else-wanted}

pub loop-i-preserved : goal.loop-i-preserved
loop-i-preserved c =
    let f = c.loop-i.invariant.1 in
    let inside : c.loop-i.i < length c.loop-i.self.places = search rules in
    elim c.if-wanted.branch [
      | then-wanted w ↦ rw w.kept-is (c.loop-i.invariant.0, FiltersInPlace-more_set f inside (sym c.wants-wanted.ensures ∙ w.if-wanted.true) (search rules))
      | else-wanted w ↦ rw w.kept-is (c.loop-i.invariant.0, FiltersInPlace-more_left f inside (sym c.wants-wanted.ensures ∙ w.if-wanted.false) (search rules))
    ]
