-- `hold_wanted` meets its contract: an entry that is not wanted leaves the area as it is.
use Rattle.std.proofs.Common.{sym, ◌∙◌}
use mathlib.Core.List.{append-nil}
use Rattle.area.specs.Area.{held}
use Rattle.area.proofs.Sound.{area_held}
use Rattle.halves.proofs.hold_wanted.Goals as goal

pub returns-else-wants : goal.returns-else-wants
returns-else-wants c =
    rw (sym c.wants.ensures ∙ c.if-wants.false, append-nil (held c.args.area.now)) (sym (area_held c.args.area.now c.requires.0))
