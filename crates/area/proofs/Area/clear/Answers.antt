-- `clear` meets its contract: the wanted entries are moved to the front, and zeros stand behind them.
use Prim.Native.Nat.{ℕ, ◌-◌}
use native.Mathlib.Omega.{arith}
use mathlib.Core.Path.{◌≡◌, ap, ◌∙◌}
use lib.ListN.{length, replicate, length-take, length-drop}
use borrow.Rule.Slice.PartMut.{mid_of}
use Rattle.area.proofs.Laws.{none_default, cleared}
use Rattle.area.proofs.Area.clear.Goals as goal

pub returns : goal.returns
returns c =
    let s = c.squeeze-kept.ensures in
    let gap : length (mid_of c.squeeze-kept.result (c.squeeze-kept.new.self.count - c.squeeze-kept.result) c.squeeze-kept.new.self.places) ≡ c.args.self.now.count - c.squeeze-kept.result = simp (length-take, length-drop) (omega (arith, s.0, s.1.long, s.1.within)) in
    let zeros = c.fill.ensures.after (λ y e. e) ∙ ap (λ (n : ℕ). replicate n c.default.result) gap in
    rw (zeros, s.0, none_default c.default.result c.default.ensures)
    (cleared c.args.self.now c.requires c.args.gate c.squeeze-kept.result c.squeeze-kept.new.self.places s.1)
