-- `drop_first` meets its contract: the pairs behind the first k are moved to the front, and zeros stand behind them. With none to drop, all stays.
use Prim.Native.Nat.{ℕ, ◌-◌}
use native.Mathlib.Omega.{arith}
use mathlib.Core.Path.{◌≡◌, ap, ◌∙◌}
use lib.ListN.{length, replicate, length-take, length-drop}
use borrow.Rule.Slice.PartMut.{mid_of}
use Rattle.queue.proofs.Laws.{holds_length, none_default, dropped}
use Rattle.queue.proofs.Queue.drop_first.Goals as goal

pub returns : goal.returns
returns c =
    let n = c.args.self.now.count in
    let k = c.args.k in
    let gap : length (mid_of (n - k) (n - (n - k)) c.copy_within.new.self) ≡ n - (n - k) = simp (length-take, length-drop) (omega (arith, c.copy_within.ensures.len, holds_length c.args.self.now c.requires.1, c.requires.1.few)) in
    let zeros = c.fill.ensures.after (λ y e. e) ∙ ap (λ (m : ℕ). replicate m c.default.result) gap in
    rw (zeros, c.copy_within.ensures.after, none_default c.default.result c.default.ensures) (dropped c.args.self.now c.requires.1 k c.requires.0)
