-- `slide` meets its contract where the pair goes behind all: it does not come before the last, so it comes before none.
use Prim.Native.Nat.{suc, ◌-◌}
use native.Mathlib.Omega.{arith}
use mathlib.Core.Bool.{true, false}
use mathlib.Core.Path.{◌≡◌, refl}
use lib.ListN.{length, take}
use lib.Seq.{length-take-le}
use borrow.Author.Rules.{rules}
use Rattle.std.specs.List.{AllWithin}
use Rattle.lists.proofs.Merge.{below, below_first, slid_behind}
use Rattle.lists.proofs.Point.{pass_to}
use Rattle.pairing.specs.Pair.{comes_before}
use Rattle.pairing.proofs.Pairs.{strict_comes_before}
use Rattle.queue.specs.Queue.{no_pair}
use Rattle.queue.proofs.Laws.{asked}
use Rattle.queue.proofs.Queue.slide.Goals as goal
use Rattle.queue.proofs.Queue.slide.Goals.{else-w-gt0-via-then-w-gt0+else-comes_before, else-w-gt0-via-else-w-gt0}

pub returns : goal.returns
returns c =
    let a = c.args in
    let pairs = take a.w a.self.now.places in
    let long : length pairs ≡ a.w = length-take-le a.w a.self.now.places (search rules) in
    let all : AllWithin (λ q. below comes_before a.p q ≡ true) pairs 0 a.w =
    elim c.else-w-gt0.branch [
      | else-w-gt0-via-then-w-gt0+else-comes_before w ↦
          let up : suc (a.w - 1) ≡ a.w = omega (arith, w.if-w-gt0.true) in
          let not_later = asked a.p a.self.now.places a.w (a.w - 1) false (omega (arith, w.if-w-gt0.true)) w.comes_before.ensures w.if-comes_before.false in
          rw up at (pass_to (below comes_before a.p) pairs (below_first comes_before strict_comes_before a.p pairs c.requires.2) (a.w - 1) no_pair (omega (arith, long, w.if-w-gt0.true)) not_later)
      | else-w-gt0-via-else-w-gt0 w ↦ λ i d h k. absurd (omega (arith, w.if-w-gt0.false, k))
    ] in
    (refl, slid_behind comes_before strict_comes_before a.p a.self.now.places a.w a.gap c.requires.0 (search rules) all)
