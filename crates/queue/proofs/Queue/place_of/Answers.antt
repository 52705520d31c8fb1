-- `place_of` meets its contract: each turn shows more of the last places to come after p, and the place found between tells that among all.
use Prim.Native.Nat.{suc, ◌+◌, ◌-◌, ◌≤◌}
use native.Mathlib.Omega.{arith}
use mathlib.Core.Bool.{true, false}
use mathlib.Core.Path.{◌≡◌, sym, ap, ◌∙◌}
use lib.ListN.{length, take, drop}
use lib.Seq.{slice, length-slice, length-take-le, take-take}
use borrow.Author.Rules.{rules}
use borrow.Rule.Slice.PartMut.{mid_of}
use Rattle.std.specs.List.{AllWithin}
use Rattle.std.proofs.lemmas.Slice.{between_is}
use Rattle.std.proofs.lemmas.List.Sorted.{IsPartitionPoint-from_clause}
use Rattle.lists.proofs.Merge.{below, below_first}
use Rattle.lists.proofs.Point.{pass_to, fail_from, parted_between, point_between}
use Rattle.pairing.specs.Pair.{comes_before}
use Rattle.pairing.proofs.Pairs.{strict_comes_before}
use Rattle.queue.specs.Queue.{no_pair}
use Rattle.queue.proofs.Laws.{asked}
use Rattle.queue.proofs.Queue.place_of.Goals as goal
use Rattle.queue.proofs.Queue.place_of.Goals.{then-loop-back-test+else-comes_before, else-loop-back-test}

pub loop-back-preserved : goal.loop-back-preserved
loop-back-preserved c =
    let a = c.args in
    let l = c.loop-back in
    let pairs = take a.w a.self.now.places in
    let long : length pairs ≡ a.w = length-take-le a.w a.self.now.places (search rules) in
    let later = asked a.p a.self.now.places a.w (a.w - l.back) true (omega (arith, l.invariant.0, c.loop-back-test.true)) c.comes_before.ensures c.if-comes_before.true in
    let rest = fail_from (below comes_before a.p) pairs (below_first comes_before strict_comes_before a.p pairs c.requires.1) (a.w - l.back) no_pair (omega (arith, long, l.invariant.0, c.loop-back-test.true)) later in
    (omega arith, (omega (arith, c.loop-back-test.true), (omega arith, (omega (arith, l.invariant.0, c.loop-back-test.true), rw long at rest))))

pub returns : goal.returns
returns c =
    let a = c.args in
    let l = c.loop-back in
    let pairs = take a.w a.self.now.places in
    let low = c.saturating_sub-low.result in
    let long : length pairs ≡ a.w = length-take-le a.w a.self.now.places (search rules) in
    let high : l.high ≤ length pairs = omega (arith, long, l.invariant.1.1.0) in
    let parted = below_first comes_before strict_comes_before a.p pairs c.requires.1 in
    let part = mid_of low (l.high - low) a.self.now.places in
    let same : slice low l.high pairs ≡ part = ap (drop low) (take-take l.high a.w a.self.now.places l.invariant.1.1.0) ∙ sym (between_is a.self.now.places low l.high) in
    let front : AllWithin (λ q. below comes_before a.p q ≡ true) pairs 0 low =
    elim c.loop-back-test.branch [
      | then-loop-back-test+else-comes_before w ↦
          let up : suc (a.w - l.back) ≡ low = omega (arith, c.saturating_sub-low.ensures, l.invariant.0, w.loop-back-test.true) in
          let not_later = asked a.p a.self.now.places a.w (a.w - l.back) false (omega (arith, l.invariant.0, w.loop-back-test.true)) w.comes_before.ensures w.if-comes_before.false in
          rw up at (pass_to (below comes_before a.p) pairs parted (a.w - l.back) no_pair (omega (arith, long, l.invariant.0, w.loop-back-test.true)) not_later)
      | else-loop-back-test w ↦ λ i d h k. absurd (omega (arith, c.saturating_sub-low.ensures, w.loop-back-test.false, k))
    ] in
    let back : AllWithin (λ q. below comes_before a.p q ≡ false) pairs l.high (length pairs) = λ i d h k. l.invariant.1.1.1.1 i d h (omega (arith, long, k)) in
    let point = IsPartitionPoint-from_clause (below comes_before a.p) part c.partition_point.result c.partition_point.ensures.partitioned (rw same at (parted_between (below comes_before a.p) pairs low l.high high parted)) (λ a r f' q. search rules) in
    let few : low + c.partition_point.result ≤ l.high = omega (arith, c.partition_point.ensures.bound, ap length same, length-slice low l.high pairs high, c.saturating_sub-low.ensures, l.invariant.1.1.1.0) in
    (omega (arith, few, l.invariant.1.1.0), point_between (below comes_before a.p) pairs low l.high high c.partition_point.result few front back (rw (← same) at point))
