-- `merge` meets its contract.
use Prim.Native.Nat.{ℕ, ◌+◌, ◌-◌, ◌≤◌}
use native.Mathlib.Omega.{arith}
use mathlib.Core.Bool.{Bool, true}
use mathlib.Core.List.{List}
use mathlib.Core.Path.{◌≡◌, refl, sym, ap, ◌∙◌}
use lib.ListN.{length, take, drop}
use lib.Seq.{take-add}
use Rattle.lists.proofs.All.{each_first}
use Rattle.lists.specs.Judge.{chain}
use Rattle.lists.proofs.Judge.{chain_each}
use Rattle.lists.proofs.Merge.{all_new, merge_start, merge_few, last_below, merge_more, merge_end}
use Rattle.lists.proofs.Order.{Ascending}
use Rattle.pairing.specs.declared.Numbered.{Numbered}
use Rattle.pairing.specs.declared.Rule.{Rule}
use Rattle.pairing.specs.declared.Side.{Side}
use Rattle.pairing.specs.Pair.{comes_before}
use Rattle.pairing.specs.Side.{pair_from, new_pairs}
use Rattle.pairing.proofs.Arrival.{pairing, new_pairs_map}
use Rattle.pairing.proofs.Pairs.{strict_comes_before}
use Rattle.area.specs.Area as area
use Rattle.area.proofs.Sound.{held_length}
use Rattle.queue.proofs.Laws.{ascending_waiting, merged}
use Rattle.queue.proofs.Queue.merge.Goals as goal

-- the first w of an ascending stretch
shorter : {A : Type 0} (r : A → A → Bool) (w n : ℕ) (l : List A) → w ≤ n → Ascending r (take n l) → Ascending r (take w l)
shorter {A} r w n l h a =
    let up : w + (n - w) ≡ n = omega arith in
    each_first (λ (x y : A). r x y ≡ true) (take w l) (take (n - w) (drop w l)) (rw (← up, take-add w (n - w) l) at a)

-- the new pairs ascend
ascending : (rule : Rule) (side : Side) (x : Numbered) (others : List Numbered) → chain comes_before (new_pairs rule side x others) ≡ true → Ascending comes_before (all_new (pair_from side x) (pairing rule x) others)
ascending rule side x others h =
    let all : Ascending comes_before (new_pairs rule side x others) = chain_each comes_before strict_comes_before.trans (new_pairs rule side x others) h in
    rw (new_pairs_map rule side x others) at all

pub loop-left-init : goal.loop-left-init
loop-left-init c =
    let a = c.args in
    let others = area.held a.area.now in
    (refl, merge_start (pair_from a.side a.x) (pairing a.rule a.x) comes_before strict_comes_before others a.self.now.places a.self.now.count (ascending a.rule a.side a.x others c.requires.3) a.area.now.count a.new (sym (held_length a.area.now c.requires.2)) (c.requires.4 ∙ ap length (new_pairs_map a.rule a.side a.x others)))

pub entry_at-y-requires : goal.entry_at-y-requires
entry_at-y-requires c =
    let a = c.args in
    let l = c.loop-left in
    let lower = last_below (pair_from a.side a.x) (pairing a.rule a.x) comes_before strict_comes_before (area.held a.area.now) a.self.now.places a.self.now.count l.self.places l.i l.w l.left l.invariant.1 c.loop-left-test.true area.no_entry c.last_partner-i.result c.last_partner-i.ensures in
    (omega (arith, lower, l.invariant.1.small, held_length a.area.now c.requires.2), c.requires.2.few)

pub slide-w-requires : goal.slide-w-requires
slide-w-requires c =
    let a = c.args in
    let l = c.loop-left in
    let inv = l.invariant.1 in
    let others = area.held a.area.now in
    let few = merge_few (pair_from a.side a.x) (pairing a.rule a.x) comes_before strict_comes_before others a.self.now.places a.self.now.count l.self.places l.i l.w l.left inv in
    let old : Ascending comes_before (take l.w l.self.places) = rw inv.front (shorter comes_before l.w a.self.now.count a.self.now.places inv.few (ascending_waiting a.self.now c.requires.1)) in
    (omega arith, omega (arith, few, c.requires.4 ∙ ap length (new_pairs_map a.rule a.side a.x others), inv.few, c.requires.5), old)

pub loop-left-preserved : goal.loop-left-preserved
loop-left-preserved c =
    let a = c.args in
    let l = c.loop-left in
    let up : l.left - 1 + 1 ≡ l.left = omega arith in
    let formed = c.pair-p.ensures ∙ ap (pair_from a.side a.x) c.entry_at-y.ensures in
    let slid = rw (formed, up) at c.slide-w.ensures.1 in (
      c.slide-w.ensures.0 ∙ l.invariant.0,
      merge_more (pair_from a.side a.x) (pairing a.rule a.x) comes_before strict_comes_before (area.held a.area.now) a.self.now.places a.self.now.count l.self.places l.i l.w l.left l.invariant.1 c.loop-left-test.true area.no_entry c.last_partner-i.result c.last_partner-i.ensures c.slide-w.new.self.places c.slide-w.result slid,
    )

pub returns : goal.returns
returns c =
    let a = c.args in
    let l = c.loop-left in
    let others = area.held a.area.now in
    let end = merge_end (pair_from a.side a.x) (pairing a.rule a.x) comes_before strict_comes_before others a.self.now.places a.self.now.count l.self.places l.i l.w l.left l.invariant.1 (ascending a.rule a.side a.x others c.requires.3) (omega arith) in
    rw (l.invariant.0, c.requires.4)
    (merged a.self.now c.requires.0 (new_pairs a.rule a.side a.x others) l.self.places (omega (arith, c.requires.4, c.requires.5)) (rw (← new_pairs_map a.rule a.side a.x others) at end))
