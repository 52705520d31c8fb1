-- `last_partner` meets its contract.
use Prim.Native.Nat.{ℕ, ◌-◌, ◌+◌, ◌<◌}
use native.Mathlib.Omega.{arith}
use mathlib.Core.Bool.{Bool}
use mathlib.Core.Path.{◌≡◌, sym, ap, ◌∙◌}
use lib.ListN.{length, take, length-take}
use Rattle.lists.specs.Tally.{last_place}
use Rattle.lists.proofs.Last.{last_here, last_lower}
use Rattle.pairing.specs.declared.Numbered.{Numbered}
use Rattle.pairing.specs.Pair.{pairs}
use Rattle.area.specs.Area.{held, no_entry}
use Rattle.area.proofs.Area.last_partner.Goals as goal

pub returns-then-pairs : goal.returns-then-pairs
returns-then-pairs c =
    let xs = held c.args.self.now in
    let test : Numbered → Bool = λ x. pairs c.args.rule c.args.e x.entry in
    let inside : c.loop-i.i - 1 < length xs = simp length-take (omega arith) in
    let up : c.loop-i.i ≡ c.loop-i.i - 1 + 1 = omega arith in
    let tested = sym (c.pairs.ensures ∙ ap test c.entry_at-y.ensures) ∙ c.if-pairs.true in
    sym (c.loop-i.invariant.1 ∙ ap (λ (k : ℕ). last_place test (take k xs)) up ∙ last_here test xs (c.loop-i.i - 1) no_entry inside tested)

pub loop-i-preserved : goal.loop-i-preserved
loop-i-preserved c =
    let xs = held c.args.self.now in
    let test : Numbered → Bool = λ x. pairs c.args.rule c.args.e x.entry in
    let inside : c.loop-i.i - 1 < length xs = simp length-take (omega arith) in
    let up : c.loop-i.i ≡ c.loop-i.i - 1 + 1 = omega arith in
    let tested = sym (c.pairs.ensures ∙ ap test c.entry_at-y.ensures) ∙ c.if-pairs.false in
    (omega arith, c.loop-i.invariant.1 ∙ ap (λ (k : ℕ). last_place test (take k xs)) up ∙ last_lower test xs (c.loop-i.i - 1) no_entry inside tested)
