-- `step_on` meets its contract: the step's, on a part of the window and the free part of the buffer.
use native.Mathlib.Omega.{arith}
use mathlib.Core.List.{List}
use mathlib.Core.Path.{◌≡◌, ap, ◌∙◌}
use Prim.Native.Nat.{ℕ, ◌-◌}
use lib.ListN.{length, take, drop, length-drop}
use lib.Seq.{slice, length-take-le, take_all}
use Rattle.framing.specs.Step.{stepped}
use Rattle.framing.proofs.Moves.{moves}
use Rattle.framing.proofs.Parts.{drop_back, part_slice}
use Rattle.steps.specs.Printed.{joinfeed}
use Rattle.steps.specs.Step.{effect_with}
use Rattle.feed_stream.proofs.step_on.Goals as goal

pub returns-clause-bounds : goal.returns-clause-bounds
returns-clause-bounds c =
    let a = c.args in
    let flow = a.flow.now in
    let order = c.requires.1 in
    let within = c.requires.2 in
    let enough = c.requires.3 in
    let m = moves _ _ _ _ _ _ _ c.step.ensures.out_after in
    let free : take (length a.out.now - flow.filled) (drop flow.filled a.out.now) ≡ drop flow.filled a.out.now = take_all (length a.out.now - flow.filled) (drop flow.filled a.out.now) (simp length-drop (omega arith)) in
    let as_lent : length (take (length a.out.now - flow.filled) (drop flow.filled a.out.now)) ≡ length a.out.now - flow.filled = ap length free ∙ length-drop flow.filled a.out.now in
    let shows : length (take (flow.end - flow.at) (drop flow.at a.window.now)) ≡ flow.end - flow.at = length-take-le _ _ (simp length-drop (omega arith)) in
    let in_window = m.in_window in
    let fits = m.fits (omega arith) in
    (m.in_left, omega arith, omega arith, m.on, λ more. let h = m.more more in (h.0, let few = h.1 in omega arith, h.2))

pub returns-clause-out_after : goal.returns-clause-out_after
returns-clause-out_after c =
    let a = c.args in
    let flow = a.flow.now in
    let order = c.requires.1 in
    let within = c.requires.2 in
    let enough = c.requires.3 in
    let out = a.out.now in
    let window = a.window.now in
    let t = c.step in
    let p = a.run.now in
    let free : take (length out - flow.filled) (drop flow.filled out) ≡ drop flow.filled out = take_all (length out - flow.filled) (drop flow.filled out) (simp length-drop (omega arith)) in
    let part : take (flow.end - flow.at) (drop flow.at window) ≡ slice flow.at flow.end window = part_slice flow.at flow.end window (omega arith) in
    ap (effect_with t.result t.new.self) (drop_back flow.filled out (omega arith) t.new.out)
    ∙ t.ensures.out_after
    ∙ ap (λ (l : List ℕ). stepped joinfeed p flow.left l flow.ended (take (length out - flow.filled) (drop flow.filled out))) part
    ∙ ap (stepped joinfeed p flow.left (slice flow.at flow.end window) flow.ended) free
