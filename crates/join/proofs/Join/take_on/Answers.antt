-- `take_on` meets its contract: with nothing waiting the gates decide, else the first pair.
use Rattle.std.proofs.Common.{ℕ, zero, suc, ◌<◌, ◌≡◌, arith, refl, sym, ap, ◌∙◌, get_or, drop}
use Rattle.queue.specs.Queue.{ready, no_pair}
use Rattle.join.specs.Calls.{waiting_in}
use Rattle.join.proofs.Laws.{one_waits, take_waits, take_first}
use Rattle.join.proofs.Join.take_on.Goals as goal

positive : (n : ℕ) → (n ≡ 0 → ⊥) → 0 < n
positive zero h = absurd (h refl)
positive (suc n) h = omega arith

pub returns-then-not-is_ready : goal.returns-then-not-is_ready
returns-then-not-is_ready c =
    let s = c.args.self.now in
    take_waits s (get_or (waiting_in s) 0 no_pair) (drop 1 (waiting_in s)) (one_waits s c.requires (positive _ c.if-self-eq0.false))
    (ap (ready s.a.journal.gate s.b.journal.gate) (sym c.first-p.ensures) ∙ sym c.is_ready.ensures ∙ c.if-not-is_ready.true)

pub returns : goal.returns
returns c =
    take_first c.args.self.now c.requires (positive _ c.if-self-eq0.false) c.first-p.result _ c.first-p.ensures c.drop_on.ensures (sym c.is_ready.ensures ∙ c.if-not-is_ready.false)
