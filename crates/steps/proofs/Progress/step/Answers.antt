-- `step` meets its contract: what the window shows is read, what is found decides, and then what the join answers.
use Rattle.std.proofs.Common.{arith, sym, ap, subst, refl, ◌∙◌}
use Rattle.std.specs.Prelude.{Option, Ok}
use Rattle.journal.specs.Answer.{Answer}
use Rattle.join.specs.State.{Sound}
use Rattle.join.specs.Calls.{Outcome}
use Rattle.join.proofs.Laws.{sound_order}
use Rattle.feed.specs.declared.Found.{Found as FoundAt}
use Rattle.feed.specs.declared.Record.{Record}
use Rattle.feed.specs.Reading.{reading_seen}
use Rattle.feed.proofs.Readings.{found_elim}
use Rattle.framing.specs.Step.{effect_of}
use Rattle.framing.proofs.Steps.{step_waits, step_reads}
use Rattle.steps.specs.declared.Progress.{Progress}
use Rattle.steps.specs.Printed.{heard, answered, joinfeed}
use Rattle.steps.proofs.Heard.{heard_kept, heard_refused}
use Rattle.steps.proofs.Steps.{refused_effect, kept_by}
use Rattle.steps.proofs.Progress.step.Goals as goal

pub returns-then-not-tells-clause-out_after : goal.returns-then-not-tells-clause-out_after
returns-then-not-tells-clause-out_after c =
    sym (step_waits joinfeed c.args.self.now c.args.left c.args.window.now c.args.ended c.args.out.now (sym c.tells.ensures ∙ c.if-not-tells.true))

pub returns-in_default-clause-out_after : goal.returns-in_default-clause-out_after
returns-in_default-clause-out_after c =
    c.stop.ensures ∙ sym (step_reads joinfeed c.args.self.now c.args.left c.args.window.now c.args.ended c.args.out.now (sym c.tells.ensures ∙ c.if-not-tells.false) _ (sym c.read_shown-reading.ensures))

pub returns-in_default-shown-clause-out_after : goal.returns-in_default-shown-clause-out_after
returns-in_default-shown-clause-out_after c =
    c.stop-in_default-shown.ensures ∙ sym (step_reads joinfeed c.args.self.now c.args.left c.args.window.now c.args.ended c.args.out.now (sym c.tells.ensures ∙ c.if-not-tells.false) _ (sym c.in-Ok.ensures))

pub hear-requires : goal.hear-requires
hear-requires c =
    let read_so = sym c.in-Ok.ensures ∙ ap (λ (o : Option (FoundAt Record)). reading_seen (Ok o)) c.in-Some.is in
    (c.requires.0.sound, (found_elim _ 0 read_so).stream)

pub hand_out-requires : goal.hand_out-requires
hand_out-requires c =
    let run = c.requires.0 in
    let after = c.hear.new.join in
    let kept : Sound after = subst (λ (o : Outcome Answer). Sound o.state) (sym c.in_default-hear.ensures) (heard_kept _ run.sound c.in-Some.found.found) in
    (kept.holds_queue, sound_order after kept, omega arith, (omega (arith, run.few_records), run.few_pairs))

pub returns-in_default-hear : goal.returns-in_default-hear
returns-in_default-hear c =
    let a = c.args in
    let p = a.self.now in
    let found = c.in-Some.found in
    let read_so = sym c.in-Ok.ensures ∙ ap (λ (o : Option (FoundAt Record)). reading_seen (Ok o)) c.in-Some.is in
    let reads = step_reads joinfeed p a.left a.window.now a.ended a.out.now (sym c.tells.ensures ∙ c.if-not-tells.false) _ read_so in
    let e = c.hand_out.ensures ∙ ap (λ (o : Outcome Answer). effect_of p a.out.now found.next (answered p o.answer o.state)) c.in_default-hear.ensures ∙ sym reads in
    record { out_after = e; kept = kept_by p a.left c.requires.0 a.window.now a.ended a.out.now _ e }

pub returns : goal.returns
returns c =
    let a = c.args in
    let p = a.self.now in
    let found = c.in-Some.found in
    let read_so = sym c.in-Ok.ensures ∙ ap (λ (o : Option (FoundAt Record)). reading_seen (Ok o)) c.in-Some.is in
    let reads = step_reads joinfeed p a.left a.window.now a.ended a.out.now (sym c.tells.ensures ∙ c.if-not-tells.false) _ read_so in
    let placed = c.put_refused-filled in
    let refused = c.in-Err.ensures in
    let q : Progress = record { state = c.hear.new.join; records = p.records; pairs = p.pairs } in
    let e = refused_effect p q a.out.now found.next (heard p.state found.found) _ refused (heard_refused p.state found.found _ (ap (λ (o : Outcome Answer). o.answer) (sym refused))) refl refl placed.result placed.new.out placed.ensures.value placed.ensures.out_after
    ∙ sym reads in
    record { out_after = e; kept = kept_by p a.left c.requires.0 a.window.now a.ended a.out.now _ e }
