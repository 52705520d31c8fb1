-- Laws of joinfeed's steps: what an accepted record leaves, and what a run keeps.
use Prim.Native.Nat.{ℕ, ◌-◌, ◌≤◌}
use native.Mathlib.Omega.{arith}
use mathlib.Core.Bool.{Bool}
use mathlib.Core.List.{List}
use mathlib.Core.Path.{◌≡◌, refl, sym, ap, ◌∙◌}
use Rattle.std.specs.Prelude.{Option, Some, None, Result, Ok, Err}
use lib.ListN.{length}
use Rattle.lists.specs.Put.{put}
use Rattle.pairing.specs.declared.Rule.{Rule}
use Rattle.journal.specs.Answer.{Answer, Accepted, Refused}
use Rattle.join.specs.State.{State, Sound}
use Rattle.join.specs.Calls.{Outcome, outcome, ready_of}
use Rattle.join.proofs.Kept.{sound_fresh, without_kept}
use Rattle.join.proofs.Ready.{ready_few}
use Rattle.feed.specs.declared.Found.{Found as FoundAt}
use Rattle.feed.specs.declared.Misread.{Misread}
use Rattle.feed.specs.declared.Record.{Record}
use Rattle.feed.specs.Kind.{shortest_record}
use Rattle.feed.specs.Reading.{Found, End, reading_seen}
use Rattle.framing.specs.Program.{Goes}
use Rattle.framing.specs.Step.{Ended, Effect, effect_of, stepped}
use Rattle.framing.proofs.Steps as steps
use Rattle.steps.specs.declared.Progress.{Progress}
use Rattle.steps.specs.Printed.{begun, read_limit, refused_line, heard, onward, answered, joinfeed}
use Rattle.steps.specs.Step.{Kept}
use Rattle.steps.proofs.Heard.{heard_kept}

-- a run that has begun, with all of a limit left
pub kept_begun : (rule : Rule) (limit : ℕ) → limit ≤ read_limit → Kept (begun rule) limit
kept_begun rule limit few = record { sound = sound_fresh rule; few_records = omega arith; few_pairs = omega arith }

-- ---- a reading that finds no record

-- and is not refused finds the end
pub found_end : (r : Result (Option (FoundAt Record)) Misread) → ((found : Record) (next : ℕ) → reading_seen r ≡ Found found next → ⊥) → ((m : Misread) → r ≡ Err m → ⊥) → reading_seen r ≡ End
found_end (Ok (Some f)) none passed = absurd (none f.found f.next refl)
found_end (Ok None) none passed = refl
found_end (Err m) none passed = absurd (passed m refl)

-- ---- what the join refused

pub refused_effect : (p q : Progress) (out : List ℕ) (next : ℕ) (o : Outcome Answer) (number : ℕ) → outcome (Refused number) q.state ≡ o → o.state ≡ p.state → q.records ≡ p.records → q.pairs ≡ p.pairs
    → (filled : ℕ) (buffer : List ℕ) → filled ≡ length (refused_line number q) → buffer ≡ put 0 (refused_line number q) out
    → record { went = Ended; progress = q; used = 0; filled = filled; buffer = buffer } ≡ effect_of p out next (answered p o.answer o.state)
refused_effect p q out next o number e f m n filled buffer g h =
    let state : q.state ≡ p.state = ap (λ (x : Outcome Answer). x.state) e ∙ f in
    let same : q ≡ p = λ i. record { state = state i; records = m i; pairs = n i } in
    steps.ends_effect p out next (refused_line number p) filled buffer (g ∙ ap (λ (r : Progress). length (refused_line number r)) same) (h ∙ ap (λ (r : Progress). put 0 (refused_line number r) out) same) q same
    ∙ ap (λ (x : Outcome Answer). effect_of p out next (answered p x.answer x.state)) e

-- ---- what a run keeps

module _ (p : Progress) (left : ℕ) (kept : Kept p left) where
  kept_answer : (next : ℕ) → (shortest_record ≤ next) × (next ≤ left) → (lines : List ℕ) (q : Progress) (x : Answer) (s : State) → Sound s → answered p x s ≡ Goes lines q → Kept q (left - next)
  kept_answer next within lines q Accepted s sound e =
      let records = kept.few_records in
      let pairs = kept.few_pairs in
      let same : onward p s ≡ q = cc in
      rw (sym same) (record { sound = without_kept s sound (length (ready_of s)); few_records = omega arith; few_pairs = omega (arith, ready_few s sound) })
  kept_answer next within lines q (Refused number) s sound e = absurd (let z : ◌≡◌ {A = ℕ} 0 1 = cc in omega arith)

  pub kept_by : (window : List ℕ) (ended : Bool) (out : List ℕ) (e : Effect Progress) → e ≡ stepped joinfeed p left window ended out → Kept e.progress (left - e.used)
  kept_by window ended out =
      steps.kept_by joinfeed p left window ended out Kept kept
      (λ found next within lines q f. kept_answer next within lines q (heard p.state found).answer (heard p.state found).state (heard_kept p.state kept.sound found) f)
