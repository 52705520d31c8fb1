-- The calls of a record: they leave what the run goes on with, hand out what is then ready and leave nothing ready; a refused one changes nothing.
use Prim.Native.Nat.{ℕ, zero, suc, ◌+◌}
use native.Mathlib.Omega.{arith}
use mathlib.Core.List.{List, [], ◌∷◌, ◌++◌, append-nil}
use mathlib.Core.Path.{◌≡◌, refl, sym, ap, ap₂, ◌∙◌}
use lib.ListN.{length, take, replicate}
use lib.Seq.{take-length}
use Rattle.pairing.specs.declared.Pair.{Pair}
use Rattle.pairing.specs.declared.Side.{Side}
use Rattle.pairing.specs.declared.Side.TheVariants.{A, B}
use Rattle.journal.specs.Answer.{Answer, Accepted, Refused, unless_refused}
use Rattle.join.specs.State.{State, Sound}
use Rattle.join.specs.Calls.{side_of, ready_of, without}
use Rattle.join.proofs.Kept.{without_kept}
use Rattle.join.proofs.Ready.{take_ready, without_none, without_without}
use Rattle.demands.specs.Demands.{accepted_of}
use Rattle.demands.specs.History.{Call, Enter, Mark, Close, Take, of_side, accepts, World, step, run, is_refusal}
use Rattle.demands.specs.Takes.{ready_now}
use Rattle.demands.proofs.Demands.{run_append}
use Rattle.demands.proofs.Reached.{sound_run}
use Rattle.demands.proofs.Refused.{step_refused}
use Rattle.demands.proofs.Takes.{takes_drop}
use Rattle.feed.specs.declared.Record.{Record}
use Rattle.feed.specs.declared.Record.TheVariants as record_of
use Rattle.steps.specs.Printed.{heard}
use Rattle.feed_demands.specs.Records.{entry_in}
use Rattle.feed_demands.specs.Course.{call_of, calls_of}
use Rattle.feed_demands.specs.Prints.{TakesAll}

module _ (w : World) where
  -- ---- its own call

  call_state : (found : Record) → (run w (call_of found)).state ≡ (heard w.state found).state
  call_state (record_of.Entry stream e) = refl
  call_state (record_of.Mark stream time) = refl
  call_state (record_of.Close stream) = refl
  call_state (record_of.Note size) = refl

  call_out : (found : Record) → (run w (call_of found)).out ≡ w.out
  call_out (record_of.Entry stream e) = append-nil w.out
  call_out (record_of.Mark stream time) = append-nil w.out
  call_out (record_of.Close stream) = append-nil w.out
  call_out (record_of.Note size) = refl

  pub call_refused : (found : Record) (number : ℕ) → (heard w.state found).answer ≡ Refused number → run w (call_of found) ≡ w
  call_refused (record_of.Entry stream e) number r = step_refused w (Enter stream e) (ap is_refusal r)
  call_refused (record_of.Mark stream time) number r = step_refused w (Mark stream time) (ap is_refusal r)
  call_refused (record_of.Close stream) number r = step_refused w (Close stream) (ap is_refusal r)
  call_refused (record_of.Note size) number r = refl

-- ---- the takes after it

-- without all that is ready, nothing is ready
none_ready : (ps : List Pair) (s : State) → Sound s → ready_of s ≡ ps → ready_of (without (length ps) s) ≡ []
none_ready [] s h e = ap ready_of (without_none s h) ∙ e
none_ready (p ∷ ps) s h e =
    let up : suc (length ps) ≡ 1 + length ps = omega arith in
    ap (λ (n : ℕ). ready_of (without n s)) up
    ∙ sym (ap ready_of (without_without (length ps) 1 s))
    ∙ none_ready ps (without 1 s) (without_kept s h 1) (take_ready s h p ps e).1

module _ (w : World) (h : Sound w.state) (found : Record) where
  abbrev own : World
  own = run w (call_of found)

  taken : ((run w (calls_of w found)).state ≡ without (length (ready_now own)) own.state) × ((run w (calls_of w found)).out ≡ own.out ++ take (length (ready_now own)) (ready_now own))
  unfolding calls_of
  taken = rw (run_append w (call_of found) (replicate (length (ready_now own)) Take)) (takes_drop (length (ready_now own)) own (sound_run w h (call_of found)) (omega arith))

  pub calls_state : (run w (calls_of w found)).state ≡ without (length (ready_of (heard w.state found).state)) (heard w.state found).state
  calls_state = taken.0 ∙ ap (λ (s : State). without (length (ready_of s)) s) (call_state w found)

  pub calls_out : (run w (calls_of w found)).out ≡ w.out ++ ready_of (heard w.state found).state
  calls_out = taken.1 ∙ ap₂ (λ (out ps : List Pair). out ++ ps) (call_out w found) (take-length (ready_now own) ∙ ap ready_of (call_state w found))

pub takes_all : TakesAll
takes_all w h found =
    let own = run w (call_of found) in
    ap ready_of (taken w h found).0 ∙ none_ready (ready_now own) own.state (sound_run w h (call_of found)) refl

-- ---- the entries that it brings

module _ (side : Side) where
  step_entries : (w : World) (c : Call) → accepted_of side (step w c) ≡ accepted_of side w ++ accepts side w.state c
  step_entries w c = go side
    where
      go : (side : Side) → accepted_of side (step w c) ≡ accepted_of side w ++ accepts side w.state c
      go A = refl
      go B = refl

  takes_entries : (k : ℕ) (w : World) → accepted_of side (run w (replicate k Take)) ≡ accepted_of side w
  takes_entries zero w = refl
  takes_entries (suc k) w = takes_entries k (step w Take) ∙ step_entries w Take ∙ append-nil (accepted_of side w)

  call_entries : (w : World) (found : Record) → (heard w.state found).answer ≡ Accepted → accepted_of side (run w (call_of found)) ≡ accepted_of side w ++ entry_in side found
  call_entries w (record_of.Entry stream e) a = step_entries w (Enter stream e) ∙ ap (λ (x : Answer). accepted_of side w ++ unless_refused x (of_side side (side_of stream) e) []) a
  call_entries w (record_of.Mark stream time) a = step_entries w (Mark stream time)
  call_entries w (record_of.Close stream) a = step_entries w (Close stream)
  call_entries w (record_of.Note size) a = sym (append-nil (accepted_of side w))

  pub calls_entries : (w : World) (found : Record) → (heard w.state found).answer ≡ Accepted → accepted_of side (run w (calls_of w found)) ≡ accepted_of side w ++ entry_in side found
  unfolding calls_of
  calls_entries w found a =
      let own = run w (call_of found) in
      let takes = length (ready_now own) in
      ap (accepted_of side) (run_append w (call_of found) (replicate takes Take)) ∙ takes_entries takes own ∙ call_entries w found a
