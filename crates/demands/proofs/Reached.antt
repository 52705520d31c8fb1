-- Every state that calls reach from a fresh join is sound, so that none of them is answered with 8.
use Prim.Native.Nat.{ℕ}
use mathlib.Core.Bool.{Bool, true, false, not, cond}
use mathlib.Core.List.{List, [], ◌∷◌, ◌++◌}
use mathlib.Core.Path.{◌≡◌, refl}
use lib.Dec.{ltb, eqb}
use borrow.Author.Tests.{eqb-false, not-true}
use Rattle.std.specs.List.{list_all}
use Rattle.lists.specs.Check.{Check, ◌gives◌}
use Rattle.pairing.specs.declared.Pair.{Pair}
use Rattle.pairing.specs.declared.Rule.{Rule}
use Rattle.journal.specs.Answer.{number_of, first_of}
use Rattle.journal.specs.Journal.{mark_rows, own_rows}
use Rattle.journal.proofs.Rows.{number_rows}
use Rattle.halves.specs.Calls.{key_rows, room_for, entry_rows, close_rows}
use Rattle.join.specs.Calls.{Handed, Waiting, side_of, judge_rows, entry_call, mark_call, close_call, ready_in, both_closed, waiting_in, next_of, take_on, take_call, took_number}
use Rattle.join.specs.State.{State, Sound, view}
use Rattle.join.proofs.Kept.{sound_fresh, entry_kept, mark_kept, close_kept, take_kept}
use Rattle.join.proofs.Ready.{take_sound}
use Rattle.demands.specs.History.{Call, Enter, Mark, Close, Take, after, World, begin, step, run}

-- ---- sound all along

-- every call on a sound state leaves a sound one
pub sound_after : (s : State) → Sound s → (c : Call) → Sound (after s c)
sound_after s h (Enter stream e) = entry_kept s h stream e
sound_after s h (Mark stream time) = mark_kept s h stream time
sound_after s h (Close stream) = close_kept s h stream
sound_after s h Take = take_kept s h

pub sound_run : (w : World) → Sound w.state → (cs : List Call) → Sound (run w cs).state
sound_run w h [] = h
sound_run w h (c ∷ cs) = sound_run (step w c) (sound_after w.state h c) cs

-- along any run from a fresh join every state is sound
pub reached : (rule : Rule) (cs : List Call) → Sound (run (begin rule) cs).state
reached rule cs = sound_run (begin rule) (sound_fresh rule) cs

-- ---- no 8

-- the number that a call gets, as the table has it; 0 where nothing is refused
abbrev pub number_at : State → Call → ℕ
number_at s (Enter stream e) = number_of (entry_call s stream e).answer
number_at s (Mark stream time) = number_of (mark_call s stream time).answer
number_at s (Close stream) = number_of (close_call s stream).answer
number_at s Take = took_number (take_call s).answer

abbrev not_8 : ℕ → Bool
not_8 n = not (eqb n 8)

-- on a sound state the row of 8 does not apply, and no other row gives 8
judged_number : (s : State) → Sound s → (stream : ℕ) (rows : List Check) → list_all (λ (row : Check). not_8 row.number) rows ≡ true → not_8 (number_of (first_of (judge_rows s stream ++ rows))) ≡ true
judged_number s h stream rows others = rw h.judged (number_rows not_8 ((ltb 1 stream gives 1) ∷ rows) refl others)

next_number : (ready : Pair → Bool) (closed : Bool) (ps : List Pair) → took_number (next_of ready closed ps) ≡ 0
next_number ready true [] = refl
next_number ready false [] = refl
next_number ready closed (p ∷ ps) = go (ready p)
  where
    go : (b : Bool) → took_number (cond b (Handed p) Waiting) ≡ 0
    go true = refl
    go false = refl

-- a call on a sound state gets another number
pub sound_number : (s : State) → Sound s → (c : Call) → not_8 (number_at s c) ≡ true
unfolding entry_call own_rows key_rows room_for entry_rows mark_call close_call
sound_number s h (Enter stream e) = judged_number s h stream (entry_rows (side_of stream) (view (side_of stream) s) e) refl
sound_number s h (Mark stream time) = judged_number s h stream (mark_rows time (view (side_of stream) s).own) refl
sound_number s h (Close stream) = judged_number s h stream (close_rows (view (side_of stream) s).own) refl
sound_number s h Take =
    let none : took_number (take_on s).answer ≡ 0 = next_number (ready_in s) (both_closed s) (waiting_in s) in
    rw (take_sound s h, none)

-- no call of a history is answered with 8
pub reached_not_8 : (rule : Rule) (cs : List Call) (c : Call) → number_at (run (begin rule) cs).state c ≡ 8 → ⊥
reached_not_8 rule cs c e = eqb-false _ 8 (not-true _ (sound_number (run (begin rule) cs).state (reached rule cs) c)) e
