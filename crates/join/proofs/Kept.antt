-- A fresh state is sound, and every call on a sound state leaves a sound one.
use Prim.Native.Nat.{ℕ}
use native.Mathlib.Omega.{arith}
use mathlib.Core.Bool.{Bool, true, false, cond}
use mathlib.Core.List.{List, [], ◌++◌}
use mathlib.Core.Path.{◌≡◌, refl, sym, subst}
use lib.ListN.{drop}
use borrow.Author.Tests.{leb-true, le-leb}
use Rattle.lists.specs.Check.{Check}
use Rattle.pairing.specs.declared.Entry.{Entry}
use Rattle.pairing.specs.declared.Rule.{Rule}
use Rattle.pairing.specs.declared.Side.{Side}
use Rattle.pairing.specs.declared.Side.TheVariants.{A, B}
use Rattle.journal.specs.Answer as answer
use Rattle.journal.specs.declared.Gate.TheVariants.{Open, Closed}
use Rattle.journal.specs.Answer.{first_of}
use Rattle.journal.specs.Journal.{entries, fresh_journal, mark_rows}
use Rattle.journal.proofs.Facts.{timely_onward, mark_met}
use Rattle.journal.proofs.Onward.{onward_closed}
use Rattle.journal.proofs.Rows.{unless_refused_lem}
use Rattle.area.proofs.Sound as areas
use Rattle.queue.proofs.Sound as queues
use Rattle.halves.specs.View.{View}
use Rattle.halves.specs.Calls.{entry_rows, after_entry, after_move, close_rows}
use Rattle.halves.proofs.Facts.{entry_met}
use Rattle.halves.proofs.Kept.{SoundView, sound_turned, sound_move, sound_entry_lem}
use Rattle.halves.proofs.View.{turned}
use Rattle.join.specs.Calls.{Took, Handed, Waiting, Finished, Refused, called, side_of, judge_rows, entry_on, entry_call, mark_on, mark_call, close_on, close_call, waiting_in, ready_in, both_closed, next_of, without, after_take, take_on, take_call}
use Rattle.join.specs.State.{State, sound, Sound, view, state_of, fresh_state}
use Rattle.join.proofs.Facts.{sound_parts, parts_sound, judged_met}
use Rattle.join.proofs.View.{view_across, state_of_across}

-- ---- soundness of what a side sees

seen_from_a : (s : State) → Sound s → SoundView A (view A s)
unfolding view
seen_from_a s h =
    let a = s.a in
    let b = s.b in
    let part = sound_parts s h.judged in
    record {
      own_count = leb-true a.journal.accepted entries part.count_a;
      other_count = leb-true b.journal.accepted entries part.count_b;
      mine = areas.judged_held s.rule a.journal b.journal.gate a.area h.holds_a part.area_a;
      others = areas.judged_held s.rule b.journal a.journal.gate b.area h.holds_b part.area_b;
      waiting = queues.judged_waiting a.journal.accepted b.journal.accepted s.queue h.holds_queue part.waits;
    }

-- what a side sees of a sound state is sound
pub sound_view : (side : Side) (s : State) → Sound s → SoundView side (view side s)
sound_view A s h = seen_from_a s h
sound_view B s h = subst (SoundView B) (sym (view_across A s)) (sound_turned A (view A s) (seen_from_a s h))

stored_from_a : (v : View) → SoundView A v → Sound (state_of A v)
unfolding state_of
stored_from_a v h = record {
  judged = parts_sound (state_of A v) (record {
    count_a = le-leb v.own.accepted entries h.own_count;
    count_b = le-leb v.other.accepted entries h.other_count;
    area_a = areas.held_judged v.rule v.own v.other.gate v.mine h.mine;
    area_b = areas.held_judged v.rule v.other v.own.gate v.others h.others;
    waits = queues.waiting_judged v.own.accepted v.other.accepted v.waiting h.waiting;
  });
  holds_a = areas.holds_stored v.mine h.mine.few;
  holds_b = areas.holds_stored v.others h.others.few;
  holds_queue = queues.holds_stored v.waiting h.waiting.few;
}

-- and the state that a side sees so is sound if that is
pub sound_state_of : (side : Side) (v : View) → SoundView side v → Sound (state_of side v)
sound_state_of A v h = stored_from_a v h
sound_state_of B v h = subst Sound (sym (state_of_across A (turned v))) (stored_from_a (turned v) (sound_turned B v h))

-- ---- fresh is sound

pub sound_fresh : (rule : Rule) → Sound (fresh_state rule)
unfolding fresh_state
sound_fresh rule = sound_state_of A (record { rule = rule; own = fresh_journal; other = fresh_journal; mine = []; others = []; waiting = [] }) (record {
  own_count = omega arith;
  other_count = omega arith;
  mine = areas.held_none rule fresh_journal (Open 0);
  others = areas.held_none rule fresh_journal (Open 0);
  waiting = queues.waiting_none A 0 0;
})

-- ---- every call leaves a sound state

module _ (s : State) (h : Sound s) where
  -- a call that rows of the table may refuse, if what it would leave is sound
  called_kept : (rows : List Check) (next : State) → (first_of rows ≡ answer.Accepted → Sound next) → Sound (called s rows next).state
  called_kept rows next f = unless_refused_lem Sound (first_of rows) next s f h

  judged_kept : (stream : ℕ) (rows : List Check) (next : State) → (first_of rows ≡ answer.Accepted → Sound next) → Sound (called s (judge_rows s stream ++ rows) next).state
  judged_kept stream rows next f = called_kept (judge_rows s stream ++ rows) next (λ e. f (judged_met s stream rows e).rest)

  entered : (side : Side) (e : Entry) → first_of (entry_rows side (view side s) e) ≡ answer.Accepted → Sound (state_of side (after_entry side (view side s) e))
  entered side e a =
      let v = view side s in
      sound_state_of side (after_entry side v e) (sound_entry_lem side v (sound_view side s h) e (entry_met side v e a))

  marked : (side : Side) (time : ℕ) → first_of (mark_rows time (view side s).own) ≡ answer.Accepted → Sound (state_of side (after_move (Open time) (view side s)))
  marked side time a =
      let v = view side s in
      sound_state_of side (after_move (Open time) v) (sound_move side v (sound_view side s h) (Open time) (timely_onward v.own.gate time (mark_met time v.own a)))

  closed : (side : Side) → Sound (state_of side (after_move Closed (view side s)))
  closed side =
      let v = view side s in
      sound_state_of side (after_move Closed v) (sound_move side v (sound_view side s h) Closed (onward_closed v.own.gate))

  pub entry_kept : (stream : ℕ) (e : Entry) → Sound (entry_call s stream e).state
  unfolding entry_call
  entry_kept stream e =
      let side = side_of stream in
      judged_kept stream (entry_rows side (view side s) e) (state_of side (after_entry side (view side s) e)) (entered side e)

  pub mark_kept : (stream time : ℕ) → Sound (mark_call s stream time).state
  unfolding mark_call
  mark_kept stream time =
      let side = side_of stream in
      judged_kept stream (mark_rows time (view side s).own) (state_of side (after_move (Open time) (view side s))) (marked side time)

  pub close_kept : (stream : ℕ) → Sound (close_call s stream).state
  unfolding close_call
  close_kept stream =
      let side = side_of stream in
      judged_kept stream (close_rows (view side s).own) (state_of side (after_move Closed (view side s))) (λ a. closed side)

  -- the same below the judge
  pub entry_on_kept : (side : Side) (e : Entry) → Sound (entry_on s side e).state
  entry_on_kept side e = called_kept (entry_rows side (view side s) e) (state_of side (after_entry side (view side s) e)) (entered side e)

  pub mark_on_kept : (side : Side) (time : ℕ) → Sound (mark_on s side time).state
  mark_on_kept side time = called_kept (mark_rows time (view side s).own) (state_of side (after_move (Open time) (view side s))) (marked side time)

  pub close_on_kept : (side : Side) → Sound (close_on s side).state
  close_on_kept side = called_kept (close_rows (view side s).own) (state_of side (after_move Closed (view side s))) (λ rows. closed side)

  -- the first k waiting pairs dropped
  pub without_kept : (k : ℕ) → Sound (without k s)
  unfolding without
  without_kept k =
      let of_a = s.a.journal.accepted in
      let of_b = s.b.journal.accepted in
      let part = sound_parts s h.judged in
      let left = queues.waiting_dropped A of_a of_b (waiting_in s) (queues.judged_waiting of_a of_b s.queue h.holds_queue part.waits) k in
      record {
        judged = parts_sound (without k s) (record {
          count_a = part.count_a;
          count_b = part.count_b;
          area_a = part.area_a;
          area_b = part.area_b;
          waits = queues.waiting_judged of_a of_b (drop k (waiting_in s)) left;
        });
        holds_a = h.holds_a;
        holds_b = h.holds_b;
        holds_queue = queues.holds_stored (drop k (waiting_in s)) left.few;
      }

  after_kept : (t : Took) → Sound (after_take t s)
  after_kept (Handed p) = without_kept 1
  after_kept Waiting = h
  after_kept Finished = h
  after_kept (Refused number) = h

  pub take_on_kept : Sound (take_on s).state
  take_on_kept = after_kept (next_of (ready_in s) (both_closed s) (waiting_in s))

  pub take_kept : Sound (take_call s).state
  unfolding take_call
  take_kept = rw h.judged take_on_kept

-- ---- a refused call leaves the state exactly as it came, sound or not

module _ (s : State) where
  called_refused : (rows : List Check) (next : State) (number : ℕ) → (called s rows next).answer ≡ answer.Refused number → (called s rows next).state ≡ s
  called_refused rows next number e = rw e

  pub entry_refused : (stream : ℕ) (e : Entry) (number : ℕ) → (entry_call s stream e).answer ≡ answer.Refused number → (entry_call s stream e).state ≡ s
  unfolding entry_call
  entry_refused stream e number r =
      let side = side_of stream in
      called_refused (judge_rows s stream ++ entry_rows side (view side s) e) (state_of side (after_entry side (view side s) e)) number r

  pub mark_refused : (stream time number : ℕ) → (mark_call s stream time).answer ≡ answer.Refused number → (mark_call s stream time).state ≡ s
  unfolding mark_call
  mark_refused stream time number r =
      let side = side_of stream in
      called_refused (judge_rows s stream ++ mark_rows time (view side s).own) (state_of side (after_move (Open time) (view side s))) number r

  pub close_refused : (stream number : ℕ) → (close_call s stream).answer ≡ answer.Refused number → (close_call s stream).state ≡ s
  unfolding close_call
  close_refused stream number r =
      let side = side_of stream in
      called_refused (judge_rows s stream ++ close_rows (view side s).own) (state_of side (after_move Closed (view side s))) number r

  pub take_refused : (number : ℕ) → (take_call s).answer ≡ Refused number → (take_call s).state ≡ s
  unfolding take_call
  take_refused number r = go (sound s) r
    where
      go : (b : Bool) → (cond b (take_on s) (record { answer = Refused 8; state = s })).answer ≡ Refused number → (cond b (take_on s) (record { answer = Refused 8; state = s })).state ≡ s
      go true e = rw e
      go false e = refl
