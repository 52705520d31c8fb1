-- Laws of the join's definitions that its functions rest on.
use Prim.Native.Nat.{ℕ, ◌≤◌, ◌<◌}
use native.Mathlib.Omega.{arith}
use mathlib.Core.Bool.{true, false}
use mathlib.Core.List.{List, [], ◌∷◌, ◌++◌}
use mathlib.Core.Path.{◌≡◌, refl, sym, ap, ◌∙◌}
use lib.ListN.{drop, get_or}
use lib.Seq.{drop-cons}
use borrow.Author.Tests.{le-ltb}
use Rattle.std.specs.Prelude.{Result, Ok, Err}
use Rattle.lists.specs.Judge.{chain}
use Rattle.lists.specs.Check.{Check}
use Rattle.pairing.specs.declared.Entry.{Entry}
use Rattle.pairing.specs.declared.Pair.{Pair}
use Rattle.pairing.specs.declared.Side.{Side}
use Rattle.pairing.specs.declared.Side.TheVariants.{A, B}
use Rattle.pairing.specs.Pair.{comes_before}
use Rattle.refusals.specs.declared.Refusal.{Refusal}
use Rattle.refusals.specs.Table.{number_of}
use Rattle.refusals.proofs.Numbers.{same_number}
use Rattle.journal.specs.declared.Gate.{Gate}
use Rattle.journal.specs.Answer.{Answer, Accepted, Refused, first_of, unless_refused}
use Rattle.journal.specs.declared.Gate.TheVariants.{Open, Closed}
use Rattle.journal.specs.Journal.{moved, mark_rows}
use Rattle.journal.proofs.Rows.{first_refuses, first_passes}
use Rattle.area.specs.Area as area
use Rattle.area.proofs.Laws as area-laws
use Rattle.area.proofs.Sound.{area_held}
use Rattle.queue.specs.declared.Queue.{Queue}
use Rattle.queue.specs.Queue as queue
use Rattle.queue.proofs.Laws as queue-laws
use Rattle.queue.proofs.Sound.{queue_waiting}
use Rattle.halves.specs.declared.Half.{Half}
use Rattle.halves.specs.View.{View, Halves, Stand, halves_with, seen, halves_of}
use Rattle.halves.specs.Calls.{entry_rows, after_entry, after_move, moved_half, cleared_half, close_rows}
use Rattle.join.specs.declared.Taken.{Taken}
use Rattle.join.specs.declared.Taken.TheVariants as taken
use Rattle.join.specs.State.{State, Sound, sound, seen_from, join_of, view, state_of}
use Rattle.join.specs.Calls.{Handed, Waiting, Outcome, outcome, called, judge_rows, waiting_in, ready_in, side_of, entry_on, entry_call, mark_on, mark_call, close_on, close_call, take_on, took_of, with_queue, without}
use Rattle.join.proofs.Facts.{sound_parts}

-- ---- the state as a side sees it

module _ (s : State) (ok : Sound s) where
  -- the waiting pairs of a sound state are in order
  pub sound_order : chain comes_before (queue.waiting s.queue) ≡ true
  sound_order = (queue-laws.queue_passes s.a.journal.accepted s.b.journal.accepted s.queue (sound_parts s ok.judged).waits).order_pass

  -- a sound state stands, seen from either side
  pub stand : (side : Side) → Stand (seen_from side s)
  stand A = record {
    holds_mine = ok.holds_a;
    holds_others = ok.holds_b;
    holds_queue = ok.holds_queue;
    others_follow = (area-laws.area_passes s.rule s.b.journal s.a.journal.gate s.b.area (sound_parts s ok.judged).area_b).order_pass;
    in_order = sound_order;
  }
  stand B = record {
    holds_mine = ok.holds_b;
    holds_others = ok.holds_a;
    holds_queue = ok.holds_queue;
    others_follow = (area-laws.area_passes s.rule s.a.journal s.b.journal.gate s.a.area (sound_parts s ok.judged).area_a).order_pass;
    in_order = sound_order;
  }

-- ---- a call of a side, made of the halves that it sees

-- what halves answer and leave is what the call says
called_on : (side : Side) (s : State) (rows : List Check) (after : View) (answer : Answer) (left : Halves) → answer ≡ first_of rows → left ≡ unless_refused answer (halves_of after) (seen_from side s)
    → outcome answer (join_of side left) ≡ called s rows (state_of side after)
unfolding state_of
called_on side s rows after answer left e f =
    (λ i. outcome (e i) (join_of side (f i))) ∙ ap (λ (x : Answer). outcome (first_of rows) (join_of side (unless_refused x (halves_of after) (seen_from side s)))) e ∙ ap (outcome (first_of rows)) (go (first_of rows))
  where
    turned_back : (side : Side) → join_of side (seen_from side s) ≡ s
    turned_back A = refl
    turned_back B = refl

    go : (x : Answer) → join_of side (unless_refused x (halves_of after) (seen_from side s)) ≡ unless_refused x (state_of side after) s
    go Accepted = refl
    go (Refused number) = turned_back side

-- what a mark or a close leaves of halves, by what it is answered
moved_left : (halves : Halves) → area.Holds halves.own.area → queue.Holds halves.queue → (gate : Gate) (answer : Answer) (own other : Half)
    → own ≡ unless_refused answer (moved_half gate halves.own) halves.own → other ≡ unless_refused answer (cleared_half gate halves.other) halves.other
    → halves_with halves.rule own other halves.queue ≡ unless_refused answer (halves_of (after_move gate (seen halves))) halves
unfolding after_move
moved_left halves m w gate answer own other p q = (λ i. halves_with halves.rule (p i) (q i) halves.queue) ∙ go answer
  where
    go : (x : Answer) → halves_with halves.rule (unless_refused x (moved_half gate halves.own) halves.own) (unless_refused x (cleared_half gate halves.other) halves.other) halves.queue
        ≡ unless_refused x (halves_of (after_move gate (seen halves))) halves
    go Accepted = λ i. halves_with halves.rule (record { journal = moved gate halves.own.journal; area = sym (area_held halves.own.area m) i }) (cleared_half gate halves.other) (sym (queue_waiting halves.queue w) i)
    go (Refused number) = refl

module _ (side : Side) (s : State) (answer : Answer) where
  pub entry_called : (e : Entry) (left : Halves) → answer ≡ first_of (entry_rows side (seen (seen_from side s)) e)
      → left ≡ unless_refused answer (halves_of (after_entry side (seen (seen_from side s)) e)) (seen_from side s) → outcome answer (join_of side left) ≡ entry_on s side e
  unfolding view
  entry_called e left f l = called_on side s (entry_rows side (view side s) e) (after_entry side (view side s) e) answer left f l

  module _ (m : area.Holds (seen_from side s).own.area) (w : queue.Holds (seen_from side s).queue) (own other : Half) where
    abbrev moved_to : Halves
    moved_to = halves_with (seen_from side s).rule own other (seen_from side s).queue

    pub mark_called : (time : ℕ) → answer ≡ first_of (mark_rows time (seen_from side s).own.journal)
        → own ≡ unless_refused answer (moved_half (Open time) (seen_from side s).own) (seen_from side s).own → other ≡ unless_refused answer (cleared_half (Open time) (seen_from side s).other) (seen_from side s).other
        → outcome answer (join_of side moved_to) ≡ mark_on s side time
    unfolding view
    mark_called time f p q = called_on side s (mark_rows time (view side s).own) (after_move (Open time) (view side s)) answer moved_to f (moved_left (seen_from side s) m w (Open time) answer own other p q)

    pub close_called : answer ≡ first_of (close_rows (seen_from side s).own.journal)
        → own ≡ unless_refused answer (moved_half Closed (seen_from side s).own) (seen_from side s).own → other ≡ unless_refused answer (cleared_half Closed (seen_from side s).other) (seen_from side s).other
        → outcome answer (join_of side moved_to) ≡ close_on s side
    unfolding view
    close_called f p q = called_on side s (close_rows (view side s).own) (after_move Closed (view side s)) answer moved_to f (moved_left (seen_from side s) m w Closed answer own other p q)

-- ---- what rows answer

module _ (s : State) (stream : ℕ) where
  pub judged_passes : sound s ≡ true → stream ≤ 1 → first_of (judge_rows s stream) ≡ Accepted
  judged_passes e h = rw (e, le-ltb 1 stream h)

  module _ (rows : List Check) (next : State) where
    call_refused : (number : ℕ) → first_of (judge_rows s stream) ≡ Refused number → outcome (Refused number) s ≡ called s (judge_rows s stream ++ rows) next
    call_refused number e = rw (first_refuses (judge_rows s stream) rows number e)

    call_judged : first_of (judge_rows s stream) ≡ Accepted → called s rows next ≡ called s (judge_rows s stream ++ rows) next
    call_judged e = rw (first_passes (judge_rows s stream) rows e)

  module _ (number : ℕ) (r : first_of (judge_rows s stream) ≡ Refused number) where
    pub refused_entry : (e : Entry) → outcome (Refused number) s ≡ entry_call s stream e
    unfolding entry_call
    refused_entry e = let side = side_of stream in call_refused (entry_rows side (view side s) e) (state_of side (after_entry side (view side s) e)) number r

    pub refused_mark : (time : ℕ) → outcome (Refused number) s ≡ mark_call s stream time
    unfolding mark_call
    refused_mark time = let side = side_of stream in call_refused (mark_rows time (view side s).own) (state_of side (after_move (Open time) (view side s))) number r

    pub refused_close : outcome (Refused number) s ≡ close_call s stream
    unfolding close_call
    refused_close = let side = side_of stream in call_refused (close_rows (view side s).own) (state_of side (after_move Closed (view side s))) number r

  module _ (side : Side) (at : side ≡ side_of stream) (passed : first_of (judge_rows s stream) ≡ Accepted) where
    pub judged_entry : (e : Entry) → entry_on s side e ≡ entry_call s stream e
    unfolding entry_call
    judged_entry e =
        let own = side_of stream in
        ap (λ (x : Side). entry_on s x e) at ∙ call_judged (entry_rows own (view own s) e) (state_of own (after_entry own (view own s) e)) passed

    pub judged_mark : (time : ℕ) → mark_on s side time ≡ mark_call s stream time
    unfolding mark_call
    judged_mark time =
        let own = side_of stream in
        ap (λ (x : Side). mark_on s x time) at ∙ call_judged (mark_rows time (view own s).own) (state_of own (after_move (Open time) (view own s))) passed

    pub judged_close : close_on s side ≡ close_call s stream
    unfolding close_call
    judged_close =
        let own = side_of stream in
        ap (λ (x : Side). close_on s x) at ∙ call_judged (close_rows (view own s).own) (state_of own (after_move Closed (view own s))) passed

-- what a mark or a close leaves beside the queue that was there is what it leaves
pub beside_own : (answer : Answer) (before after : State) (o : Outcome Answer) → after.queue ≡ before.queue → outcome answer (with_queue before.queue after) ≡ o → outcome answer after ≡ o
beside_own answer before after o e f = ap (λ (q : Queue). outcome answer (with_queue q after)) e ∙ f

-- ---- a take

module _ (s : State) (h : queue.Holds s.queue) where
  pub none_waits : s.queue.count ≡ 0 → waiting_in s ≡ []
  none_waits e = rw e

  pub one_waits : 0 < s.queue.count → waiting_in s ≡ get_or (waiting_in s) 0 queue.no_pair ∷ drop 1 (waiting_in s)
  one_waits few = drop-cons (waiting_in s) 0 queue.no_pair (omega (arith, ap (λ (w : Queue). w.count) (queue_waiting s.queue h)))

module _ (s : State) (p : Pair) (ps : List Pair) (e : waiting_in s ≡ p ∷ ps) where
  pub take_waits : ready_in s p ≡ false → outcome Waiting s ≡ take_on s
  take_waits f = rw (e, f)

  take_hands : ready_in s p ≡ true → outcome (Handed p) (without 1 s) ≡ take_on s
  take_hands f = rw (e, f)

-- the first waiting pair, which is ready, and the state without it
pub take_first : (s : State) → queue.Holds s.queue → 0 < s.queue.count → (p : Pair) (left : State) → p ≡ get_or (waiting_in s) 0 queue.no_pair → left ≡ without 1 s → ready_in s p ≡ true
    → outcome (Handed p) left ≡ take_on s
take_first s h few p left e f g =
    (λ i. outcome (Handed (e i)) (f i)) ∙ take_hands s (get_or (waiting_in s) 0 queue.no_pair) (drop 1 (waiting_in s)) (one_waits s h few) (ap (ready_in s) (sym e) ∙ g)

-- ---- a result is told by the answer to a take that it is

pub same_taken : (x y : Taken) → took_of (Ok x) ≡ took_of (Ok y) → x ≡ y
same_taken (taken.Handed p) (taken.Handed q) e = let same : p ≡ q = cc in cc
same_taken (taken.Handed p) taken.Waiting e = cc
same_taken (taken.Handed p) taken.Finished e = cc
same_taken taken.Waiting (taken.Handed q) e = cc
same_taken taken.Waiting taken.Waiting e = refl
same_taken taken.Waiting taken.Finished e = cc
same_taken taken.Finished (taken.Handed q) e = cc
same_taken taken.Finished taken.Waiting e = cc
same_taken taken.Finished taken.Finished e = refl

pub same_took : (x y : Result Taken Refusal) → took_of x ≡ took_of y → x ≡ y
same_took (Ok t) (Ok u) e = let same : t ≡ u = same_taken t u e in cc
same_took (Ok (taken.Handed p)) (Err r) e = cc
same_took (Ok taken.Waiting) (Err r) e = cc
same_took (Ok taken.Finished) (Err r) e = cc
same_took (Err r) (Ok (taken.Handed p)) e = cc
same_took (Err r) (Ok taken.Waiting) e = cc
same_took (Err r) (Ok taken.Finished) e = cc
same_took (Err r) (Err s) e = let n : number_of r ≡ number_of s = cc in let same : r ≡ s = same_number r s n in cc
