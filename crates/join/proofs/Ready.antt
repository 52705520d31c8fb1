-- What is ready stays ready, and first among what is ready, until it is taken; and takes one after the other are one drop.
use Prim.Native.Nat.{ℕ, zero, suc, ◌+◌, ◌≤◌}
use native.Mathlib.Omega.{arith}
use mathlib.Core.Bool.{Bool, true, false}
use mathlib.Core.List.{List, [], ◌∷◌, ◌++◌, append-nil, map}
use mathlib.Core.Path.{◌≡◌, refl, sym, ap, ◌∙◌}
use lib.ListN.{length, take, drop}
use lib.Seq.{drop-drop}
use Rattle.std.specs.Prelude.{filter}
use Rattle.lists.specs.Check.{Check}
use Rattle.lists.proofs.All.{All, all_any}
use Rattle.lists.proofs.Filter.{filter_length}
use Rattle.lists.proofs.Order.{Ascending}
use Rattle.lists.proofs.Sort.{filter_insert_all_by}
use Rattle.pairing.specs.declared.Entry.{Entry}
use Rattle.pairing.specs.declared.Numbered.{Numbered}
use Rattle.pairing.specs.declared.Pair.{Pair}
use Rattle.pairing.specs.declared.Side.{Side}
use Rattle.pairing.specs.declared.Side.TheVariants.{A, B}
use Rattle.pairing.specs.Pair.{comes_before}
use Rattle.pairing.proofs.Arrival.{pair_from_start, all_new_pairs}
use Rattle.journal.specs.Answer.{Accepted, first_of}
use Rattle.journal.specs.declared.Gate.{Gate}
use Rattle.journal.specs.declared.Gate.TheVariants.{Open, Closed}
use Rattle.journal.specs.Journal.{mark_rows}
use Rattle.journal.proofs.Facts.{timely_onward, mark_met}
use Rattle.journal.proofs.Onward.{Onward, onward_same, onward_closed}
use Rattle.journal.proofs.Rows.{unless_refused_lem}
use Rattle.queue.specs.declared.Queue.{Queue}
use Rattle.queue.specs.Queue as queue
use Rattle.queue.proofs.Sound.{waiting_stored, queue_waiting}
use Rattle.queue.proofs.Ready.{filter_ready_comm, ready_ahead, ready_head, ready_grows}
use Rattle.halves.specs.View.{View}
use Rattle.halves.specs.Calls.{arrival, formed, entry_rows, after_entry, after_move, close_rows}
use Rattle.halves.proofs.Facts.{entry_met}
use Rattle.halves.proofs.Kept.{sound_move, sound_entry_lem}
use Rattle.join.specs.Calls.{Took, Handed, Outcome, called, side_of, judge_rows, entry_call, mark_call, close_call, waiting_in, ready_in, ready_of, both_closed, next_of, with_queue, without, after_take, take_on, take_call}
use Rattle.join.specs.State.{State, Sound, view, state_of}
use Rattle.join.proofs.Facts.{judged_met}
use Rattle.join.proofs.View.{view_state_of, view_waiting}
use Rattle.join.proofs.Kept.{sound_view, without_kept}

-- at most 256 are ready
pub ready_few : (s : State) → Sound s → length (ready_of s) ≤ queue.places
ready_few s h =
    let few : length (waiting_in s) ≤ queue.places = rw (view_waiting A s) at (sound_view A s h).waiting.few in
    omega (arith, filter_length (ready_in s) (waiting_in s))

ascending : (s : State) → Sound s → Ascending comes_before (waiting_in s)
ascending s h = rw (view_waiting A s) at (sound_view A s h).waiting.ascends

-- ---- a call that is no take

-- the ready pairs as a side sees them
abbrev ready_seen : View → List Pair
ready_seen v = filter (queue.ready v.own.gate v.other.gate) v.waiting

ready_seen_lem : (side : Side) (s : State) → ready_of s ≡ ready_seen (view side s)
unfolding view
ready_seen_lem A s = refl
ready_seen_lem B s = filter_ready_comm s.a.journal.gate s.b.journal.gate (waiting_in s)

-- what is ready in s stays first among what is ready in t
abbrev pub Grows : State → State → Type 0
Grows s t = (new : List Pair) × (ready_of t ≡ ready_of s ++ new)

grows_same : (s : State) → Grows s s
grows_same s = ([], sym (append-nil (ready_of s)))

module _ (s : State) (h : Sound s) (side : Side) where
  abbrev seen : View
  seen = view side s

  -- the gate of the side moves onward, and no pair that goes in is ready
  grows_seen : (v : View) → Onward seen.own.gate v.own.gate → v.other.gate ≡ seen.other.gate
      → filter (queue.ready seen.own.gate seen.other.gate) v.waiting ≡ ready_seen seen → Ascending comes_before v.waiting → Grows s (state_of side v)
  grows_seen v on other same ascends =
      let g = ready_grows seen.own.gate seen.other.gate v.own.gate seen.other.gate on (onward_same seen.other.gate) seen.waiting v.waiting same ascends in (
        g.0,
        ready_seen_lem side (state_of side v)
            ∙ ap ready_seen (view_state_of side v)
            ∙ ap (λ (gate : Gate). filter (queue.ready v.own.gate gate) v.waiting) other
            ∙ g.1
            ∙ ap (λ (l : List Pair). l ++ g.0) (sym (ready_seen_lem side s)),
      )

  grows_move : (gate : Gate) → Onward seen.own.gate gate → Grows s (state_of side (after_move gate seen))
  unfolding after_move
  grows_move gate on = grows_seen (after_move gate seen) on refl refl (sound_move side seen (sound_view side s h) gate on).waiting.ascends

  -- its own pairs start no earlier than an entry, so that none of them is ready yet
  grows_entry : (e : Entry) → first_of (entry_rows side seen e) ≡ Accepted → Grows s (state_of side (after_entry side seen e))
  unfolding after_entry
  grows_entry e a =
      let start = e.span.start in
      let met = entry_met side seen e a in
      let on : Onward seen.own.gate (Open start) = timely_onward seen.own.gate start met.own.timely in
      let due : Pair → Bool = queue.ready seen.own.gate seen.other.gate in
      let late : All (λ (p : Pair). due p ≡ false) (formed side seen e) = all_new_pairs (λ (p : Pair). due p ≡ false) (λ (y : Numbered). Unit {0}) seen.rule side (arrival seen e) seen.others
      (λ y u f. ready_ahead seen.own.gate seen.other.gate start on _ (pair_from_start (arrival seen e) y side)) (all_any (λ (y : Numbered). Unit {0}) (λ y. tt) seen.others) in
      grows_seen (after_entry side seen e) on refl (filter_insert_all_by comes_before due (formed side seen e) seen.waiting late) (sound_entry_lem side seen (sound_view side s h) e met).waiting.ascends

module _ (s : State) (h : Sound s) where
  judged_grows : (stream : ℕ) (rows : List Check) (next : State) → (first_of rows ≡ Accepted → Grows s next) → Grows s (called s (judge_rows s stream ++ rows) next).state
  judged_grows stream rows next f = unless_refused_lem (Grows s) (first_of (judge_rows s stream ++ rows)) next s (λ e. f (judged_met s stream rows e).rest) (grows_same s)

  pub entry_grows : (stream : ℕ) (e : Entry) → Grows s (entry_call s stream e).state
  unfolding entry_call
  entry_grows stream e =
      let side = side_of stream in
      judged_grows stream (entry_rows side (view side s) e) (state_of side (after_entry side (view side s) e)) (grows_entry s h side e)

  pub mark_grows : (stream time : ℕ) → Grows s (mark_call s stream time).state
  unfolding mark_call
  mark_grows stream time =
      let side = side_of stream in
      let own = (view side s).own in
      judged_grows stream (mark_rows time own) (state_of side (after_move (Open time) (view side s)))
      (λ a. grows_move s h side (Open time) (timely_onward own.gate time (mark_met time own a)))

  pub close_grows : (stream : ℕ) → Grows s (close_call s stream).state
  unfolding close_call
  close_grows stream =
      let side = side_of stream in
      judged_grows stream (close_rows (view side s).own) (state_of side (after_move Closed (view side s))) (λ a. grows_move s h side Closed (onward_closed (view side s).own.gate))

-- ---- a take

pub waiting_without : (k : ℕ) (s : State) → waiting_in (without k s) ≡ drop k (waiting_in s)
unfolding without
waiting_without k s = waiting_stored (drop k (waiting_in s))

-- dropping changes no gate
pub ready_without : (k : ℕ) (s : State) → ready_in (without k s) ≡ ready_in s
unfolding without
ready_without k s = refl

module _ (s : State) (h : Sound s) where
  -- on a sound state the judge lets a take through
  pub take_sound : take_call s ≡ take_on s
  unfolding take_call
  take_sound = rw h.judged

  -- where p is the first that is ready, a take hands it out and leaves the others
  pub take_ready : (p : Pair) (rest : List Pair) → ready_of s ≡ p ∷ rest → (take_call s ≡ record { answer = Handed p; state = without 1 s }) × (ready_of (without 1 s) ≡ rest)
  take_ready p rest e = go (waiting_in s) refl (ascending s h)
    where
      done : (q : Pair) (qs : List Pair) → waiting_in s ≡ q ∷ qs → ready_in s q ≡ true → (take_call s ≡ record { answer = Handed p; state = without 1 s }) × (ready_of (without 1 s) ≡ rest)
      done q qs w r =
          let shown : q ∷ filter (ready_in s) qs ≡ p ∷ rest = rw (w, r) at e in
          let first : q ≡ p = cc in
          let then : filter (ready_in s) qs ≡ rest = cc in (
            take_sound
                ∙ ap (λ (l : List Pair). record { answer = next_of (ready_in s) (both_closed s) l; state = after_take (next_of (ready_in s) (both_closed s) l) s }) w
                ∙ rw (r, first),
            ap (filter (ready_in (without 1 s))) (waiting_without 1 s ∙ ap (drop 1) w) ∙ ap (λ (f : Pair → Bool). filter f qs) (ready_without 1 s) ∙ then,
          )

      go : (l : List Pair) → waiting_in s ≡ l → Ascending comes_before l → (take_call s ≡ record { answer = Handed p; state = without 1 s }) × (ready_of (without 1 s) ≡ rest)
      go [] w a = let none : [] ≡ p ∷ rest = rw w at e in absurd (let z : ◌≡◌ {A = ℕ} 0 1 = cc in omega arith)
      go (q ∷ qs) w a = done q qs w (ready_head s.a.journal.gate s.b.journal.gate q qs a p rest (rw w at e))

-- ---- takes one after the other

-- dropping none changes nothing
pub without_none : (s : State) → Sound s → without 0 s ≡ s
unfolding without
without_none s h = ap (λ (q : Queue). with_queue q s) (queue_waiting s.queue h.holds_queue)

-- dropping twice is dropping once
pub without_without : (m n : ℕ) (s : State) → without m (without n s) ≡ without (n + m) s
unfolding without
without_without m n s =
    ap (λ (ps : List Pair). with_queue (queue.queue_of ps) s) (ap (drop m) (waiting_without n s) ∙ drop-drop m n (waiting_in s))

-- the state after k takes
abbrev pub taken_from : ℕ → State → State
taken_from zero s = s
taken_from (suc k) s = taken_from k (take_call s).state

-- what they answer
abbrev pub answers_from : ℕ → State → List Took
answers_from zero s = []
answers_from (suc k) s = (take_call s).answer ∷ answers_from k (take_call s).state

-- Where k pairs are ready, k single takes hand them out in order and leave what one drop of k leaves.
pub takes_together : (k : ℕ) (s : State) → Sound s → k ≤ length (ready_of s) → (taken_from k s ≡ without k s) × (answers_from k s ≡ map Handed (take k (ready_of s)))
takes_together zero s h few = (sym (without_none s h), refl)
takes_together (suc k) s h few = go (ready_of s) refl (takes_together k (without 1 s) (without_kept s h 1))
  where
    go : (l : List Pair) → ready_of s ≡ l
        → (k ≤ length (ready_of (without 1 s)) → (taken_from k (without 1 s) ≡ without k (without 1 s)) × (answers_from k (without 1 s) ≡ map Handed (take k (ready_of (without 1 s)))))
        → (taken_from (suc k) s ≡ without (suc k) s) × (answers_from (suc k) s ≡ map Handed (take (suc k) (ready_of s)))
    go [] e rest = absurd (let none : suc k ≤ 0 = rw e at few in omega arith)
    go (p ∷ ps) e rest =
        let one = take_ready s h p ps e in
        let more : suc k ≤ suc (length ps) = rw e at few in
        let then = rest (rw one.1 (omega arith)) in
        let up : 1 + k ≡ suc k = omega arith in (
          ap (λ (o : Outcome Took). taken_from k o.state) one.0 ∙ then.0 ∙ without_without k 1 s ∙ ap (λ (n : ℕ). without n s) up,
          rw (one.0, e, then.1, one.1),
        )
