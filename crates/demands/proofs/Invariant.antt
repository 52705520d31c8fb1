-- The invariant of a run: what is handed out and what waits is the plain list of what was accepted, and each area is what is wanted of it.
use Prim.Native.Nat.{ℕ, ◌≤◌, ◌<◌}
use native.Mathlib.Omega.{arith}
use native.Mathlib.Nat.{zero-add}
use mathlib.Core.Bool.{Bool, true, false, cond, true≢false}
use mathlib.Core.List.{List, [], ◌∷◌, ◌++◌, append_assoc, append-nil, map, flat_map}
use mathlib.Core.Path.{◌≡◌, refl, sym, ap, ◌∙◌}
use lib.ListN.{length, drop, length-append}
use Rattle.interval.proofs.Laws.{meeting_comm, meeting_start}
use Rattle.std.specs.Prelude.{filter}
use Rattle.lists.specs.Sort.{insert_all_by}
use Rattle.lists.proofs.All.{All, all_any, all_map, all_append, all_mapped}
use Rattle.lists.proofs.Bools.{and_left, and_right}
use Rattle.std.proofs.lemmas.List.Elements.{filter-append}
use Rattle.lists.proofs.Filter.{filter_again}
use Rattle.lists.proofs.Order.{Compared, less, equal, more, compared}
use Rattle.lists.proofs.Sort.{insert_all_by_behind}
use Rattle.pairing.specs.declared.Entry.{Entry}
use Rattle.pairing.specs.declared.Numbered.{Numbered}
use Rattle.pairing.specs.declared.Pair.{Pair}
use Rattle.pairing.specs.declared.Rule.{Rule}
use Rattle.pairing.specs.declared.Side.{Side}
use Rattle.pairing.specs.declared.Side.TheVariants.{A, B}
use Rattle.pairing.specs.Pair.{comes_before}
use Rattle.pairing.specs.Plain.{numbered_from, couples_that, plain}
use Rattle.pairing.specs.Side.{pair_from, new_pairs}
use Rattle.pairing.proofs.Arrival.{pairing, new_pairs_map}
use Rattle.pairing.proofs.Pairs.{pairs_ended_b, pair_meeting, before_start}
use Rattle.pairing.proofs.Plain.{numbered_snoc, plain_a, plain_b}
use Rattle.journal.specs.Answer.{Answer, Accepted, Refused, unless_refused}
use Rattle.journal.specs.declared.Gate.{Gate}
use Rattle.journal.specs.declared.Gate.TheVariants.{Open, Closed}
use Rattle.journal.specs.Journal.{wanted, below, mark_rows}
use Rattle.area.specs.Area.{wanted_by}
use Rattle.queue.specs.Queue.{ready}
use Rattle.halves.specs.View.{View}
use Rattle.halves.specs.Calls.{arrival, formed, entry_rows, after_entry, after_move}
use Rattle.halves.proofs.Facts.{entry_met}
use Rattle.halves.proofs.View.{turned}
use Rattle.join.specs.Calls as took
use Rattle.join.specs.State.{State, view, state_of, sound, fresh_state}
use Rattle.join.specs.Calls.{side_of, entry_call, mark_call, close_call, take_call, take_on, waiting_in, ready_in, both_closed, next_of, without, after_take}
use Rattle.demands.specs.History.{Call, Enter, Mark, Close, Take, of_side, handed_by, World, begin, step, run}
use Rattle.journal.proofs.Facts.{timely_onward, mark_met}
use Rattle.join.proofs.Facts.{judged_met}
use Rattle.journal.proofs.Onward.{Onward, onward_closed, below_onward, wanted_onward, below_before, wanted_after}
use Rattle.queue.proofs.Sound.{waiting_stored}
use Rattle.join.proofs.View.{view_state_of, view_across}

-- the plain list, the entries of one side named first
abbrev pub plain_from : Side → Rule → List Entry → List Entry → List Pair
plain_from A rule own other = plain rule own other
plain_from B rule own other = plain rule other own

-- neither journal can bring a pair of that start any more
abbrev pub Due : Gate → Gate → Pair → Type 0
Due g h p = (below g p.meeting.start ≡ true) × (below h p.meeting.start ≡ true)

-- as a side sees it, with the entries accepted of it, those accepted of the other, and the pairs handed out
pub record Good (rule : Rule) (side : Side) (v : View) (own other : List Entry) (out : List Pair) : Type 0 where
  pub ruled : v.rule ≡ rule
  pub counts : v.own.accepted ≡ length own
  pub counts_other : v.other.accepted ≡ length other
  pub holds : v.mine ≡ wanted_by v.other.gate (numbered_from 0 own)
  pub holds_other : v.others ≡ wanted_by v.own.gate (numbered_from 0 other)
  pub listed : out ++ v.waiting ≡ plain_from side rule own other
  pub due : All (Due v.own.gate v.other.gate) out

-- ---- a gate moves

still_wanted : (g h : Gate) → Onward g h → (xs held : List Numbered) → held ≡ wanted_by g xs → wanted_by h held ≡ wanted_by h xs
still_wanted g h l xs held e =
    ap (wanted_by h) e ∙ filter_again (λ (x : Numbered). wanted h x.entry) (λ (x : Numbered). wanted g x.entry) (λ x k. wanted_onward g h l x.entry k) xs

still_due : (g h other : Gate) → Onward g h → (ps : List Pair) → All (Due g other) ps → All (Due h other) ps
still_due g h other l = all_map (Due g other) (Due h other) (λ p k. (below_onward g h l p.meeting.start k.0, k.1))

pub moves : (rule : Rule) (side : Side) (v : View) (own other : List Entry) (out : List Pair) (gate : Gate) → Onward v.own.gate gate
    → Good rule side v own other out → Good rule side (after_move gate v) own other out
unfolding after_move
moves rule side v own other out gate l g = record {
  ruled = g.ruled;
  counts = g.counts;
  counts_other = g.counts_other;
  holds = g.holds;
  holds_other = still_wanted v.own.gate gate l (numbered_from 0 other) v.others g.holds_other;
  listed = g.listed;
  due = still_due v.own.gate gate v.other.gate l out g.due;
}

-- ---- an entry comes

-- the pairs of an entry start no earlier than it does
pub new_starts : (rule : Rule) (side : Side) (x : Numbered) (others : List Numbered) → All (λ (p : Pair). x.entry.span.start ≤ p.meeting.start) (new_pairs rule side x others)
new_starts rule side x others =
    rw (new_pairs_map rule side x others)
    (all_mapped (pair_from side x) (λ (y : Numbered). Unit {0}) (λ (p : Pair). x.entry.span.start ≤ p.meeting.start) (λ y u. one side y)
    (filter (pairing rule x) others) (all_any (λ (y : Numbered). Unit {0}) (λ y. tt) (filter (pairing rule x) others)))
  where
    one : (side : Side) (y : Numbered) → x.entry.span.start ≤ (pair_from side x y).meeting.start
    one A y = rw (pair_meeting x y) (meeting_start x.entry.span y.entry.span)
    one B y = rw (pair_meeting y x, meeting_comm y.entry.span x.entry.span) (meeting_start x.entry.span y.entry.span)

-- entries that are not wanted any more would make no pair with it
new_wanted : (rule : Rule) (side : Side) (x : Numbered) (gate : Gate) → Onward gate (Open x.entry.span.start) → (others : List Numbered) → new_pairs rule side x (wanted_by gate others) ≡ new_pairs rule side x others
new_wanted rule side x gate l others =
    new_pairs_map rule side x (wanted_by gate others)
    ∙ ap (map (pair_from side x)) (filter_again (pairing rule x) (λ (y : Numbered). wanted gate y.entry) wants others)
    ∙ sym (new_pairs_map rule side x others)
  where
    wants : (y : Numbered) → pairing rule x y ≡ true → wanted gate y.entry ≡ true
    wants y h = go (compared x.entry.span.start y.entry.span.end)
      where
        ended : y.entry.span.end ≤ x.entry.span.start → ⊥
        ended k = true≢false (sym h ∙ pairs_ended_b rule x.entry y.entry k)

        go : Compared x.entry.span.start y.entry.span.end → wanted gate y.entry ≡ true
        go (less k) = wanted_after gate x.entry.span.start y.entry l k
        go (equal k) = absurd (ended (omega arith))
        go (more k) = absurd (ended (omega arith))

-- one more entry of a side puts its pairs into the plain list
plain_more : (rule : Rule) (side : Side) (own other : List Entry) (e : Entry)
    → plain_from side rule (own ++ (e ∷ [])) other ≡ insert_all_by comes_before (new_pairs rule side (record { entry = e; ordinal = length own }) (numbered_from 0 other)) (plain_from side rule own other)
plain_more rule A own other e = plain_a rule own other e
plain_more rule B own other e = plain_b rule other own e

-- what was handed out starts before it, so its pairs go behind
behind : (start : ℕ) (g h : Gate) → Onward g (Open start) → (new out : List Pair) → All (λ (p : Pair). start ≤ p.meeting.start) new → All (Due g h) out
    → All (λ (p : Pair). All (λ (q : Pair). comes_before p q ≡ false) out) new
behind start g h l new out starts due =
    all_map (λ (p : Pair). start ≤ p.meeting.start) (λ (p : Pair). All (λ (q : Pair). comes_before p q ≡ false) out)
    (λ p k. all_map (Due g h) (λ (q : Pair). comes_before p q ≡ false) (λ q d. one p q k (below_before g start q.meeting.start l d.0)) out due) new starts
  where
    one : (p q : Pair) → start ≤ p.meeting.start → q.meeting.start < start → comes_before p q ≡ false
    one p q k d = go (comes_before p q) refl
      where
        never : comes_before p q ≡ true → ⊥
        never f = omega (arith, before_start p q f)

        go : (b : Bool) → comes_before p q ≡ b → comes_before p q ≡ false
        go true f = absurd (never f)
        go false f = f

pub enters : (rule : Rule) (side : Side) (v : View) (own other : List Entry) (out : List Pair) (e : Entry) → Onward v.own.gate (Open e.span.start)
    → Good rule side v own other out → Good rule side (after_entry side v e) (own ++ (e ∷ [])) other out
unfolding after_entry
enters rule side v own other out e l g =
    let x : Numbered = record { entry = e; ordinal = length own } in
    let numbered : arrival v e ≡ x = ap (λ (n : ℕ). record { entry = e; ordinal = n }) g.counts in
    let new : formed side v e ≡ new_pairs rule side x (numbered_from 0 other) =
    ap (λ (r : Rule). new_pairs r side (arrival v e) v.others) g.ruled
    ∙ ap (λ (y : Numbered). new_pairs rule side y v.others) numbered
    ∙ ap (new_pairs rule side x) g.holds_other
    ∙ new_wanted rule side x v.own.gate l (numbered_from 0 other) in
    let past = behind e.span.start v.own.gate v.other.gate l (formed side v e) out (new_starts v.rule side (arrival v e) v.others) g.due in
    record {
      ruled = g.ruled;
      counts = omega (arith, g.counts, length-append own (e ∷ []));
      counts_other = g.counts_other;
      holds = ap (λ (xs : List Numbered). xs ++ wanted_by v.other.gate (arrival v e ∷ [])) g.holds
          ∙ ap (λ (y : Numbered). wanted_by v.other.gate (numbered_from 0 own) ++ wanted_by v.other.gate (y ∷ [])) numbered
          ∙ sym (ap (wanted_by v.other.gate) (numbered_snoc 0 own e ∙ ap (λ (n : ℕ). numbered_from 0 own ++ (record { entry = e; ordinal = n } ∷ [])) (zero-add (length own)))
          ∙ filter-append (λ (y : Numbered). wanted v.other.gate y.entry) (numbered_from 0 own) (x ∷ []));
      holds_other = still_wanted v.own.gate (Open e.span.start) l (numbered_from 0 other) v.others g.holds_other;
      listed = sym (insert_all_by_behind comes_before (formed side v e) out v.waiting past)
          ∙ ap (insert_all_by comes_before (formed side v e)) g.listed
          ∙ ap (λ (ps : List Pair). insert_all_by comes_before ps (plain_from side rule own other)) new
          ∙ sym (plain_more rule side own other e);
      due = still_due v.own.gate (Open e.span.start) v.other.gate l out g.due;
    }

-- ---- a state, seen from either side

abbrev pub Kept : Rule → Side → State → List Entry → List Entry → List Pair → Type 0
Kept rule A s of_a of_b out = Good rule A (view A s) of_a of_b out
Kept rule B s of_a of_b out = Good rule B (view B s) of_b of_a out

turn : (rule : Rule) (v : View) (of_a of_b : List Entry) (out : List Pair) → Good rule A v of_a of_b out → Good rule B (turned v) of_b of_a out
turn rule v of_a of_b out g = record {
  ruled = g.ruled;
  counts = g.counts_other;
  counts_other = g.counts;
  holds = g.holds_other;
  holds_other = g.holds;
  listed = g.listed;
  due = all_map (Due v.own.gate v.other.gate) (Due v.other.gate v.own.gate) (λ p d. (d.1, d.0)) out g.due;
}

turn_back : (rule : Rule) (v : View) (of_a of_b : List Entry) (out : List Pair) → Good rule B (turned v) of_b of_a out → Good rule A v of_a of_b out
turn_back rule v of_a of_b out g = record {
  ruled = g.ruled;
  counts = g.counts_other;
  counts_other = g.counts;
  holds = g.holds_other;
  holds_other = g.holds;
  listed = g.listed;
  due = all_map (Due v.other.gate v.own.gate) (Due v.own.gate v.other.gate) (λ p d. (d.1, d.0)) out g.due;
}

from : (rule : Rule) (side : Side) (s : State) (of_a of_b : List Entry) (out : List Pair) → Kept rule A s of_a of_b out → Kept rule side s of_a of_b out
from rule A s of_a of_b out g = g
from rule B s of_a of_b out g = rw (view_across A s) (turn rule (view A s) of_a of_b out g)

back : (rule : Rule) (side : Side) (s : State) (of_a of_b : List Entry) (out : List Pair) → Kept rule side s of_a of_b out → Kept rule A s of_a of_b out
back rule A s of_a of_b out g = g
back rule B s of_a of_b out g = turn_back rule (view A s) of_a of_b out (rw (view_across A s) at g)

state_moves : (rule : Rule) (side : Side) (s : State) (of_a of_b : List Entry) (out : List Pair) (gate : Gate) → Onward (view side s).own.gate gate
    → Kept rule side s of_a of_b out → Kept rule side (state_of side (after_move gate (view side s))) of_a of_b out
state_moves rule A s of_a of_b out gate l g = rw (view_state_of A (after_move gate (view A s))) (moves rule A (view A s) of_a of_b out gate l g)
state_moves rule B s of_a of_b out gate l g = rw (view_state_of B (after_move gate (view B s))) (moves rule B (view B s) of_b of_a out gate l g)

state_enters : (rule : Rule) (side : Side) (s : State) (of_a of_b : List Entry) (out : List Pair) (e : Entry) → Onward (view side s).own.gate (Open e.span.start)
    → Kept rule side s of_a of_b out → Kept rule side (state_of side (after_entry side (view side s) e)) (of_a ++ of_side A side e) (of_b ++ of_side B side e) out
state_enters rule A s of_a of_b out e l g = rw (view_state_of A (after_entry A (view A s) e), append-nil of_b) (enters rule A (view A s) of_a of_b out e l g)
state_enters rule B s of_a of_b out e l g = rw (view_state_of B (after_entry B (view B s) e), append-nil of_a) (enters rule B (view B s) of_b of_a out e l g)

-- ---- a take

module _ (rule : Rule) (s : State) (of_a of_b : List Entry) (out : List Pair) (g : Kept rule A s of_a of_b out) where
  same : Kept rule A s of_a of_b (out ++ [])
  same = rw (append-nil out) g

  handed : (p : Pair) (ps : List Pair) → waiting_in s ≡ p ∷ ps → ready_in s p ≡ true → Kept rule A (without 1 s) of_a of_b (out ++ (p ∷ []))
  unfolding view without ready
  handed p ps e r =
      let left = waiting_stored (drop 1 (waiting_in s)) ∙ ap (drop 1) e in
      let start = p.meeting.start in
      record {
        ruled = g.ruled;
        counts = g.counts;
        counts_other = g.counts_other;
        holds = g.holds;
        holds_other = g.holds_other;
        listed = append_assoc out (p ∷ []) _ ∙ ap (λ (l : List Pair). out ++ (p ∷ l)) left ∙ ap (λ (l : List Pair). out ++ l) (sym e) ∙ g.listed;
        due = all_append (Due s.a.journal.gate s.b.journal.gate) out (p ∷ []) g.due
            ((and_left (below s.a.journal.gate start) (below s.b.journal.gate start) r, and_right (below s.a.journal.gate start) (below s.b.journal.gate start) r), tt);
      }

  taken : (ps : List Pair) → waiting_in s ≡ ps → Kept rule A (after_take (next_of (ready_in s) (both_closed s) ps) s) of_a of_b (out ++ handed_by (next_of (ready_in s) (both_closed s) ps))
  taken [] e = go (both_closed s)
    where
      go : (b : Bool) → Kept rule A (after_take (cond b took.Finished took.Waiting) s) of_a of_b (out ++ handed_by (cond b took.Finished took.Waiting))
      go true = same
      go false = same
  taken (p ∷ ps) e = go (ready_in s p) refl
    where
      go : (b : Bool) → ready_in s p ≡ b → Kept rule A (after_take (cond b (took.Handed p) took.Waiting) s) of_a of_b (out ++ handed_by (cond b (took.Handed p) took.Waiting))
      go true r = handed p ps e r
      go false r = same

  takes : Kept rule A (take_call s).state of_a of_b (out ++ handed_by (take_call s).answer)
  unfolding take_call
  takes = go (sound s)
    where
      go : (b : Bool) → Kept rule A (cond b (take_on s) (record { answer = took.Refused 8; state = s })).state of_a of_b (out ++ handed_by (cond b (take_on s) (record { answer = took.Refused 8; state = s })).answer)
      go true = taken (waiting_in s) refl
      go false = same

-- ---- any call

pub entry_later : (s : State) (stream : ℕ) (e : Entry) → (entry_call s stream e).answer ≡ Accepted → Onward (view (side_of stream) s).own.gate (Open e.span.start)
unfolding entry_call
entry_later s stream e h =
    let side = side_of stream in
    let v = view side s in
    timely_onward v.own.gate e.span.start (entry_met side v e (judged_met s stream (entry_rows side v e) h).rest).own.timely

pub mark_later : (s : State) (stream time : ℕ) → (mark_call s stream time).answer ≡ Accepted → Onward (view (side_of stream) s).own.gate (Open time)
unfolding mark_call
mark_later s stream time h =
    let v = view (side_of stream) s in
    timely_onward v.own.gate time (mark_met time v.own (judged_met s stream (mark_rows time v.own) h).rest)

abbrev pub GoodWorld : Rule → World → Type 0
GoodWorld rule w = Kept rule A w.state w.of_a w.of_b w.out

-- a call that may be refused: all that it would leave is kept, so all that it leaves is
judged : (rule : Rule) (s next : State) (of_a of_b : List Entry) (out : List Pair) (more_a more_b : List Entry) (a : Answer)
    → (a ≡ Accepted → Kept rule A next (of_a ++ more_a) (of_b ++ more_b) out) → Kept rule A s of_a of_b out
    → Kept rule A (unless_refused a next s) (of_a ++ unless_refused a more_a []) (of_b ++ unless_refused a more_b []) (out ++ [])
judged rule s next of_a of_b out more_a more_b Accepted h g = rw (append-nil out) (h refl)
judged rule s next of_a of_b out more_a more_b (Refused number) h g = rw (append-nil of_a, append-nil of_b, append-nil out) g

-- a mark or a close brings no entry
moving : (rule : Rule) (side : Side) (s : State) (of_a of_b : List Entry) (out : List Pair) (gate : Gate) (a : Answer) → (a ≡ Accepted → Onward (view side s).own.gate gate)
    → Kept rule A s of_a of_b out → Kept rule A (unless_refused a (state_of side (after_move gate (view side s))) s) (of_a ++ []) (of_b ++ []) (out ++ [])
moving rule side s of_a of_b out gate a l g = rw (append-nil of_a, append-nil of_b, append-nil out) (go a l)
  where
    go : (a : Answer) → (a ≡ Accepted → Onward (view side s).own.gate gate) → Kept rule A (unless_refused a (state_of side (after_move gate (view side s))) s) of_a of_b out
    go Accepted l = back rule side (state_of side (after_move gate (view side s))) of_a of_b out (state_moves rule side s of_a of_b out gate (l refl) (from rule side s of_a of_b out g))
    go (Refused number) l = g

pub stepped : (rule : Rule) (w : World) (c : Call) → GoodWorld rule w → GoodWorld rule (step w c)
unfolding entry_call mark_call close_call
stepped rule w (Enter stream e) g =
    let s = w.state in
    let side = side_of stream in
    judged rule s _ w.of_a w.of_b w.out (of_side A side e) (of_side B side e) (entry_call s stream e).answer
    (λ h. back rule side _ _ _ w.out (state_enters rule side s w.of_a w.of_b w.out e (entry_later s stream e h) (from rule side s w.of_a w.of_b w.out g))) g
stepped rule w (Mark stream time) g = moving rule (side_of stream) w.state w.of_a w.of_b w.out (Open time) (mark_call w.state stream time).answer (mark_later w.state stream time) g
stepped rule w (Close stream) g =
    moving rule (side_of stream) w.state w.of_a w.of_b w.out Closed (close_call w.state stream).answer (λ h. onward_closed (view (side_of stream) w.state).own.gate) g
stepped rule w Take g = rw (append-nil w.of_a, append-nil w.of_b) (takes rule w.state w.of_a w.of_b w.out g)

pub ran : (rule : Rule) (w : World) (calls : List Call) → GoodWorld rule w → GoodWorld rule (run w calls)
ran rule w [] g = g
ran rule w (c ∷ cs) g = ran rule (step w c) cs (stepped rule w c g)

pub began : (rule : Rule) → GoodWorld rule (begin rule)
unfolding fresh_state plain couples_that flat_map
began rule = rw (view_state_of A _) (record { ruled = refl; counts = refl; counts_other = refl; holds = refl; holds_other = refl; listed = refl; due = tt })
