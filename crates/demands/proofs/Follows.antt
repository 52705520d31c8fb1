-- What a later moment of a run keeps of an earlier one: clocks only move on, what was handed out stays handed out, nothing new starts below the clocks, neither pairs nor entries, and a closed journal brings no more.
use Prim.Native.Nat.{◌≤◌}
use mathlib.Core.Bool.{Bool, true, false, cond, ◌&&◌, false≢true}
use mathlib.Core.List.{List, [], ◌∷◌, ◌++◌, append_assoc, append-nil, IsPrefix}
use mathlib.Core.Path.{◌≡◌, refl, sym, ap, ◌∙◌}
use lib.ListN.{drop}
use Rattle.std.specs.Prelude.{filter}
use Rattle.lists.specs.Sort.{insert_all_by}
use Rattle.lists.proofs.All.{All, all_map, all_append}
use Rattle.lists.proofs.Bools.{and_left, and_right}
use Rattle.std.proofs.lemmas.List.Elements.{filter-append}
use Rattle.lists.proofs.Filter.{filter_again, filter_same_test}
use Rattle.lists.proofs.Sort.{filter_insert_all_by}
use Rattle.pairing.specs.declared.Entry.{Entry}
use Rattle.pairing.specs.declared.Pair.{Pair}
use Rattle.pairing.specs.declared.Side.{Side}
use Rattle.pairing.specs.declared.Side.TheVariants.{A, B}
use Rattle.pairing.specs.Pair.{comes_before}
use Rattle.journal.specs.Answer.{Answer, Accepted, Refused, unless_refused}
use Rattle.journal.specs.declared.Gate.{Gate}
use Rattle.journal.specs.declared.Gate.TheVariants.{Open, Closed}
use Rattle.journal.specs.Journal.{below, is_closed}
use Rattle.queue.specs.Queue.{ready}
use Rattle.halves.specs.View.{View}
use Rattle.halves.specs.Calls.{arrival, formed, after_entry, after_move}
use Rattle.halves.proofs.View.{turned}
use Rattle.join.specs.Calls as took
use Rattle.join.specs.State.{State, view, state_of, sound}
use Rattle.join.specs.Calls.{side_of, entry_call, mark_call, close_call, take_call, take_on, waiting_in, ready_in, both_closed, next_of, without, after_take}
use Rattle.demands.specs.Demands.{accepted_of}
use Rattle.demands.specs.History.{Call, Enter, Mark, Close, Take, of_side, handed_by, World, step, run}
use Rattle.journal.proofs.Onward.{Onward, onward_same, onward_trans, onward_closed, below_onward, below_ahead}
use Rattle.demands.proofs.Invariant.{new_starts, entry_later, mark_later}
use Rattle.queue.proofs.Sound.{waiting_stored}
use Rattle.join.proofs.View.{view_state_of, view_across}

-- ---- entries that come while a gate moves

-- those that come after some each start where the gate could move to
abbrev pub Entered : Gate → List Entry → List Entry → Type 0
Entered gate es later = (new : List Entry) × ((es ++ new ≡ later) × All (λ (e : Entry). Onward gate (Open e.span.start)) new)

entered_none : (gate : Gate) (es : List Entry) → Entered gate es es
entered_none gate es = ([], (append-nil es, tt))

entered_trans : (gate next : Gate) → Onward gate next → (es fs gs : List Entry) → Entered gate es fs → Entered next fs gs → Entered gate es gs
entered_trans gate next l es fs gs (new, (e, h)) (more, (f, k)) =
    let from : Gate → Entry → Type 0 = λ g x. Onward g (Open x.span.start) in (
      new ++ more,
      (
        sym (append_assoc es new more) ∙ ap (λ (xs : List Entry). xs ++ more) e ∙ f,
        all_append (from gate) new more h (all_map (from next) (from gate) (λ x. onward_trans gate next (Open x.span.start) l) more k),
      ),
    )

-- none comes where it is closed
pub entered_closed : (gate : Gate) (es later : List Entry) → is_closed gate ≡ true → Entered gate es later → later ≡ es
entered_closed (Open clock) es later c h = absurd (false≢true c)
entered_closed Closed es later c ([], (e, h)) = sym e ∙ append-nil es
entered_closed Closed es later c (x ∷ new, (e, h)) = absurd h.0

-- ---- moments

-- a moment of a run, as a side sees it
pub record Moment : Type 0 where
  pub seen : View
  pub own : List Entry
  pub other : List Entry
  pub out : List Pair

abbrev ready_then : Moment → Pair → Bool
ready_then m = ready m.seen.own.gate m.seen.other.gate

pub record After (m n : Moment) : Type 0 where
  pub clock : Onward m.seen.own.gate n.seen.own.gate
  pub clock_other : Onward m.seen.other.gate n.seen.other.gate
  pub longer : IsPrefix m.out n.out
  pub still : filter (ready_then m) (n.out ++ n.seen.waiting) ≡ filter (ready_then m) (m.out ++ m.seen.waiting)
  pub entered : Entered m.seen.own.gate m.own n.own
  pub entered_other : Entered m.seen.other.gate m.other n.other

ready_later : (g h g' h' : Gate) → Onward g g' → Onward h h' → (p : Pair) → ready g h p ≡ true → ready g' h' p ≡ true
unfolding ready
ready_later g h g' h' l k p e =
    let t = p.meeting.start in
    rw (below_onward g g' l t (and_left (below g t) (below h t) e), below_onward h h' k t (and_right (below g t) (below h t) e))

after_refl : (m : Moment) → After m m
after_refl m = record {
  clock = onward_same m.seen.own.gate;
  clock_other = onward_same m.seen.other.gate;
  longer = ([], append-nil m.out);
  still = refl;
  entered = entered_none m.seen.own.gate m.own;
  entered_other = entered_none m.seen.other.gate m.other;
}

after_trans : (m n o : Moment) → After m n → After n o → After m o
after_trans m n o p q = record {
  clock = onward_trans m.seen.own.gate n.seen.own.gate o.seen.own.gate p.clock q.clock;
  clock_other = onward_trans m.seen.other.gate n.seen.other.gate o.seen.other.gate p.clock_other q.clock_other;
  longer = (p.longer.0 ++ q.longer.0, sym (append_assoc m.out p.longer.0 q.longer.0) ∙ ap (λ (l : List Pair). l ++ q.longer.0) p.longer.1 ∙ q.longer.1);
  still = sym (both (o.out ++ o.seen.waiting)) ∙ ap (filter (ready_then m)) q.still ∙ both (n.out ++ n.seen.waiting) ∙ p.still;
  entered = entered_trans m.seen.own.gate n.seen.own.gate p.clock m.own n.own o.own p.entered q.entered;
  entered_other = entered_trans m.seen.other.gate n.seen.other.gate p.clock_other m.other n.other o.other p.entered_other q.entered_other;
}
  where
    both : (l : List Pair) → filter (ready_then m) (filter (ready_then n) l) ≡ filter (ready_then m) l
    both l = filter_again (ready_then m) (ready_then n) (ready_later m.seen.own.gate m.seen.other.gate n.seen.own.gate n.seen.other.gate p.clock p.clock_other) l

-- ---- a gate moves, an entry comes

after_move_lem : (m : Moment) (gate : Gate) → Onward m.seen.own.gate gate → After m (record { seen = after_move gate m.seen; own = m.own; other = m.other; out = m.out })
unfolding after_move
after_move_lem m gate l = record {
  clock = l;
  clock_other = onward_same m.seen.other.gate;
  longer = ([], append-nil m.out);
  still = refl;
  entered = entered_none m.seen.own.gate m.own;
  entered_other = entered_none m.seen.other.gate m.other;
}

after_enter : (side : Side) (m : Moment) (e : Entry) → Onward m.seen.own.gate (Open e.span.start)
    → After m (record { seen = after_entry side m.seen e; own = m.own ++ (e ∷ []); other = m.other; out = m.out })
unfolding after_entry ready
after_enter side m e l =
    let new = formed side m.seen e in
    let hidden = all_map (λ (p : Pair). e.span.start ≤ p.meeting.start) (λ (p : Pair). ready_then m p ≡ false)
    (λ p k. ap (λ (b : Bool). b && below m.seen.other.gate p.meeting.start) (below_ahead m.seen.own.gate e.span.start l p.meeting.start k))
    new (new_starts m.seen.rule side (arrival m.seen e) m.seen.others) in
    record {
      clock = l;
      clock_other = onward_same m.seen.other.gate;
      longer = ([], append-nil m.out);
      still = filter-append (ready_then m) m.out (insert_all_by comes_before new m.seen.waiting)
          ∙ ap (λ (r : List Pair). filter (ready_then m) m.out ++ r) (filter_insert_all_by comes_before (ready_then m) new m.seen.waiting hidden)
          ∙ sym (filter-append (ready_then m) m.out m.seen.waiting);
      entered = (e ∷ [], (refl, (l, tt)));
      entered_other = entered_none m.seen.other.gate m.other;
    }

-- ---- moments of a world

abbrev pub moment_of : Side → State → List Entry → List Entry → List Pair → Moment
moment_of A s of_a of_b out = record { seen = view A s; own = of_a; other = of_b; out = out }
moment_of B s of_a of_b out = record { seen = view B s; own = of_b; other = of_a; out = out }

abbrev turn : Moment → Moment
turn m = record { seen = turned m.seen; own = m.other; other = m.own; out = m.out }

ready_turned : (m : Moment) (p : Pair) → ready_then (turn m) p ≡ ready_then m p
unfolding ready
ready_turned m p = go (below m.seen.other.gate p.meeting.start) (below m.seen.own.gate p.meeting.start)
  where
    go : (b c : Bool) → b && c ≡ c && b
    go true true = refl
    go true false = refl
    go false true = refl
    go false false = refl

turn_back : (m n : Moment) → After (turn m) (turn n) → After m n
turn_back m n p = record {
  clock = p.clock_other;
  clock_other = p.clock;
  longer = p.longer;
  still = sym (filter_same_test (ready_then (turn m)) (ready_then m) (ready_turned m) (n.out ++ n.seen.waiting)) ∙ p.still ∙ filter_same_test (ready_then (turn m)) (ready_then m) (ready_turned m) (m.out ++ m.seen.waiting);
  entered = p.entered_other;
  entered_other = p.entered;
}

-- what follows as one side sees it
abbrev pub Next : Side → State → List Entry → List Entry → List Pair → State → List Entry → List Entry → List Pair → Type 0
Next side s of_a of_b out s' of_a' of_b' out' = After (moment_of side s of_a of_b out) (moment_of side s' of_a' of_b' out')

back : (side : Side) (s : State) (of_a of_b : List Entry) (out : List Pair) (s' : State) (of_a' of_b' : List Entry) (out' : List Pair)
    → Next side s of_a of_b out s' of_a' of_b' out' → Next A s of_a of_b out s' of_a' of_b' out'
back A s of_a of_b out s' of_a' of_b' out' p = p
back B s of_a of_b out s' of_a' of_b' out' p = turn_back (moment_of A s of_a of_b out) (moment_of A s' of_a' of_b' out') (rw (view_across A s, view_across A s') at p)

module _ (s : State) (of_a of_b : List Entry) (out : List Pair) where
  state_move : (side : Side) (gate : Gate) → Onward (view side s).own.gate gate → Next side s of_a of_b out (state_of side (after_move gate (view side s))) of_a of_b out
  state_move A gate l = rw (view_state_of A (after_move gate (view A s))) (after_move_lem (moment_of A s of_a of_b out) gate l)
  state_move B gate l = rw (view_state_of B (after_move gate (view B s))) (after_move_lem (moment_of B s of_a of_b out) gate l)

  state_enter : (side : Side) (e : Entry) → Onward (view side s).own.gate (Open e.span.start)
      → Next side s of_a of_b out (state_of side (after_entry side (view side s) e)) (of_a ++ of_side A side e) (of_b ++ of_side B side e) out
  state_enter A e l = rw (view_state_of A (after_entry A (view A s) e), append-nil of_b) (after_enter A (moment_of A s of_a of_b out) e l)
  state_enter B e l = rw (view_state_of B (after_entry B (view B s) e), append-nil of_a) (after_enter B (moment_of B s of_a of_b out) e l)

  same : Next A s of_a of_b out s of_a of_b (out ++ [])
  same = rw (append-nil out) (after_refl (moment_of A s of_a of_b out))

  handed : (p : Pair) (ps : List Pair) → waiting_in s ≡ p ∷ ps → Next A s of_a of_b out (without 1 s) of_a of_b (out ++ (p ∷ []))
  unfolding view without
  handed p ps e =
      let left = waiting_stored (drop 1 (waiting_in s)) ∙ ap (drop 1) e in
      let whole = append_assoc out (p ∷ []) _ ∙ ap (λ (l : List Pair). out ++ (p ∷ l)) left ∙ ap (λ (l : List Pair). out ++ l) (sym e) in
      record {
        clock = onward_same s.a.journal.gate;
        clock_other = onward_same s.b.journal.gate;
        longer = (p ∷ [], refl);
        still = ap (filter (ready_in s)) whole;
        entered = entered_none s.a.journal.gate of_a;
        entered_other = entered_none s.b.journal.gate of_b;
      }

  taken : (ps : List Pair) → waiting_in s ≡ ps → Next A s of_a of_b out (after_take (next_of (ready_in s) (both_closed s) ps) s) of_a of_b (out ++ handed_by (next_of (ready_in s) (both_closed s) ps))
  taken [] e = go (both_closed s)
    where
      go : (b : Bool) → Next A s of_a of_b out (after_take (cond b took.Finished took.Waiting) s) of_a of_b (out ++ handed_by (cond b took.Finished took.Waiting))
      go true = same
      go false = same
  taken (p ∷ ps) e = go (ready_in s p)
    where
      go : (b : Bool) → Next A s of_a of_b out (after_take (cond b (took.Handed p) took.Waiting) s) of_a of_b (out ++ handed_by (cond b (took.Handed p) took.Waiting))
      go true = handed p ps e
      go false = same

  takes : Next A s of_a of_b out (take_call s).state of_a of_b (out ++ handed_by (take_call s).answer)
  unfolding take_call
  takes = go (sound s)
    where
      go : (b : Bool) → Next A s of_a of_b out (cond b (take_on s) (record { answer = took.Refused 8; state = s })).state of_a of_b (out ++ handed_by (cond b (take_on s) (record { answer = took.Refused 8; state = s })).answer)
      go true = taken (waiting_in s) refl
      go false = same

  entering : (side : Side) (e : Entry) (a : Answer) → (a ≡ Accepted → Onward (view side s).own.gate (Open e.span.start))
      → Next A s of_a of_b out (unless_refused a (state_of side (after_entry side (view side s) e)) s) (of_a ++ unless_refused a (of_side A side e) []) (of_b ++ unless_refused a (of_side B side e) []) (out ++ [])
  entering side e Accepted l = rw (append-nil out) (back side s of_a of_b out (state_of side (after_entry side (view side s) e)) (of_a ++ of_side A side e) (of_b ++ of_side B side e) out (state_enter side e (l refl)))
  entering side e (Refused number) l = rw (append-nil of_a, append-nil of_b) same

  moving : (side : Side) (gate : Gate) (a : Answer) → (a ≡ Accepted → Onward (view side s).own.gate gate)
      → Next A s of_a of_b out (unless_refused a (state_of side (after_move gate (view side s))) s) (of_a ++ []) (of_b ++ []) (out ++ [])
  moving side gate Accepted l = rw (append-nil of_a, append-nil of_b, append-nil out) (back side s of_a of_b out (state_of side (after_move gate (view side s))) of_a of_b out (state_move side gate (l refl)))
  moving side gate (Refused number) l = rw (append-nil of_a, append-nil of_b) same

-- ---- any calls

abbrev pub moment : World → Moment
moment w = moment_of A w.state w.of_a w.of_b w.out

abbrev pub Follows : World → World → Type 0
Follows v w = After (moment v) (moment w)

follows_step : (w : World) (c : Call) → Follows w (step w c)
unfolding entry_call mark_call close_call
follows_step w (Enter stream e) = entering w.state w.of_a w.of_b w.out (side_of stream) e (entry_call w.state stream e).answer (entry_later w.state stream e)
follows_step w (Mark stream time) = moving w.state w.of_a w.of_b w.out (side_of stream) (Open time) (mark_call w.state stream time).answer (mark_later w.state stream time)
follows_step w (Close stream) =
    moving w.state w.of_a w.of_b w.out (side_of stream) Closed (close_call w.state stream).answer (λ h. onward_closed (view (side_of stream) w.state).own.gate)
follows_step w Take = rw (append-nil w.of_a, append-nil w.of_b) (takes w.state w.of_a w.of_b w.out)

pub follows_run : (w : World) (calls : List Call) → Follows w (run w calls)
follows_run w [] = after_refl (moment w)
follows_run w (c ∷ cs) = after_trans (moment w) (moment (step w c)) (moment (run (step w c) cs)) (follows_step w c) (follows_run (step w c) cs)

-- the same of the entries of either side
pub entered_side : (side : Side) (v w : World) → Follows v w → Entered (view side v.state).own.gate (accepted_of side v) (accepted_of side w)
unfolding view
entered_side A v w f = f.entered
entered_side B v w f = f.entered_other
