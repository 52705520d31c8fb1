-- The demands hold of every run of a fresh join.
use Prim.Native.Nat.{ℕ, ◌≤◌}
use native.Mathlib.Omega.{arith}
use mathlib.Core.Bool.{Bool, true, false, cond, true≢false}
use mathlib.Core.List.{List, [], ◌∷◌, ◌++◌, append_assoc, append-nil}
use mathlib.Core.Path.{◌≡◌, refl, sym, ap, ap₂, ◌∙◌}
use lib.Dec.{leb}
use borrow.Author.Tests.{le-leb}
use Rattle.std.specs.Prelude.{filter}
use Rattle.lists.proofs.All.{All, all_map}
use Rattle.lists.proofs.Bools.{and_left, and_right}
use Rattle.lists.proofs.Judge.{all_list_all}
use Rattle.std.proofs.lemmas.List.Elements.{filter-append}
use Rattle.lists.proofs.Filter.{filter_all}
use Rattle.pairing.specs.declared.Entry.{Entry}
use Rattle.pairing.specs.declared.Pair.{Pair}
use Rattle.pairing.specs.declared.Rule.{Rule}
use Rattle.pairing.specs.declared.Side.{Side}
use Rattle.pairing.specs.declared.Side.TheVariants.{A, B}
use Rattle.pairing.specs.Plain.{plain}
use Rattle.pairing.proofs.Plain.{plain_at}
use Rattle.journal.specs.Answer.{Answer}
use Rattle.journal.specs.Answer as answer
use Rattle.journal.specs.declared.Gate.{Gate}
use Rattle.journal.specs.declared.Gate.TheVariants.{Open}
use Rattle.journal.specs.Journal.{is_closed, mark_rows}
use Rattle.journal.proofs.Facts.{mark_met}
use Rattle.queue.specs.Queue.{ready}
use Rattle.halves.specs.Calls.{entry_rows, after_move, close_rows}
use Rattle.halves.proofs.Facts.{entry_met, close_met}
use Rattle.join.specs.Calls.{Handed, Waiting, Finished, Refused, side_of, entry_call, mark_call, close_call, take_call, take_on, next_of, waiting_in, ready_in, both_closed}
use Rattle.join.specs.State.{State, view, sound}
use Rattle.join.proofs.Facts.{judged_met}
use Rattle.join.proofs.View.{view_state_of}
use Rattle.demands.specs.Demands.{pairs_of, EachInstant, Joins, TermsOnce, Multiplies, HoldsWanted, CountsAccepted, plain_of, FirstStretch, BelowClocks, Whole, FinishedWhole, NoMore, OnlyTakes, Agree, RuleStays, accepted_of, StartsFrom, Demands, ran}
use Rattle.demands.specs.History.{Call, Enter, Mark, Close, Take, World, begin, step, run, is_refusal}
use Rattle.demands.proofs.Follows.{Follows, entered_closed, follows_run, entered_side}
use Rattle.demands.proofs.Invariant as invariant
use Rattle.demands.proofs.Invariant.{Due, GoodWorld, began}
use Rattle.demands.proofs.Refused.{run_heeded}
use Rattle.demands.proofs.Streams.{plain_joins, plain_multiplies, entries_once}

pub run_append : (w : World) (calls more : List Call) → run w (calls ++ more) ≡ run (run w calls) more
run_append w [] more = refl
run_append w (c ∷ cs) more = run_append (step w c) cs more

-- ---- with both journals closed

closed_side : (side : Side) (s : State) → both_closed s ≡ true → is_closed (view side s).own.gate ≡ true
unfolding view
closed_side A s h = and_left (is_closed s.a.journal.gate) (is_closed s.b.journal.gate) h
closed_side B s h = and_right (is_closed s.a.journal.gate) (is_closed s.b.journal.gate) h

-- the row of 2 applies, so no entry, mark or close is accepted
closed_refuses : (gate : Gate) → is_closed gate ≡ true → (a : Answer) → (a ≡ answer.Accepted → is_closed gate ≡ false) → is_refusal a ≡ true
closed_refuses gate h answer.Accepted f = absurd (true≢false (sym h ∙ f refl))
closed_refuses gate h (answer.Refused number) f = refl

only_takes_lem : (w : World) → OnlyTakes w
unfolding entry_call mark_call close_call
only_takes_lem w h (Enter stream e) =
    let side = side_of stream in
    let v = view side w.state in
    closed_refuses v.own.gate (closed_side side w.state h) (entry_call w.state stream e).answer
    (λ k. (entry_met side v e (judged_met w.state stream (entry_rows side v e) k).rest).own.timely.is_open)
only_takes_lem w h (Mark stream time) =
    let side = side_of stream in
    let v = view side w.state in
    closed_refuses v.own.gate (closed_side side w.state h) (mark_call w.state stream time).answer
    (λ k. (mark_met time v.own (judged_met w.state stream (mark_rows time v.own) k).rest).is_open)
only_takes_lem w h (Close stream) =
    let side = side_of stream in
    let v = view side w.state in
    closed_refuses v.own.gate (closed_side side w.state h) (close_call w.state stream).answer (λ k. close_met v.own (judged_met w.state stream (close_rows v.own) k).rest)
only_takes_lem w h Take = refl

-- what Finished says
finished : (s : State) → (take_call s).answer ≡ Finished → (both_closed s ≡ true) × (waiting_in s ≡ [])
unfolding take_call
finished s h = go (sound s) h
  where
    never_refused : Refused 8 ≡ Finished → ⊥
    never_refused e = let z : ◌≡◌ {A = ℕ} 0 1 = cc in omega arith

    never_waiting : Waiting ≡ Finished → ⊥
    never_waiting e = let z : ◌≡◌ {A = ℕ} 0 1 = cc in omega arith

    never_handed : (p : Pair) → Handed p ≡ Finished → ⊥
    never_handed p e = let z : ◌≡◌ {A = ℕ} 0 1 = cc in omega arith

    empty : (b : Bool) → both_closed s ≡ b → cond b Finished Waiting ≡ Finished → both_closed s ≡ true
    empty true e k = e
    empty false e k = absurd (never_waiting k)

    full : (b : Bool) (p : Pair) → cond b (Handed p) Waiting ≡ Finished → ⊥
    full true p k = never_handed p k
    full false p k = never_waiting k

    looked : (ps : List Pair) → waiting_in s ≡ ps → next_of (ready_in s) (both_closed s) ps ≡ Finished → (both_closed s ≡ true) × (waiting_in s ≡ [])
    looked [] e k = (empty (both_closed s) refl k, e)
    looked (p ∷ ps) e k = absurd (full (ready_in s p) p k)

    go : (b : Bool) → (cond b (take_on s) (record { answer = Refused 8; state = s })).answer ≡ Finished → (both_closed s ≡ true) × (waiting_in s ≡ [])
    go true k = looked (waiting_in s) refl k
    go false k = absurd (never_refused k)

-- ---- of a world that keeps the invariant

module _ (rule : Rule) (w : World) (g : GoodWorld rule w) where
  listed : pairs_of w ≡ plain_of rule w
  unfolding view
  listed = g.listed

  rule_stays_lem : RuleStays rule w
  unfolding view
  rule_stays_lem = g.ruled

  each_instant_lem : EachInstant rule w
  each_instant_lem t = rw listed (plain_at t rule w.of_a w.of_b)

  joins : Joins rule w
  joins e t = rw listed (plain_joins rule t e.a e.b w.of_a w.of_b)

  terms_once_lem : TermsOnce w
  terms_once_lem = (entries_once w.of_a, entries_once w.of_b)

  multiplies : Multiplies rule w
  multiplies x y t = rw listed (plain_multiplies rule t x y w.of_a w.of_b)

  holds_wanted_lem : HoldsWanted w
  unfolding view
  holds_wanted_lem = (g.holds, g.holds_other)

  counts_accepted_lem : CountsAccepted w
  unfolding view
  counts_accepted_lem = (g.counts, g.counts_other)

  -- all that was handed out was ready
  due : All (λ (p : Pair). ready_in w.state p ≡ true) w.out
  unfolding view ready
  due =
      all_map (Due w.state.a.journal.gate w.state.b.journal.gate) (λ (p : Pair). ready_in w.state p ≡ true) (λ p d. rw (d.0, d.1)) w.out g.due

  emptied : waiting_in w.state ≡ [] → w.out ≡ plain_of rule w
  emptied e = sym (append-nil w.out) ∙ ap (λ (ps : List Pair). w.out ++ ps) (sym e) ∙ listed

  -- and a world that it comes to
  module _ (later : World) (k : GoodWorld rule later) (f : Follows w later) where
    first_stretch_lem : FirstStretch rule w later
    unfolding view
    first_stretch_lem =
        (f.longer.0 ++ waiting_in later.state, sym (append_assoc w.out f.longer.0 (waiting_in later.state)) ∙ ap (λ (ps : List Pair). ps ++ waiting_in later.state) f.longer.1 ∙ k.listed)

    below_clocks_lem : BelowClocks rule w later
    unfolding view
    below_clocks_lem =
        let now = ready_in w.state in
        sym (ap (λ (ps : List Pair). ps ++ filter now (waiting_in w.state)) (filter_all now w.out due))
        ∙ sym (filter-append now w.out (waiting_in w.state))
        ∙ sym f.still
        ∙ ap (filter now) k.listed

    no_more_lem : NoMore w later
    unfolding view
    no_more_lem = (
      λ c. entered_closed w.state.a.journal.gate w.of_a later.of_a c f.entered,
      λ c. entered_closed w.state.b.journal.gate w.of_b later.of_b c f.entered_other,
    )

    whole : Whole rule w later
    unfolding view
    whole closed empty =
        emptied empty ∙ ap₂ (λ (a b : List Entry). plain rule a b) (sym (no_more_lem.0 (closed_side A w.state closed))) (sym (no_more_lem.1 (closed_side B w.state closed)))

    finished_whole_lem : FinishedWhole rule w later
    finished_whole_lem h = let f = finished w.state h in whole f.0 f.1

agree : (rule : Rule) (v w : World) → GoodWorld rule v → GoodWorld rule w → Agree v w
agree rule v w g k a b e f = emptied rule v g e ∙ ap₂ (λ (x y : List Entry). plain rule x y) a b ∙ sym (emptied rule w k f)

-- ---- an accepted mark

-- its journal's clock is its time
marked_clock : (s : State) (stream time : ℕ) → (mark_call s stream time).answer ≡ answer.Accepted → (view (side_of stream) (mark_call s stream time).state).own.gate ≡ Open time
unfolding mark_call after_move
marked_clock s stream time h = let side = side_of stream in rw (h, view_state_of side (after_move (Open time) (view side s)))

-- it brings no entry
marked_none : (side : Side) (w : World) (stream time : ℕ) → accepted_of side (step w (Mark stream time)) ≡ accepted_of side w
marked_none A w stream time = append-nil w.of_a
marked_none B w stream time = append-nil w.of_b

mark_promises_lem : (w : World) (more : List Call) (stream time : ℕ) → (mark_call w.state stream time).answer ≡ answer.Accepted → StartsFrom time (side_of stream) w (run w (Mark stream time ∷ more))
mark_promises_lem w more stream time h =
    let side = side_of stream in
    let v = step w (Mark stream time) in
    let (since, (longer, ahead)) = rw (marked_clock w.state stream time h, marked_none side w stream time) at (entered_side side v (run v more) (follows_run v more)) in (
      since,
      (
        longer,
        all_list_all (λ (e : Entry). leb time e.span.start) since
            (all_map (λ (e : Entry). time ≤ e.span.start) (λ (e : Entry). leb time e.span.start ≡ true) (λ e k. le-leb time e.span.start k) since ahead),
      ),
    )

pub demands : (rule : Rule) (calls more : List Call) → Demands rule calls more
demands rule calls more =
    let w = ran rule calls in
    let later = ran rule (calls ++ more) in
    let g = invariant.ran rule (begin rule) calls (began rule) in
    let k = invariant.ran rule (begin rule) (calls ++ more) (began rule) in
    let f : Follows w later = rw (run_append (begin rule) calls more) (follows_run w more) in
    record {
      rule_stays = rule_stays_lem rule w g;
      mark_promises = λ stream time h. rw (run_append (begin rule) calls (Mark stream time ∷ more)) (mark_promises_lem w more stream time h);
      unrefused = run_heeded (begin rule) calls;
      each_instant = each_instant_lem rule w g;
      joins = joins rule w g;
      terms_once = terms_once_lem rule w g;
      multiplies = multiplies rule w g;
      holds_wanted = holds_wanted_lem rule w g;
      counts_accepted = counts_accepted_lem rule w g;
      first_stretch = first_stretch_lem rule w g later k f;
      below_clocks = below_clocks_lem rule w g later k f;
      whole = whole rule w g later k f;
      finished_whole = finished_whole_lem rule w g later k f;
      no_more = no_more_lem rule w g later k f;
      only_takes = only_takes_lem w;
      agrees = λ others. agree rule w (ran rule others) g (invariant.ran rule (begin rule) others (began rule));
    }
