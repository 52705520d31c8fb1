-- Demands 2 and 3 and what stays through a run, of any calls with any arguments made of a fresh join with any rule.
use Rattle.std.specs.Prelude.{ℕ, ◌*◌, true, cond, ◌||◌, ◌≡◌, leb, length, filter}
use mathlib.Core.List.{List, [], ◌∷◌, ◌++◌, Perm, IsPrefix}
use Rattle.interval.specs.Interval.{holds_at}
use Rattle.std.specs.List.{list_all}
use Rattle.pairing.specs.declared.Entry.{Entry}
use Rattle.pairing.specs.declared.Pair.{Pair}
use Rattle.pairing.specs.declared.Rule.{Rule}
use Rattle.pairing.specs.declared.Side.{Side}
use Rattle.pairing.specs.declared.Side.TheVariants.{A, B}
use Rattle.pairing.specs.Plain.{numbered_from, plain, couples_at}
use Rattle.journal.specs.Answer.{Accepted}
use Rattle.journal.specs.Journal.{is_closed}
use Rattle.area.specs.Area as area
use Rattle.join.specs.Calls.{Finished, waiting_in, ready_in, ready_of, both_closed, side_of, mark_call, take_call}
use Rattle.join.specs.State.{fresh_state}
use Rattle.demands.specs.History.{Call, Mark, is_take, World, begin, run, refused, heeded}
use Rattle.demands.specs.Stream.{EachOnce, Element, same_element, Couple, couple, same_couple, joined, stream_of, stream_of_pairs, matches}

-- pairs formed: those handed out, then those waiting
abbrev pub pairs_of : World → List Pair
pairs_of w = w.out ++ waiting_in w.state

-- ---- demand 2: at every instant, the pairs handed out or waiting are exactly the matching couples of accepted entries that hold then, with repeats

module _ (rule : Rule) (w : World) where
  abbrev pub EachInstant : Type 0
  EachInstant = (t : ℕ) → Perm (filter (λ (p : Pair). holds_at t p.meeting) (pairs_of w)) (couples_at t rule w.of_a w.of_b)

  -- Source document 000, definition 8.5, multiplies the counts: as a logical stream, the pairs are the join of the two journals.
  abbrev pub Joins : Type 0
  Joins = (e : Couple) (t : ℕ) → (stream_of_pairs (pairs_of w)).count e t ≡ joined (matches rule) couple same_couple (stream_of w.of_a) (stream_of w.of_b) e t

  -- the same with the one term that is left of the sum, as no other two elements give the same couple
  abbrev pub Multiplies : Type 0
  Multiplies = (x y : Element) (t : ℕ) → (stream_of_pairs (pairs_of w)).count (couple x y) t ≡ cond (matches rule x y) ((stream_of w.of_a).count x t * (stream_of w.of_b).count y t) 0

-- the sum has a term for every two elements that hold at an instant, and none twice
abbrev pub TermsOnce : World → Type 0
TermsOnce w = EachOnce same_element (stream_of w.of_a) × EachOnce same_element (stream_of w.of_b)

-- The area of a journal holds exactly its wanted accepted entries, in ordinal order.
abbrev pub HoldsWanted : World → Type 0
HoldsWanted w =
    (area.held w.state.a.area ≡ area.wanted_by w.state.b.journal.gate (numbered_from 0 w.of_a))
    × (area.held w.state.b.area ≡ area.wanted_by w.state.a.journal.gate (numbered_from 0 w.of_b))

-- each journal counts what it has accepted
abbrev pub CountsAccepted : World → Type 0
CountsAccepted w = (w.state.a.journal.accepted ≡ length w.of_a) × (w.state.b.journal.accepted ≡ length w.of_b)

-- ---- demand 3: however the journals interleave, what is handed out is a first stretch of the sorted list of an unlimited join, never a pair too early and none too few

-- what an unlimited join would hand out of all that has been accepted
abbrev pub plain_of : Rule → World → List Pair
plain_of rule w = plain rule w.of_a w.of_b

-- of a moment and any later one
module _ (rule : Rule) (w later : World) where
  abbrev pub FirstStretch : Type 0
  FirstStretch = IsPrefix w.out (plain_of rule later)

  -- what is handed out or ready is exactly what starts below the clock of every open journal; a closed one sets no limit
  abbrev pub BelowClocks : Type 0
  BelowClocks = w.out ++ ready_of w.state ≡ filter (ready_in w.state) (plain_of rule later)

  -- both closed and nothing waiting: the whole list
  abbrev pub Whole : Type 0
  Whole = both_closed w.state ≡ true → waiting_in w.state ≡ [] → w.out ≡ plain_of rule later

  -- a take that answers Finished says so
  abbrev pub FinishedWhole : Type 0
  FinishedWhole = (take_call w.state).answer ≡ Finished → w.out ≡ plain_of rule later

-- Closing promises that none comes: a closed journal accepts no more entries
abbrev pub NoMore : World → World → Type 0
NoMore w later =
    (is_closed w.state.a.journal.gate ≡ true → later.of_a ≡ w.of_a) × (is_closed w.state.b.journal.gate ≡ true → later.of_b ≡ w.of_b)

-- with both closed, every call but a take is refused
abbrev pub OnlyTakes : World → Type 0
OnlyTakes w = both_closed w.state ≡ true → (c : Call) → is_take c || refused w.state c ≡ true

-- two histories with the same accepted entries in each journal and nothing waiting, as when both are closed and emptied, handed out the same list, however they interleaved
abbrev pub Agree : World → World → Type 0
Agree v w = v.of_a ≡ w.of_a → v.of_b ≡ w.of_b → waiting_in v.state ≡ [] → waiting_in w.state ≡ [] → v.out ≡ w.out

-- ---- after any calls, and of any end that the run may come to

abbrev pub ran : Rule → List Call → World
ran rule calls = run (begin rule) calls

-- The rule is chosen when the join is made and never changes.
abbrev pub RuleStays : Rule → World → Type 0
RuleStays rule w = w.state.rule ≡ rule

-- the entries accepted of a journal
abbrev pub accepted_of : Side → World → List Entry
accepted_of A w = w.of_a
accepted_of B w = w.of_b

-- all that a journal has accepted since starts at the time or after it
abbrev pub StartsFrom : ℕ → Side → World → World → Type 0
StartsFrom time side w later =
    (since : List Entry) × ((accepted_of side w ++ since ≡ accepted_of side later) × (list_all (λ (e : Entry). leb time e.span.start) since ≡ true))

-- A mark promises that no later entry of that journal starts before it: one that is accepted after some calls, whatever more calls come after it.
abbrev pub MarkPromises : Rule → List Call → List Call → Type 0
MarkPromises rule calls more =
    (stream time : ℕ) → (mark_call (ran rule calls).state stream time).answer ≡ Accepted → StartsFrom time (side_of stream) (ran rule calls) (ran rule (calls ++ (Mark stream time ∷ more)))

pub record Demands (rule : Rule) (calls more : List Call) : Type 0 where
  pub rule_stays : RuleStays rule (ran rule calls)
  pub mark_promises : MarkPromises rule calls more
  -- a refusal changes nothing
  pub unrefused : ran rule (heeded (fresh_state rule) calls) ≡ ran rule calls
  pub each_instant : EachInstant rule (ran rule calls)
  pub joins : Joins rule (ran rule calls)
  pub terms_once : TermsOnce (ran rule calls)
  pub multiplies : Multiplies rule (ran rule calls)
  pub holds_wanted : HoldsWanted (ran rule calls)
  pub counts_accepted : CountsAccepted (ran rule calls)
  pub first_stretch : FirstStretch rule (ran rule calls) (ran rule (calls ++ more))
  pub below_clocks : BelowClocks rule (ran rule calls) (ran rule (calls ++ more))
  pub whole : Whole rule (ran rule calls) (ran rule (calls ++ more))
  pub finished_whole : FinishedWhole rule (ran rule calls) (ran rule (calls ++ more))
  pub no_more : NoMore (ran rule calls) (ran rule (calls ++ more))
  pub only_takes : OnlyTakes (ran rule calls)
  pub agrees : (others : List Call) → Agree (ran rule calls) (ran rule others)
