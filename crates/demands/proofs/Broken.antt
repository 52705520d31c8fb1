-- Broken joins that demands 2 and 3 shut out: each is what an accepted entry leaves, or what a take hands out, changed in one way, and a few calls after which the statement is false.
use Prim.Native.Nat.{ℕ, ◌+◌}
use native.Mathlib.Omega.{arith}
use mathlib.Core.Bool.{Bool, cond, ◌&&◌}
use mathlib.Core.List.Perm
use mathlib.Core.List.{List, [], ◌∷◌, ◌++◌, flat_map}
use mathlib.Core.Path.{◌≡◌, refl, sym, ap}
use lib.Dec.{eqb}
use lib.ListN.{length, take}
use Rattle.interval.specs.Interval.{proper_of, holds_at, meeting_of}
use Rattle.std.specs.Prelude.{filter}
use Rattle.lists.specs.Sort.{insert_all_by, ascending, neither}
use Rattle.lists.specs.Store.{pad_to}
use Rattle.lists.proofs.Filter.{filter_perm}
use Rattle.pairing.specs.declared.Entry.{Entry}
use Rattle.pairing.specs.declared.Numbered.{Numbered}
use Rattle.pairing.specs.declared.Pair.{Pair}
use Rattle.pairing.specs.declared.Rule.TheVariants.{Equal}
use Rattle.pairing.specs.declared.Side.{Side}
use Rattle.pairing.specs.declared.Side.TheVariants.{A, B}
use Rattle.pairing.specs.Pair.{pairs, partner_of, pair_of, comes_before}
use Rattle.pairing.specs.Plain.{couple_that, couples_that, plain, match_at, couples_at}
use Rattle.pairing.specs.Rule.{allows, fits}
use Rattle.pairing.specs.Side.{new_pairs}
use Rattle.pairing.specs.Numbers.{pair_numbers}
use Rattle.journal.specs.declared.Gate.TheVariants.{Open}
use Rattle.journal.specs.Journal.{wanted, own_rows}
use Rattle.area.specs.Area.{entry_numbers, sound_area, wanted_by}
use Rattle.queue.specs.Queue.{sound_queue}
use Rattle.halves.specs.View.{View}
use Rattle.halves.specs.Calls.{arrival, key_rows, room_for, entry_rows, after_entry}
use Rattle.join.specs.State.{view, state_of, sound, fresh_state}
use Rattle.join.specs.Calls.{entry_call, waiting_in, without}
use Rattle.demands.specs.Demands.{pairs_of, EachInstant, CountsAccepted, FirstStretch, ran}
use Rattle.demands.specs.History.{Enter, of_side, World, begin}

-- ---- a world with another join in it

-- what an accepted entry of a side leaves
abbrev pub Leaves : Type 0
Leaves = Side → View → Entry → View

abbrev pub entering : Leaves → Side → Entry → World → World
entering leaves side e w = record {
  state = state_of side (leaves side (view side w.state) e);
  of_a = w.of_a ++ of_side A side e;
  of_b = w.of_b ++ of_side B side e;
  out = w.out;
}

abbrev pub with_mine : List Numbered → View → View
with_mine mine v = record { rule = v.rule; own = v.own; other = v.other; mine = mine; others = v.others; waiting = v.waiting }

abbrev pub with_waiting : List Pair → View → View
with_waiting waiting v = record { rule = v.rule; own = v.own; other = v.other; mine = v.mine; others = v.others; waiting = waiting }

abbrev pub spanning : ℕ → ℕ → Entry
spanning start end = record { span = record { start = start; end = end }; key = 1; value = 0 }

-- with the join's own, it is the world of the calls
pub entering_own : entering after_entry B (spanning 0 9) (entering after_entry A (spanning 0 9) (begin Equal)) ≡ ran Equal (Enter 0 (spanning 0 9) ∷ Enter 1 (spanning 0 9) ∷ [])
unfolding flat_map proper_of meeting_of ascending neither pad_to pairs partner_of pair_of comes_before couple_that couples_that allows fits entry_numbers sound_area pair_numbers sound_queue view state_of sound fresh_state own_rows key_rows room_for entry_rows after_entry entry_call
entering_own = refl

-- ---- what refutes the statement: a pair of these two ordinals is nowhere, and should hold at t

abbrev of : ℕ → ℕ → Pair → Bool
of i j p = eqb p.a.ordinal i && eqb p.b.ordinal j

lacks : (w : World) (t i j : ℕ) → filter (of i j) (filter (λ (p : Pair). holds_at t p.meeting) (pairs_of w)) ≡ [] → EachInstant Equal w → 0 ≡ length (filter (of i j) (couples_at t Equal w.of_a w.of_b))
lacks w t i j e h =
    ap length (Perm.nil-eq (rw e at (filter_perm (of i j) (filter (λ (p : Pair). holds_at t p.meeting) (pairs_of w)) (couples_at t Equal w.of_a w.of_b) (h t))))

never : ◌≡◌ {A = ℕ} 0 1 → ⊥
never e = omega arith

-- ---- one that accepts and holds nothing

abbrev pub holds_nothing : Leaves
holds_nothing side v e = with_mine [] (after_entry side v e)

abbrev pub after_nothing : World
after_nothing = entering holds_nothing B (spanning 0 9) (entering holds_nothing A (spanning 0 9) (begin Equal))

-- ---- one that pairs only the first entries

abbrev pub pairs_first : Leaves
pairs_first side v e = with_waiting (insert_all_by comes_before (new_pairs v.rule side (arrival v e) (take 1 v.others)) v.waiting) (after_entry side v e)

abbrev pub after_first : World
after_first = entering pairs_first B (spanning 0 9) (entering pairs_first A (spanning 0 9) (entering pairs_first A (spanning 0 9) (begin Equal)))

-- ---- made-up ordinals, and made-up counts

abbrev pub made_up : Leaves
made_up side v e =
    let x : Numbered = record { entry = e; ordinal = v.own.accepted + 1 } in
    with_mine (v.mine ++ wanted_by v.other.gate (x ∷ [])) (with_waiting (insert_all_by comes_before (new_pairs v.rule side x v.others) v.waiting) (after_entry side v e))

abbrev pub after_made_up : World
after_made_up = entering made_up B (spanning 0 9) (entering made_up A (spanning 0 9) (begin Equal))

abbrev pub counts_none : Leaves
counts_none side v e =
    let left = after_entry side v e in
    record { rule = left.rule; own = record { gate = left.own.gate; accepted = v.own.accepted }; other = left.other; mine = left.mine; others = left.others; waiting = left.waiting }

abbrev pub after_counting : World
after_counting = entering counts_none A (spanning 0 9) (begin Equal)

-- ---- errors that look right

-- clearing an area by its own journal's clock
abbrev pub clears_own : Leaves
clears_own side v e = with_mine (wanted_by (Open e.span.start) (after_entry side v e).mine) (after_entry side v e)

abbrev pub after_clearing : World
after_clearing = entering clears_own B (spanning 0 9) (entering clears_own A (spanning 6 8) (entering clears_own A (spanning 0 5) (begin Equal)))

-- throwing away an entry that is not wanted before pairing it
abbrev pub throws_away : Leaves
throws_away side v e = with_waiting (cond (wanted v.other.gate e) (after_entry side v e).waiting v.waiting) (after_entry side v e)

abbrev pub after_throwing : World
after_throwing = entering throws_away A (spanning 3 5) (entering throws_away B (spanning 10 20) (entering throws_away B (spanning 2 20) (begin Equal)))

-- handing out at start equal to the earlier clock: an entry may still come that sorts before it
abbrev pub keyed : ℕ → Entry
keyed key = record { span = record { start = 0; end = 9 }; key = key; value = 0 }

abbrev pub taking_early : World → World
taking_early w = record { state = without 1 w.state; of_a = w.of_a; of_b = w.of_b; out = w.out ++ take 1 (waiting_in w.state) }

abbrev pub after_early : World
after_early = taking_early (ran Equal (Enter 0 (keyed 2) ∷ Enter 0 (keyed 1) ∷ Enter 1 (keyed 1) ∷ []))

abbrev first_ordinal : List Pair → ℕ
first_ordinal [] = 0
first_ordinal (p ∷ ps) = p.a.ordinal

-- ---- none of them meets the demands

pub record Broken : Type 0 where
  pub holds_nothing_lem : EachInstant Equal after_nothing → ⊥
  pub pairs_first_lem : EachInstant Equal after_first → ⊥
  pub made_up_ordinals : EachInstant Equal after_made_up → ⊥
  pub made_up_counts : CountsAccepted after_counting → ⊥
  pub clears_own_lem : EachInstant Equal after_clearing → ⊥
  pub throws_away_lem : EachInstant Equal after_throwing → ⊥
  pub hands_early : FirstStretch Equal after_early (entering after_entry B (keyed 2) after_early) → ⊥

pub broken : Broken
unfolding flat_map proper_of holds_at meeting_of ascending neither pad_to pairs partner_of pair_of comes_before couple_that couples_that plain match_at couples_at allows fits entry_numbers sound_area pair_numbers sound_queue view state_of sound fresh_state own_rows key_rows room_for entry_rows after_entry entry_call without
broken = record {
  holds_nothing_lem = λ h. never (lacks after_nothing 0 0 0 refl h);
  pairs_first_lem = λ h. never (lacks after_first 0 1 0 refl h);
  made_up_ordinals = λ h. never (lacks after_made_up 0 0 0 refl h);
  made_up_counts = λ h. never h.0;
  clears_own_lem = λ h. never (lacks after_clearing 0 0 0 refl h);
  throws_away_lem = λ h. never (lacks after_throwing 3 0 0 refl h);
  hands_early = λ h. never (sym (ap first_ordinal h.1));
}
