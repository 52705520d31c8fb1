-- What a sound state is known to have, and what a judged call that is accepted is known to meet.
use Prim.Native.Nat.{ℕ, ◌≤◌}
use mathlib.Core.Bool.{true}
use mathlib.Core.List.{List, ◌++◌}
use mathlib.Core.Path.{◌≡◌}
use lib.Dec.{leb}
use borrow.Author.Tests.{ltb-false, not-false}
use Rattle.lists.specs.Check.{Check}
use Rattle.lists.proofs.Bools.{and_left, and_right}
use Rattle.journal.specs.Answer.{Accepted, first_of}
use Rattle.journal.specs.Journal.{entries}
use Rattle.journal.proofs.Rows.{accepted_rows, accepted_both}
use Rattle.area.specs.Area as area
use Rattle.queue.specs.Queue as queue
use Rattle.join.specs.State.{State, sound}
use Rattle.join.specs.Calls.{judge_rows}

-- what the judge passes, part by part
pub record Parts (s : State) : Type 0 where
  pub count_a : leb s.a.journal.accepted entries ≡ true
  pub count_b : leb s.b.journal.accepted entries ≡ true
  pub area_a : area.sound_area s.rule s.a.journal s.b.journal.gate s.a.area ≡ true
  pub area_b : area.sound_area s.rule s.b.journal s.a.journal.gate s.b.area ≡ true
  pub waits : queue.sound_queue s.a.journal.accepted s.b.journal.accepted s.queue ≡ true

pub sound_parts : (s : State) → sound s ≡ true → Parts s
unfolding sound
sound_parts s h =
    let e1 = and_right (leb s.a.journal.accepted entries) _ h in
    let e2 = and_right (leb s.b.journal.accepted entries) _ e1 in
    let e3 = and_right (area.sound_area s.rule s.a.journal s.b.journal.gate s.a.area) _ e2 in
    record {
      count_a = and_left (leb s.a.journal.accepted entries) _ h;
      count_b = and_left (leb s.b.journal.accepted entries) _ e1;
      area_a = and_left (area.sound_area s.rule s.a.journal s.b.journal.gate s.a.area) _ e2;
      area_b = and_left (area.sound_area s.rule s.b.journal s.a.journal.gate s.b.area) _ e3;
      waits = and_right (area.sound_area s.rule s.b.journal s.a.journal.gate s.b.area) _ e3;
    }

-- a state that has them all passes the judge
pub parts_sound : (s : State) → Parts s → sound s ≡ true
unfolding sound
parts_sound s p = rw (p.count_a, p.count_b, p.area_a, p.area_b) p.waits

-- a call that the judge lets through, and then its own rows
pub record Judged (s : State) (stream : ℕ) (rows : List Check) : Type 0 where
  pub is_sound : sound s ≡ true
  pub known : stream ≤ 1
  pub rest : first_of rows ≡ Accepted

pub judged_met : (s : State) (stream : ℕ) (rows : List Check) → first_of (judge_rows s stream ++ rows) ≡ Accepted → Judged s stream rows
judged_met s stream rows h =
    let both = accepted_both (judge_rows s stream) rows h in
    let (unsound, (neither, none)) = accepted_rows (judge_rows s stream) both.first in
    record { is_sound = not-false (sound s) unsound; known = ltb-false 1 stream neither; rest = both.then }
