-- How far a step moves: what a loop of steps rests on.
use Prim.Native.Nat.{ℕ, ◌≤◌, ◌<◌}
use native.Mathlib.Omega.{arith}
use mathlib.Core.Bool.{Bool, true, false, cond, ◌||◌, true≢false}
use mathlib.Core.List.{List}
use mathlib.Core.Path.{◌≡◌, refl, sym, subst, ◌∙◌}
use lib.Dec.{leb}
use lib.ListN.{length, length-take, length-drop, length-append}
use borrow.Author.Tests.{leb-true, leb-false}
use Rattle.lists.specs.Put.{put}
use Rattle.feed.specs.Reading.{Reading, Found, Refused, End, reading, shows}
use Rattle.feed.specs.Kind.{shortest_record, longest_record}
use Rattle.feed.proofs.Locality.{long_shows}
use Rattle.feed.proofs.Readings.{found_ends}
use Rattle.framing.specs.Step.{More, On, Ended, Effect, effect_of, waits, done, stepped}
use Rattle.framing.specs.Shown.{shown, tells}
use Rattle.framing.specs.Program.{Deed, Ends, Goes, Program}

pub record Moves {P : Type 0} (left : ℕ) (window : List ℕ) (ended : Bool) (out : List ℕ) (e : Effect P) : Type 0 where
  -- it uses no more than the window has, and than is left
  pub in_window : e.used ≤ length window
  pub in_left : e.used ≤ left
  -- an accepted record is used
  pub on : e.went ≡ On → shortest_record ≤ e.used
  -- only a short window that is not known to be the last waits for more
  pub more : e.went ≡ More → (ended ≡ false) × (length window < longest_record) × (e.used ≡ 0)
  -- what it puts out fits into the buffer that it leaves
  pub fits : length e.buffer ≡ length out → e.filled ≤ length out

-- lines that were put over the front of a buffer without making it longer
put_fits : (lines out : List ℕ) → length (put 0 lines out) ≡ length out → length lines ≤ length out
unfolding put
put_fits lines out e = let long = simp (length-append, length-take, length-drop) at e in omega arith

pub on_is_not_more : {P : Type 0} → On ≡ More → P
on_is_not_more e = absurd (let z : ◌≡◌ {A = ℕ} 0 1 = cc in omega arith)

pub ended_is_not_more : {P : Type 0} → Ended ≡ More → P
ended_is_not_more e = absurd (let z : ◌≡◌ {A = ℕ} 0 1 = cc in omega arith)

pub ended_is_not_on : {P : Type 0} → Ended ≡ On → P
ended_is_not_on e = absurd (let z : ◌≡◌ {A = ℕ} 0 1 = cc in omega arith)

more_is_not_on : {P : Type 0} → More ≡ On → P
more_is_not_on e = absurd (let z : ◌≡◌ {A = ℕ} 0 1 = cc in omega arith)

module _ {P : Type 0} (program : Program P) (p : P) (left : ℕ) (window : List ℕ) (ended : Bool) (out : List ℕ) where
  moves_ends : (next : ℕ) (lines : List ℕ) → Moves left window ended out (effect_of p out next (Ends lines))
  moves_ends next lines = record { in_window = omega arith; in_left = omega arith; on = λ e. ended_is_not_on e; more = λ e. ended_is_not_more e; fits = put_fits lines out }

  moves_deed : (next : ℕ) → (shortest_record ≤ next) × (next ≤ length (shown left window)) → (d : Deed P) → Moves left window ended out (effect_of p out next d)
  moves_deed next h (Ends lines) = moves_ends next lines
  moves_deed next h (Goes lines q) = record {
    in_window = omega (arith, length-take left window);
    in_left = omega (arith, length-take left window);
    on = λ e. h.0;
    more = λ e. on_is_not_more e;
    fits = put_fits lines out;
  }

  moves_done : (r : Reading) → reading (shown left window) 0 ≡ r → Moves left window ended out (done program p out r)
  moves_done (Found found next) e = moves_deed next (found_ends (shown left window) 0 e) (program.on_record p found)
  moves_done (Refused number place) e = moves_ends 0 (program.on_refusal p number)
  moves_done End e = moves_ends 0 (program.on_end p)

  short : tells left window ended ≡ false → (ended ≡ false) × (length window < longest_record)
  unfolding tells
  short e = go ended (leb left (length window)) (leb longest_record (length window)) refl e
    where
      go : (x y z : Bool) → leb longest_record (length window) ≡ z → x || (y || shows window) ≡ false → (x ≡ false) × (length window < longest_record)
      go true y z h f = absurd (true≢false f)
      go false true z h f = absurd (true≢false f)
      go false false true h f = absurd (true≢false (sym (long_shows window (leb-true longest_record (length window) h)) ∙ f))
      go false false false h f = (refl, leb-false longest_record (length window) h)

  moves_stepped : Moves left window ended out (stepped program p left window ended out)
  unfolding stepped
  moves_stepped = go (tells left window ended) refl
    where
      go : (b : Bool) → tells left window ended ≡ b → Moves left window ended out (cond b (done program p out (reading (shown left window) 0)) (waits p out))
      go true e = moves_done (reading (shown left window) 0) refl
      go false e =
          let h = short e in
          record { in_window = omega arith; in_left = omega arith; on = λ f. more_is_not_on f; more = λ f. (h.0, h.1, refl); fits = λ f. omega arith }

  -- whatever equals what a step leaves
  pub moves : (e : Effect P) → e ≡ stepped program p left window ended out → Moves left window ended out e
  moves e same = subst (Moves left window ended out) (sym same) moves_stepped
