-- Whatever windows show a feed, what is put out is what must be printed.
use Prim.Native.Nat.{ℕ, zero, suc, ◌-◌, ◌≤◌, ◌<◌}
use native.Mathlib.Omega.{arith}
use mathlib.Core.Bool.{Bool, true, false, cond, ◌&&◌, ◌||◌, and-false, or-true, false≢true}
use mathlib.Core.List.{List, [], ◌∷◌, ◌++◌, append_assoc, append-nil, IsPrefix}
use mathlib.Core.Path.{◌≡◌, refl, sym, ap, ◌∙◌}
use lib.Dec.{leb}
use lib.ListN.{length, take, drop, length-take, length-drop}
use lib.Seq.{take_all, take-take, take-length, length-take-le}
use borrow.Author.Tests.{leb-true, leb-false}
use Rattle.std.specs.List.{list_all}
use Rattle.lists.proofs.Bools.{and_left, and_right}
use Rattle.feed.specs.Reading.{Reading, Found, Refused, End, shows, reading, reading_from}
use Rattle.feed.specs.Kind.{shortest_record, longest_record}
use Rattle.feed.proofs.Fields.{drop_first}
use Rattle.feed.proofs.Locality.{shows_elim, long_shows, reading_shown}
use Rattle.feed.proofs.Readings.{found_ends}
use Rattle.framing.specs.Shown.{shown, tells}
use Rattle.framing.specs.Program.{Deed, Ends, Goes, Program, next_of, deed, continued, printed_from, printed_by}
use Rattle.framing.specs.Windows.{Window, Run, bytes_in, ends_in, wide, run_on, run_at, run_from, Pieces}

-- ---- a window that tells shows the record that stands first in what is left of the feed

or_elim : {P : Type 0} (x y : Bool) → x || y ≡ true → (x ≡ true → P) → (y ≡ true → P) → P
or_elim true y e f g = f refl
or_elim false y e f g = g e

module _ (left : ℕ) (w : Window) (input : List ℕ) where
  abbrev bs : List ℕ
  bs = bytes_in w input

  -- it shows all that is left
  all_left : left ≤ length bs → shown left bs ≡ take left input
  all_left few = take-take left w.size input (omega (arith, length-take w.size input))

  -- it shows the record's own bytes
  own_bytes : shows bs ≡ true → length bs ≤ left → reading (shown left bs) 0 ≡ reading (take left input) 0
  unfolding reading
  own_bytes h few =
      let n = length bs in
      let first : take n (take left input) ≡ bs = take-take n left input few ∙ sym (take-take n w.size input (omega (arith, length-take w.size input))) ∙ take-length bs in
      ap (reading_from 0) (take_all left bs few ∙ sym first) ∙ reading_shown n (take left input) (shows_elim (take n (take left input)) (ap shows first ∙ h)) 0

  pub shows_first : tells left bs (ends_in w input) ≡ true → reading (shown left bs) 0 ≡ reading (take left input) 0
  unfolding tells
  shows_first e =
      or_elim (ends_in w input) (leb left (length bs) || shows bs) e
      (λ ended. ap (λ (l : List ℕ). reading (take left l) 0) (take_all w.size input (leb-true (length input) w.size (and_right w.knows _ ended))))
      (λ more. go (leb left (length bs)) refl more)
    where
      go : (b : Bool) → leb left (length bs) ≡ b → b || shows bs ≡ true → reading (shown left bs) 0 ≡ reading (take left input) 0
      go true h more = ap (λ (l : List ℕ). reading l 0) (all_left (leb-true left (length bs) h))
      go false h more = own_bytes more (let few = leb-false left (length bs) h in omega arith)

-- ---- the pieces of a run

-- what was put out is a first stretch of a text, and all of it when the last line is out
record GoesWith (r : Run) (text : List ℕ) : Type 0 where
  stretch : IsPrefix r.out text
  all : r.finished ≡ true → r.out ≡ text

behind : (lines : List ℕ) (r : Run) (text : List ℕ) → GoesWith r text → GoesWith (record { out = lines ++ r.out; finished = r.finished }) (lines ++ text)
behind lines r text h = record {
  stretch = (h.stretch.0, append_assoc lines r.out h.stretch.0 ∙ ap (λ (l : List ℕ). lines ++ l) h.stretch.1);
  all = λ e. ap (λ (l : List ℕ). lines ++ l) (h.all e);
}

module _ {P : Type 0} (program : Program P) where
  -- what is printed at a reading, and by what comes after it
  abbrev printed_at : ℕ → P → List ℕ → Reading → List ℕ
  printed_at n p rest r = continued (printed_from program n) rest (next_of r) (deed program p r)

  -- what comes after a deed goes with what must be printed after it, if it does so for any shorter rest of the feed
  module _ (ws : List Window) (n : ℕ) (again : (q : P) (left : ℕ) (input : List ℕ) → length (take left input) < n → GoesWith (run_from program ws q left input) (printed_from program n q (take left input))) where
    module _ (left : ℕ) (input : List ℕ) (few : length (take left input) < suc n) where
      ends_with : (next : ℕ) (lines : List ℕ) → GoesWith (run_on (run_from program ws) left input next (Ends lines)) (continued (printed_from program n) (take left input) next (Ends lines))
      ends_with next lines = record { stretch = ([], append-nil lines); all = λ e. refl }

      with_deed : (next : ℕ) → (shortest_record ≤ next) × (next ≤ length (take left input)) → (d : Deed P)
          → GoesWith (run_on (run_from program ws) left input next d) (continued (printed_from program n) (take left input) next d)
      with_deed next h (Ends lines) = ends_with next lines
      with_deed next h (Goes lines q) =
          let within : next ≤ left = omega (arith, length-take left input) in
          let e = drop_first next left input within in
          let fewer : length (take (left - next) (drop next input)) < n = rw (sym e) (simp length-drop (omega arith)) in
          behind lines (run_from program ws q (left - next) (drop next input)) (printed_from program n q (drop next (take left input))) (rw e (again q (left - next) (drop next input) fewer))

      with_reading : (p : P) (r : Reading) → reading (take left input) 0 ≡ r → GoesWith (run_at program (run_from program ws) p left input r) (printed_at n p (take left input) r)
      with_reading p (Found found next) e = with_deed next (found_ends (take left input) 0 e) (program.on_record p found)
      with_reading p (Refused number place) e = ends_with 0 (program.on_refusal p number)
      with_reading p End e = ends_with 0 (program.on_end p)

  run_goes : (ws : List Window) (n : ℕ) (p : P) (left : ℕ) (input : List ℕ) → length (take left input) < n → GoesWith (run_from program ws p left input) (printed_from program n p (take left input))
  run_goes [] n p left input few = record { stretch = (_, refl); all = λ e. absurd (false≢true e) }
  run_goes (w ∷ ws) zero p left input few = absurd (let none : length (take left input) < 0 = few in omega arith)
  run_goes (w ∷ ws) (suc n) p left input few = go (tells left (bytes_in w input) (ends_in w input)) refl (with_reading ws n (run_goes ws n) left input few p (reading (take left input) 0) refl) (run_goes ws (suc n) p left input few)
    where
      go : (b : Bool) → tells left (bytes_in w input) (ends_in w input) ≡ b
          → GoesWith (run_at program (run_from program ws) p left input (reading (take left input) 0)) (printed_at n p (take left input) (reading (take left input) 0))
          → GoesWith (run_from program ws p left input) (printed_at n p (take left input) (reading (take left input) 0))
          → GoesWith (cond b (run_at program (run_from program ws) p left input (reading (shown left (bytes_in w input)) 0)) (run_from program ws p left input)) (printed_at n p (take left input) (reading (take left input) 0))
      go true e told waits = rw (shows_first left w input e) told
      go false e told waits = waits

-- ---- wide windows bring the last line out

module _ (left : ℕ) (w : Window) (input : List ℕ) where
  wide_tells : wide w ≡ true → tells left (bytes_in w input) (ends_in w input) ≡ true
  unfolding tells
  wide_tells e = go (leb (length input) w.size) refl
    where
      long : longest_record ≤ w.size
      long = leb-true longest_record w.size (and_left (leb longest_record w.size) w.knows e)

      go : (b : Bool) → leb (length input) w.size ≡ b → (w.knows && b) || (leb left (length (take w.size input)) || shows (take w.size input)) ≡ true
      go true h = rw (and_right (leb longest_record w.size) w.knows e)
      go false h =
          let more = leb-false (length input) w.size h in
          let full : length (take w.size input) ≡ w.size = length-take-le w.size input (omega arith) in
          rw (and-false w.knows, long_shows (take w.size input) (omega (arith, long))) (or-true (leb left (length (take w.size input))))

module _ {P : Type 0} (program : Program P) where
  -- each uses a record, and a record has a byte
  module _ (ws : List Window) (again : list_all wide ws ≡ true → (q : P) (left : ℕ) (input : List ℕ) → length (take left input) < length ws → (run_from program ws q left input).finished ≡ true) where
    reading_ends : list_all wide ws ≡ true → (p : P) (left : ℕ) (input : List ℕ) → length (take left input) < suc (length ws) → (r : Reading) → reading (take left input) 0 ≡ r
        → (run_at program (run_from program ws) p left input r).finished ≡ true
    reading_ends e p left input few (Found found next) at = go (program.on_record p found)
      where
        go : (d : Deed P) → (run_on (run_from program ws) left input next d).finished ≡ true
        go (Ends lines) = refl
        go (Goes lines q) =
            let h = found_ends (take left input) 0 at in
            let within : next ≤ left = omega (arith, length-take left input) in
            again e q (left - next) (drop next input) (rw (sym (drop_first next left input within)) (simp length-drop (omega arith)))
    reading_ends e p left input few (Refused number place) at = refl
    reading_ends e p left input few End at = refl

  run_ends : (ws : List Window) → list_all wide ws ≡ true → (p : P) (left : ℕ) (input : List ℕ) → length (take left input) < length ws → (run_from program ws p left input).finished ≡ true
  run_ends [] e p left input few = absurd (let none : length (take left input) < 0 = few in omega arith)
  run_ends (w ∷ ws) e p left input few =
      let tells_all = wide_tells left w input (and_left (wide w) (list_all wide ws) e) in
      rw (tells_all, shows_first left w input tells_all) (reading_ends ws (run_ends ws) (and_right (wide w) (list_all wide ws) e) p left input few (reading (take left input) 0) refl)

  -- For every program, feed and limit, and any windows.
  pub pieces : (begun : P) (limit : ℕ) (input : List ℕ) (ws : List Window) → Pieces program begun limit input ws
  unfolding printed_by
  pieces begun limit input ws =
      let goes = run_goes program ws (suc (length (take limit input))) begun limit input (omega arith) in
      record { stretch = goes.stretch; all = goes.all; ends = λ e few. run_ends ws e begun limit input (omega (arith, length-take limit input)) }
