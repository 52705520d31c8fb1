-- Whatever windows show a feed, what is put out is what must be printed.
use Rattle.std.specs.Prelude.{ℕ, ◌-◌, ◌<◌, Bool, true, false, cond, ◌&&◌, ◌≡◌, leb, length, take, drop}
use mathlib.Core.List.{List, [], ◌∷◌, ◌++◌, IsPrefix}
use Rattle.std.specs.List.{list_all}
use Rattle.feed.specs.Kind.{longest_record}
use Rattle.feed.specs.Reading.{Reading, reading}
use Rattle.framing.specs.Shown.{shown, tells}
use Rattle.framing.specs.Program.{Deed, Ends, Goes, Program, next_of, deed, printed_by}

-- a window: how many bytes of the input that is left it shows, and whether the program knows that the input ends behind them, if it does
pub record Window : Type 0 where
  pub size : ℕ
  pub knows : Bool

-- what the steps of a run have put out, and whether the last line is among it
pub record Run : Type 0 where
  pub out : List ℕ
  pub finished : Bool

-- what it shows of the input that is left, and whether it is known to end there
abbrev pub bytes_in : Window → List ℕ → List ℕ
bytes_in w input = take w.size input

abbrev pub ends_in : Window → List ℕ → Bool
ends_in w input = w.knows && leb (length input) w.size

-- such windows show any record, so they never show too little
abbrev pub wide : Window → Bool
wide w = leb longest_record w.size && w.knows

-- what is put out by a deed, and by what comes after it at the place of the next record
abbrev pub run_on : {P : Type 0} → (P → ℕ → List ℕ → Run) → ℕ → List ℕ → ℕ → Deed P → Run
run_on after left input next (Ends lines) = record { out = lines; finished = true }
run_on after left input next (Goes lines p) =
    record { out = lines ++ (after p (left - next) (drop next input)).out; finished = (after p (left - next) (drop next input)).finished }

module _ {P : Type 0} (program : Program P) where
  abbrev pub run_at : (P → ℕ → List ℕ → Run) → P → ℕ → List ℕ → Reading → Run
  run_at after p left input r = run_on after left input (next_of r) (deed program p r)

  -- a run that is shown some windows, one after the other
  abbrev pub run_from : List Window → P → ℕ → List ℕ → Run
  run_from [] p left input = record { out = []; finished = false }
  run_from (w ∷ ws) p left input =
      cond (tells left (bytes_in w input) (ends_in w input))
      (run_at (run_from ws) p left input (reading (shown left (bytes_in w input)) 0))
      (run_from ws p left input)

pub record Pieces {P : Type 0} (program : Program P) (begun : P) (limit : ℕ) (input : List ℕ) (ws : List Window) : Type 0 where
  -- what was put out is a first stretch of what must be printed
  pub stretch : IsPrefix (run_from program ws begun limit input).out (printed_by program begun limit input)
  -- and all of it, when the last line is out
  pub all : (run_from program ws begun limit input).finished ≡ true → (run_from program ws begun limit input).out ≡ printed_by program begun limit input
  -- as many wide windows as the input has bytes, and one, bring the last line out
  pub ends : list_all wide ws ≡ true → length input < length ws → (run_from program ws begun limit input).finished ≡ true
