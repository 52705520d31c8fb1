-- How far a program is with its input and what it prints, and how a step and a read move it.
use Rattle.std.specs.Prelude.{ℕ, ◌+◌, ◌-◌, ◌≤◌, ◌<◌, true, false, cond, ◌⊎◌, ◌≡◌, ltb, List, [], ◌∷◌, ◌++◌, length, take, Bool, ◌==◌, codes}
use Rattle.std.specs.Fmt.{decimal}
use Rattle.pipe.specs.declared.Flow.{Flow}

-- what it keeps, with a window of so many bytes
pub record Flowing (flow : Flow) (window : ℕ) : Type 0 where
  -- what is not used stands in the window
  pub order : flow.at ≤ flow.end
  pub in_window : flow.end ≤ window
  -- no byte beyond the limit is among it
  pub in_limit : flow.end - flow.at ≤ flow.left
  pub counted : flow.left ≤ flow.limit

-- nothing read, nothing put out
abbrev pub begun : ℕ → Flow
begun limit = record { limit = limit; left = limit; at = 0; end = 0; ended = false; filled = 0 }

-- what stays in a buffer of so many bytes that is written when it lacks room
abbrev pub unwritten : ℕ → ℕ → ℕ → ℕ
unwritten out room filled = cond (ltb (out - filled) room) 0 filled

-- and what of such a buffer is written
abbrev pub written_bytes : List ℕ → ℕ → ℕ → List ℕ
written_bytes out room filled = cond (ltb (length out - filled) room) (take filled out) []

-- after a step that used and put out so many bytes
abbrev pub gone : ℕ → ℕ → Flow → ℕ → ℕ → Flow
gone out room flow used filled =
    record { limit = flow.limit; left = flow.left - used; at = flow.at + used; end = flow.end; ended = flow.ended; filled = unwritten out room (flow.filled + filled) }

-- after a read behind what is not used, with a window of so many bytes; how many bytes it brings is not determined
pub record Refilled (flow : Flow) (window : ℕ) (next : Flow) : Type 0 where
  pub flowing : Flowing next window
  pub limit : next.limit ≡ flow.limit
  pub left : next.left ≡ flow.left
  pub front : next.at ≡ 0
  -- a read that brings nothing is the last
  pub more : (next.ended ≡ true) ⊎ (flow.end - flow.at < next.end)
  pub written : next.filled ≡ 0

-- the last line of a feed that ended in `done`, and no line, need no telling
abbrev pub needs_no_telling : List ℕ → Bool
needs_no_telling [] = true
needs_no_telling (letter ∷ others) = letter == 100

-- where a feed stopped, for standard error: the number of the record that comes next, the byte at which it begins, and the last line again
abbrev pub told : ℕ → ℕ → List ℕ → List ℕ
told records byte last =
    cond (needs_no_telling last) [] (codes "record " ++ (decimal (records + 1) ++ (codes " byte " ++ (decimal byte ++ (codes ": " ++ last)))))
