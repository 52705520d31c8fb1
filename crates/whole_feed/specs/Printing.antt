-- What printing a feed into a lent buffer answers, and what it leaves there.
use Rattle.std.specs.Prelude.{ℕ, cond, List, leb, length, Option, Some, None}
use Rattle.lists.specs.Put.{put}
use Rattle.pairing.specs.declared.Rule.{Rule}
use Rattle.steps.specs.Printed.{printed, read_limit}

-- how many bytes of the buffer the text fills, or that the text has more than the buffer
pub data Printing : Type 0 where
  Filled : ℕ → Printing
  TooShort : Printing

-- the answer that an option is
abbrev pub printing_of : Option ℕ → Printing
printing_of (Some size) = Filled size
printing_of None = TooShort

-- the answer, and the buffer after it
pub record Printout : Type 0 where
  pub answer : Printing
  pub buffer : List ℕ

abbrev pub printout : Printing → List ℕ → Printout
printout answer buffer = record { answer = answer; buffer = buffer }

-- a text stands at the buffer's front if it fits; a buffer that is too short holds what it held
unfoldable pub fitted : List ℕ → List ℕ → Printout
fitted text out = cond (leb (length text) (length out)) (printout (Filled (length text)) (put 0 text out)) (printout TooShort out)

-- what is printed of a feed by a rule
abbrev pub printing : Rule → List ℕ → List ℕ → Printout
printing rule feed out = fitted (printed rule read_limit feed) out
