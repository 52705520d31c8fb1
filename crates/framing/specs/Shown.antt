-- What a window shows of a feed.
use Rattle.std.specs.Prelude.{ℕ, Bool, ◌||◌, List, leb, length, take}
use Rattle.feed.specs.Reading.{shows}

-- what a window shows of a feed of which so many bytes may still be read
abbrev pub shown : ℕ → List ℕ → List ℕ
shown left window = take left window

-- It shows all that is left, as the input ends behind it or the limit stands in it; or all of the record that stands first in it. With less, a record may go on behind it.
unfoldable pub tells : ℕ → List ℕ → Bool → Bool
tells left window ended = ended || (leb left (length window) || shows window)
