-- The text of a note is handed back as the very stretch of the feed it occupies; for anything but a note that stretch is empty.
use Rattle.std.specs.Prelude.{ℕ, ◌+◌, List, [], ◌≡◌, take, drop}
use Rattle.std.specs.Borrow.{Bor}
use Rattle.feed.specs.declared.Record.{Record}
use Rattle.feed.specs.declared.Record.TheVariants.{Entry as entry_record, Mark, Close, Note}
use Rattle.feed.specs.Reading.{Reading, Found, Refused, End, reading}

-- the place where the text of a record at a place starts, and how many bytes it has
abbrev pub text_of : ℕ → Record → ℕ × ℕ
text_of at (entry_record stream e) = (0, 0)
text_of at (Mark stream time) = (0, 0)
text_of at (Close stream) = (0, 0)
text_of at (Note size) = (at + 4, size)

abbrev pub text_in : ℕ → Reading → ℕ × ℕ
text_in at (Found found next) = text_of at found
text_in at (Refused number place) = (0, 0)
text_in at End = (0, 0)

-- the place and the size of the text at a place of an input feed
unfoldable pub text_at : List ℕ → ℕ → ℕ × ℕ
text_at s at = text_in at (reading s at)

-- the bytes of a stretch
abbrev pub stretch : List ℕ → ℕ × ℕ → List ℕ
stretch s part = take part.1 (drop part.0 s)

-- part is that very stretch of s: it points to its place in s, and holds its bytes
abbrev pub IsStretch : Bor (List ℕ) → ℕ × ℕ → Bor (List ℕ) → Type 0
IsStretch s place part = (part.ref_ptr ≡ (s.ref_ptr.0, place.0 + s.ref_ptr.1)) × (part.now ≡ stretch s.now place)

-- ---- a record with its text

-- the bytes of the text at a place of an input feed
abbrev pub text_bytes : List ℕ → ℕ → List ℕ
text_bytes s at = stretch s (text_at s at)

-- the text that a record carries of one that is given with it: a note all of it, anything but a note none
abbrev pub carried : Record → List ℕ → List ℕ
carried (entry_record stream e) text = []
carried (Mark stream time) text = []
carried (Close stream) text = []
carried (Note size) text = text

-- what is read at a place: this record with the place of the next, and the text that it carries
pub record ReadsAs (s : List ℕ) (at : ℕ) (r : Record) (text : List ℕ) (next : ℕ) : Type 0 where
  pub found : reading s at ≡ Found r next
  pub text_found : text_bytes s at ≡ carried r text
