-- The table of kinds: for each its number, its shortest and its longest length, and its fields.
use Rattle.std.specs.Prelude.{ℕ, ◌+◌, ◌^◌, ◌<◌, cond, Option, Some, None, List, [], ◌∷◌, ◌++◌, length, take, drop, eqb}
use Rattle.feed.specs.declared.Feed.{Feed}
use Rattle.feed.specs.declared.Feed.TheVariants.{Input, Output}
use Rattle.feed.specs.declared.Kind.{Kind as Row}
use Rattle.feed.specs.Number.{value, bytes}

-- a row of the table. A field is its width in bytes; the length counts all that follows it, the 2 bytes of the kind and the fields.
pub record Kind : Type 0 where
  pub number : ℕ
  pub shortest : ℕ
  pub longest : ℕ
  pub fields : List ℕ

abbrev u16 : ℕ
u16 = 2

abbrev u32 : ℕ
u32 = 4

-- stream u16, start, end, key, value u32
abbrev pub entry : Kind
entry = record { number = 1; shortest = 20; longest = 20; fields = u16 ∷ u32 ∷ u32 ∷ u32 ∷ u32 ∷ [] }

-- stream u16, time u32
abbrev pub mark : Kind
mark = record { number = 2; shortest = 8; longest = 8; fields = u16 ∷ u32 ∷ [] }

-- stream u16
abbrev pub close : Kind
close = record { number = 3; shortest = 4; longest = 4; fields = u16 ∷ [] }

-- 0 to 64 bytes of text, which are no numbers
abbrev pub note : Kind
note = record { number = 4; shortest = 2; longest = 66; fields = [] }

-- the shortest and the longest record with its two length bytes: a note without text, and one of 64 bytes
abbrev pub shortest_record : ℕ
shortest_record = 2 + note.shortest

abbrev pub longest_record : ℕ
longest_record = 2 + note.longest

-- start, end, A ordinal, B ordinal, A key, B key, A value, B value u32
abbrev pub pair : Kind
pair = record { number = 257; shortest = 34; longest = 34; fields = u32 ∷ u32 ∷ u32 ∷ u32 ∷ u32 ∷ u32 ∷ u32 ∷ u32 ∷ [] }

-- An input feed knows kinds 1 to 4, an output feed only 257.
abbrev pub kinds_of : Feed → List Kind
kinds_of Input = entry ∷ mark ∷ close ∷ note ∷ []
kinds_of Output = pair ∷ []

-- the lengths that records of a kind have, if the feed knows it
pub data Lengths : Type 0 where
  Unknown : Lengths
  Within : ℕ → ℕ → Lengths

-- those of the row of the table that was found
abbrev pub lengths_seen : Option Row → Lengths
lengths_seen (Some r) = Within r.shortest r.longest
lengths_seen None = Unknown

-- the lengths that a kind may have, if it is among these
abbrev pub lengths_among : List Kind → ℕ → Lengths
lengths_among [] number = Unknown
lengths_among (kind ∷ kinds) number = cond (eqb number kind.number) (Within kind.shortest kind.longest) (lengths_among kinds number)

unfoldable pub lengths_of : Feed → ℕ → Lengths
lengths_of feed number = lengths_among (kinds_of feed) number

-- 2 bytes of length (all that follows it), 2 bytes of kind, then the fields.
abbrev pub framed : ℕ → List ℕ → List ℕ
framed kind fields = bytes 2 (2 + length fields) ++ bytes 2 kind ++ fields

-- numbers in fields of these widths, one after the other
abbrev pub packed : List ℕ → List ℕ → List ℕ
packed [] numbers = []
packed (width ∷ widths) [] = []
packed (width ∷ widths) (number ∷ numbers) = bytes width number ++ packed widths numbers

-- each number has room in its field
abbrev pub Room : List ℕ → List ℕ → Type 0
Room [] [] = Unit {0}
Room [] (number ∷ numbers) = ⊥
Room (width ∷ widths) [] = ⊥
Room (width ∷ widths) (number ∷ numbers) = (number < 256 ^ width) × Room widths numbers

-- the numbers in the fields at the front of some bytes
abbrev pub unpacked : List ℕ → List ℕ → List ℕ
unpacked [] bs = []
unpacked (width ∷ widths) bs = value (take width bs) ∷ unpacked widths (drop width bs)

-- the numbers in the fields of a record of a kind that stands first in some bytes, behind its length and its kind
abbrev pub fields_in : Kind → List ℕ → List ℕ
fields_in kind bs = unpacked kind.fields (drop 4 bs)
