-- The area of a journal: up to 64 held entries with their ordinals. The count and the places are the area itself.
use Rattle.std.specs.Prelude.{ℕ, Bool, ◌&&◌, List, [], ◌∷◌, ltb, leb, length, take, drop, filter}
use Rattle.std.specs.List.{list_all}
use Rattle.interval.specs.Interval.{proper_of}
use Rattle.lists.specs.Judge.{chain}
use Rattle.lists.specs.Store.{pad_to, is_blank, Stores}
use Rattle.pairing.specs.declared.Entry.{Entry}
use Rattle.pairing.specs.declared.Numbered.{Numbered}
use Rattle.pairing.specs.declared.Rule.{Rule}
use Rattle.pairing.specs.Pair.{pairs}
use Rattle.pairing.specs.Rule.{allows}
use Rattle.journal.specs.declared.Gate.{Gate}
use Rattle.journal.specs.declared.Journal.{Journal}
use Rattle.journal.specs.Journal.{wanted, not_past}
use Rattle.area.specs.declared.Area.{Area}

-- the numbers of a place: start, end, key, value and ordinal
unfoldable pub entry_numbers : Numbered → List ℕ
entry_numbers x = x.entry.span.start ∷ x.entry.span.end ∷ x.entry.key ∷ x.entry.value ∷ x.ordinal ∷ []

-- Limits: 64 held entries an area.
abbrev pub most : ℕ
most = 64

-- how many places an area has: one for each entry that it may hold
abbrev pub places : ℕ
places = most

-- what an area holds, in the order of its places
abbrev pub held : Area → List Numbered
held area = take area.count area.places

-- zeros, where no entry is held
abbrev pub no_entry : Numbered
no_entry = record { entry = record { span = record { start = 0; end = 0 }; key = 0; value = 0 }; ordinal = 0 }

-- the one area that holds some entries. Places beyond the count hold zeros.
abbrev pub area_of : List Numbered → Area
area_of xs = record { count = length xs; places = pad_to places no_entry xs }

abbrev pub Holds : Area → Type 0
Holds area = Stores no_entry places area.count area.places

-- the entries that pair with e, whichever journal it is of: to pair is the same either way round
abbrev pub partners : Rule → Entry → List Numbered → List Numbered
partners rule e xs = filter (λ (x : Numbered). pairs rule e x.entry) xs

-- the entries that a gate of the other journal wants
abbrev pub wanted_by : Gate → List Numbered → List Numbered
wanted_by gate xs = filter (λ (x : Numbered). wanted gate x.entry) xs

-- Held entries are proper, wanted, with ordinals below the journal's count and starts that, if their journal is open, do not pass its clock. Under near none has a key of 36,000 or more.
abbrev pub sound_entry : Rule → Journal → Gate → Numbered → Bool
sound_entry rule own other x =
    proper_of x.entry.span && (wanted other x.entry && (ltb x.ordinal own.accepted && (not_past own.gate x.entry.span.start && allows rule x.entry.key)))

-- in strictly ascending ordinals, with starts that never fall
abbrev pub follows : Numbered → Numbered → Bool
follows x y = ltb x.ordinal y.ordinal && leb x.entry.span.start y.entry.span.start

-- a spare place is zero: every number
abbrev pub spare_entry : Numbered → Bool
spare_entry x = is_blank (entry_numbers x)

-- The count is within its limit, the held entries are sound and follow one another, and spare places are zero.
unfoldable pub sound_area : Rule → Journal → Gate → Area → Bool
sound_area rule own other area =
    leb area.count most
    && (list_all (sound_entry rule own other) (held area)
    && (chain follows (held area)
    && list_all spare_entry (drop area.count area.places)))
