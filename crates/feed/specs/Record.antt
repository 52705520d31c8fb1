-- The records of a feed: the numbers that their fields hold, and their bytes.
use Rattle.std.specs.Prelude.{ℕ, ◌-◌, Bool, true, cond, List, [], ◌∷◌, ◌≡◌, length, get_or, ltb, eqb}
use Rattle.pairing.specs.declared.Entry.{Entry}
use Rattle.pairing.specs.declared.Pair.{Pair}
use Rattle.pairing.specs.Numbers.{pair_numbers}
use Rattle.feed.specs.declared.Record.{Record}
use Rattle.feed.specs.declared.Record.TheVariants.{Entry as entry_record, Mark, Close, Note}
use Rattle.feed.specs.Kind.{entry, mark, close, note, pair, framed, packed, Room, fields_in}

-- stream, start, end, key, value
abbrev pub entry_numbers : ℕ → Entry → List ℕ
entry_numbers stream e = stream ∷ e.span.start ∷ e.span.end ∷ e.key ∷ e.value ∷ []

abbrev pub entry_from : List ℕ → Record
entry_from numbers =
    entry_record (get_or numbers 0 0)
    (record { span = record { start = get_or numbers 1 0; end = get_or numbers 2 0 }; key = get_or numbers 3 0; value = get_or numbers 4 0 })

-- stream, time
abbrev pub mark_numbers : ℕ → ℕ → List ℕ
mark_numbers stream time = stream ∷ time ∷ []

abbrev pub mark_from : List ℕ → Record
mark_from numbers = Mark (get_or numbers 0 0) (get_or numbers 1 0)

-- stream
abbrev pub close_numbers : ℕ → List ℕ
close_numbers stream = stream ∷ []

abbrev pub close_from : List ℕ → Record
close_from numbers = Close (get_or numbers 0 0)

-- the record of a kind and a length that stands first in some bytes
unfoldable pub record_in : ℕ → ℕ → List ℕ → Record
record_in kind size bs =
    cond (eqb kind entry.number) (entry_from (fields_in entry bs))
    (cond (eqb kind mark.number) (mark_from (fields_in mark bs))
    (cond (eqb kind close.number) (close_from (fields_in close bs))
    (Note (size - 2))))

-- the bytes of a record, a note's with its text
unfoldable pub record_bytes : Record → List ℕ → List ℕ
record_bytes (entry_record stream e) text = framed entry.number (packed entry.fields (entry_numbers stream e))
record_bytes (Mark stream time) text = framed mark.number (packed mark.fields (mark_numbers stream time))
record_bytes (Close stream) text = framed close.number (packed close.fields (close_numbers stream))
record_bytes (Note size) text = framed note.number text

unfoldable pub pair_bytes : Pair → List ℕ
pair_bytes p = framed pair.number (packed pair.fields (pair_numbers p))

-- its stream is 0 or 1; a note has none
unfoldable pub stream_known : Record → Bool
stream_known (entry_record stream e) = ltb stream 2
stream_known (Mark stream time) = ltb stream 2
stream_known (Close stream) = ltb stream 2
stream_known (Note size) = true

-- its numbers have room in their fields, as those of the code's types do, and the size of a note is that of its text
abbrev pub Fitting : Record → List ℕ → Type 0
Fitting (entry_record stream e) text = Room entry.fields (entry_numbers stream e)
Fitting (Mark stream time) text = Room mark.fields (mark_numbers stream time)
Fitting (Close stream) text = Room close.fields (close_numbers stream)
Fitting (Note size) text = size ≡ length text
