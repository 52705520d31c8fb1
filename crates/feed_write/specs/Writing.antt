-- Writing starts at the buffer's first byte and touches no byte past the record; it answers the record's whole length, the two length bytes included. A refusal returns its number, and the buffer holds what it held.
use Rattle.std.specs.Prelude.{ℕ, not, Result, Ok, Err, List, [], ◌∷◌, ◌++◌, length, drop, ltb}
use Rattle.lists.specs.Check.{Check, ◌gives◌, first_or}
use Rattle.pairing.specs.declared.Pair.{Pair}
use Rattle.feed.specs.declared.Record.{Record}
use Rattle.refusals.specs.declared.Refusal.{Refusal}
use Rattle.refusals.specs.Table.{number_of}
use Rattle.feed.specs.Record.{record_bytes, pair_bytes, stream_known}

pub data Writing : Type 0 where
  Written : ℕ → Writing
  Refused : ℕ → Writing

-- the same, as the code answers it; a refusal is told by its number
abbrev pub writing_seen : Result ℕ Refusal → Writing
writing_seen (Ok whole) = Written whole
writing_seen (Err r) = Refused (number_of r)

-- what is answered and what the buffer then holds, for bytes that own checks may refuse. The last check is a buffer shorter than the record (12).
unfoldable pub writing : List Check → List ℕ → List ℕ → Writing × List ℕ
writing own bs buf =
    first_or (λ (number : ℕ). (Refused number, buf)) (Written (length bs), bs ++ drop (length bs) buf)
    (own ++ ((ltb (length buf) (length bs) gives 12) ∷ []))

-- Writing checks 1, 10, 12: the stream (1), a note over 64 bytes (10), then the buffer.
unfoldable pub record_writing : Record → List ℕ → List ℕ → Writing × List ℕ
record_writing written text buf = writing ((not (stream_known written) gives 1) ∷ (ltb 64 (length text) gives 10) ∷ []) (record_bytes written text) buf

unfoldable pub pair_writing : Pair → List ℕ → Writing × List ℕ
pair_writing p buf = writing [] (pair_bytes p) buf
