-- What joinfeed prints of a feed, from its first byte to its last line.
use Rattle.std.specs.Prelude.{ℕ, suc, ◌+◌, cond, length}
use mathlib.Core.List.{List, [], ◌∷◌, ◌++◌, flat_map}
use Rattle.pairing.specs.declared.Pair.{Pair}
use Rattle.pairing.specs.declared.Rule.{Rule}
use Rattle.pairing.specs.Numbers.{pair_numbers}
use Rattle.journal.specs.Answer.{Answer, Accepted, Refused}
use Rattle.join.specs.State.{State, fresh_state}
use Rattle.join.specs.Calls.{Outcome, outcome, entry_call, mark_call, close_call, ready_of, both_closed, without}
use Rattle.feed.specs.declared.Record.{Record}
use Rattle.feed.specs.declared.Record.TheVariants.{Entry, Mark, Close, Note}
use Rattle.steps.specs.declared.Progress.{Progress}
use Rattle.framing.specs.Program.{Deed, Ends, Goes, Program, printed_by}
use Rattle.lines.specs.Line.{line}

-- at the start, by a rule; joinfeed joins by equal keys
abbrev pub begun : Rule → Progress
begun rule = record { state = fresh_state rule; records = 0; pairs = 0 }

-- ---- lines

-- A line a pair: start, end, A ordinal, B ordinal, A key, B key, A value, B value.
unfoldable pub pair_line : Pair → List ℕ
pair_line p = line (pair_numbers p)

abbrev pub pair_lines : List Pair → List ℕ
pair_lines ps = flat_map pair_line ps

-- the words that a last line begins with, in ASCII and a space behind: `done `, `open `, `refused `
abbrev pub done_word : List ℕ
done_word = 100 ∷ 111 ∷ 110 ∷ 101 ∷ 32 ∷ []

abbrev pub open_word : List ℕ
open_word = 111 ∷ 112 ∷ 101 ∷ 110 ∷ 32 ∷ []

abbrev pub refused_word : List ℕ
refused_word = 114 ∷ 101 ∷ 102 ∷ 117 ∷ 115 ∷ 101 ∷ 100 ∷ 32 ∷ []

-- Its last line is `done`, records, pairs; with `open` in place of `done` if the feed ends and a journal is open.
unfoldable pub end_line : Progress → List ℕ
end_line p = cond (both_closed p.state) done_word open_word ++ line (p.records ∷ p.pairs ∷ [])

-- Or `refused`, the number, records accepted before.
unfoldable pub refused_line : ℕ → Progress → List ℕ
refused_line number p = refused_word ++ line (number ∷ p.records ∷ [])

-- ---- a record

-- what the join answers to a record; a note rides along and affects nothing
abbrev pub heard : State → Record → Outcome Answer
heard s (Entry stream e) = entry_call s stream e
heard s (Mark stream time) = mark_call s stream time
heard s (Close stream) = close_call s stream
heard s (Note size) = outcome Accepted s

-- After each record it takes until nothing is ready
abbrev pub onward : Progress → State → Progress
onward p s = record { state = without (length (ready_of s)) s; records = suc p.records; pairs = p.pairs + length (ready_of s) }

-- and prints a line a pair.
abbrev pub taken : Progress → State → Deed Progress
taken p s = Goes (pair_lines (ready_of s)) (onward p s)

abbrev pub answered : Progress → Answer → State → Deed Progress
answered p Accepted s = taken p s
answered p (Refused number) s = Ends (refused_line number p)

abbrev pub on_record : Progress → Record → Deed Progress
on_record p found = answered p (heard p.state found).answer (heard p.state found).state

-- ---- the whole run

-- A record is heard by the join; its last line is that of a refusal, or that of the feed's end.
abbrev pub joinfeed : Program Progress
joinfeed = record { on_record = on_record; on_refusal = λ p number. refused_line number p; on_end = end_line }

-- Bytes beyond the limit are not read, and the feed counts as ending there.
abbrev pub printed : Rule → ℕ → List ℕ → List ℕ
printed rule limit feed = printed_by joinfeed (begun rule) limit feed

-- The limit of joinfeed.
abbrev pub read_limit : ℕ
read_limit = 4294967295
