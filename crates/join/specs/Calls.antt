-- What each call answers and leaves, for every state and every argument.
use Rattle.std.specs.Prelude.{ℕ, Bool, cond, not, ◌&&◌, List, [], ◌∷◌, ◌++◌, ltb, eqb, drop, Result, Ok, Err, filter}
use Rattle.lists.specs.Check.{Check, ◌gives◌}
use Rattle.pairing.specs.declared.Entry.{Entry}
use Rattle.pairing.specs.declared.Pair.{Pair}
use Rattle.pairing.specs.declared.Side.{Side}
use Rattle.pairing.specs.declared.Side.TheVariants.{A, B}
use Rattle.journal.specs.declared.Gate.TheVariants.{Open, Closed}
use Rattle.journal.specs.Answer.{Answer, first_of, unless_refused}
use Rattle.journal.specs.Journal.{is_closed, mark_rows}
use Rattle.refusals.specs.declared.Refusal.{Refusal}
use Rattle.refusals.specs.Table.{number_of}
use Rattle.queue.specs.declared.Queue.{Queue}
use Rattle.queue.specs.Queue as queue
use Rattle.halves.specs.Calls.{entry_rows, after_entry, after_move, close_rows}
use Rattle.join.specs.declared.Taken.{Taken}
use Rattle.join.specs.declared.Taken.TheVariants as taken
use Rattle.join.specs.State.{State, view, state_of, sound}

-- an answer, and the state after the call
pub record Outcome (Answered : Type 0) : Type 0 where
  pub answer : Answered
  pub state : State

abbrev pub outcome : {Answered : Type 0} → Answered → State → Outcome Answered
outcome answer state = record { answer = answer; state = state }

-- a call that rows of the table may refuse: the first that applies is the answer, and a refusal leaves the state exactly as it came
abbrev pub called : State → List Check → State → Outcome Answer
called s rows next = outcome (first_of rows) (unless_refused (first_of rows) next s)

-- Journal A is stream 0, B is stream 1.
abbrev pub side_of : ℕ → Side
side_of stream = cond (eqb stream 0) A B

-- 8: the state given is not sound. 1: stream is neither 0 nor 1.
abbrev pub judge_rows : State → ℕ → List Check
judge_rows s stream = (not (sound s) gives 8) ∷ (ltb 1 stream gives 1) ∷ []

-- ---- an entry

abbrev pub entry_on : State → Side → Entry → Outcome Answer
entry_on s side e = called s (entry_rows side (view side s) e) (state_of side (after_entry side (view side s) e))

unfoldable pub entry_call : State → ℕ → Entry → Outcome Answer
entry_call s stream e =
    let side = side_of stream in
    called s (judge_rows s stream ++ entry_rows side (view side s) e) (state_of side (after_entry side (view side s) e))

-- ---- a mark or a close

abbrev pub mark_on : State → Side → ℕ → Outcome Answer
mark_on s side time = called s (mark_rows time (view side s).own) (state_of side (after_move (Open time) (view side s)))

unfoldable pub mark_call : State → ℕ → ℕ → Outcome Answer
mark_call s stream time =
    let side = side_of stream in
    called s (judge_rows s stream ++ mark_rows time (view side s).own) (state_of side (after_move (Open time) (view side s)))

abbrev pub close_on : State → Side → Outcome Answer
close_on s side = called s (close_rows (view side s).own) (state_of side (after_move Closed (view side s)))

unfoldable pub close_call : State → ℕ → Outcome Answer
close_call s stream =
    let side = side_of stream in
    called s (judge_rows s stream ++ close_rows (view side s).own) (state_of side (after_move Closed (view side s)))

-- ---- a take

-- the pairs that wait
abbrev pub waiting_in : State → List Pair
waiting_in s = queue.waiting s.queue

-- below the clock of every open journal of the state
abbrev pub ready_in : State → Pair → Bool
ready_in s = queue.ready s.a.journal.gate s.b.journal.gate

-- the ready pairs, in their order
abbrev pub ready_of : State → List Pair
ready_of s = filter (ready_in s) (waiting_in s)

-- both journals are closed
abbrev pub both_closed : State → Bool
both_closed s = is_closed s.a.journal.gate && is_closed s.b.journal.gate

-- What a take answers: a pair, or Waiting or Finished, or a refusal with the number that the table gives.
pub data Took : Type 0 where
  Handed : Pair → Took
  Waiting : Took
  Finished : Took
  Refused : ℕ → Took

-- the answer that a result is
abbrev pub took_of : Result Taken Refusal → Took
took_of (Ok (taken.Handed p)) = Handed p
took_of (Ok taken.Waiting) = Waiting
took_of (Ok taken.Finished) = Finished
took_of (Err refusal) = Refused (number_of refusal)

-- A take hands out the first waiting pair if it is ready. With nothing ready it answers Finished when both journals are closed and nothing waits, else Waiting.
abbrev pub next_of : (Pair → Bool) → Bool → List Pair → Took
next_of ready closed [] = cond closed Finished Waiting
next_of ready closed (p ∷ ps) = cond (ready p) (Handed p) Waiting

-- the state with another queue
abbrev pub with_queue : Queue → State → State
with_queue queue s = record { rule = s.rule; a = s.a; b = s.b; queue = queue }

-- the state without its first k waiting pairs
unfoldable pub without : ℕ → State → State
without k s = with_queue (queue.queue_of (drop k (waiting_in s))) s

-- Waiting, Finished and a refusal change nothing.
abbrev pub after_take : Took → State → State
after_take (Handed p) s = without 1 s
after_take Waiting s = s
after_take Finished s = s
after_take (Refused number) s = s

abbrev pub take_on : State → Outcome Took
take_on s = outcome (next_of (ready_in s) (both_closed s) (waiting_in s)) (after_take (next_of (ready_in s) (both_closed s) (waiting_in s)) s)

unfoldable pub take_call : State → Outcome Took
take_call s = cond (sound s) (take_on s) (outcome (Refused 8) s)

-- the number of an answer to a take, as the table has it; 0 where nothing is refused
abbrev pub took_number : Took → ℕ
took_number (Handed p) = 0
took_number Waiting = 0
took_number Finished = 0
took_number (Refused number) = number
