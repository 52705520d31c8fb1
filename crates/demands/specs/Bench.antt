-- The twelve bench examples of document 01, with what P2 adds to the eleventh, of the definitions themselves, as a single table under a single statement.
use Rattle.std.specs.Prelude.{ℕ, zero, suc, ◌≡◌, replicate}
use mathlib.Core.List.{List, [], ◌∷◌, ◌++◌, map, flat_map}
use Rattle.lists.specs.Tally.{tally}
use Rattle.pairing.specs.declared.Entry.{Entry}
use Rattle.pairing.specs.declared.Pair.{Pair}
use Rattle.pairing.specs.declared.Rule.{Rule}
use Rattle.pairing.specs.declared.Rule.TheVariants.{Equal, Near}
use Rattle.journal.specs.Answer.{Answer}
use Rattle.journal.specs.Answer as answer
use Rattle.join.specs.Calls.{Took, entry_call, mark_call, close_call, take_call, waiting_in, ready_in}
use Rattle.join.specs.Calls as took
use Rattle.join.specs.State.{State}
use Rattle.demands.specs.History.{Call, Enter, Mark, Close, Take, after, begin, run}

-- ---- what a bench looks at

-- a pair's start, end, A ordinal and B ordinal
abbrev pub shown : Pair → List ℕ
shown p = p.meeting.start ∷ p.meeting.end ∷ p.a.ordinal ∷ p.b.ordinal ∷ []

-- what a call answered
pub data Said : Type 0 where
  Accepted : Said
  Refused : ℕ → Said
  Handed : List ℕ → Said
  Waiting : Said
  Finished : Said

abbrev pub said_by : Answer → Said
said_by answer.Accepted = Accepted
said_by (answer.Refused number) = Refused number

abbrev pub take_said : Took → Said
take_said (took.Handed p) = Handed (shown p)
take_said took.Waiting = Waiting
take_said took.Finished = Finished
take_said (took.Refused number) = Refused number

abbrev pub said : State → Call → Said
said s (Enter stream e) = said_by (entry_call s stream e).answer
said s (Mark stream time) = said_by (mark_call s stream time).answer
said s (Close stream) = said_by (close_call s stream).answer
said s Take = take_said (take_call s).answer

-- the last call's answer, and after it: how many entries each area holds, which pairs wait, and how many of them are ready
pub record Seen : Type 0 where
  pub last : Said
  pub in_a : ℕ
  pub in_b : ℕ
  pub waits : List (List ℕ)
  pub ready : ℕ

abbrev pub seen : State → Call → Seen
seen s c = record {
  last = said s c;
  in_a = (after s c).a.area.count;
  in_b = (after s c).b.area.count;
  waits = map shown (waiting_in (after s c));
  ready = tally (ready_in (after s c)) (waiting_in (after s c));
}

-- ---- the table

-- of a fresh join with that rule: some calls, then one more, and what is seen
pub record Line : Type 0 where
  pub number : ℕ
  pub rule : Rule
  pub calls : List Call
  pub then : Call
  pub shows : Seen

abbrev pub line : ℕ → Rule → List Call → Call → Seen → Line
line number rule calls then shows = record { number = number; rule = rule; calls = calls; then = then; shows = shows }

abbrev pub sees : Said → ℕ → ℕ → List (List ℕ) → ℕ → Seen
sees last in_a in_b waits ready = record { last = last; in_a = in_a; in_b = in_b; waits = waits; ready = ready }

abbrev pub entry : ℕ → ℕ → ℕ → Entry
entry start end key = record { span = record { start = start; end = end }; key = key; value = 0 }

-- an entry of A and of B, with a key; and with key 1
abbrev pub a_key : ℕ → ℕ → ℕ → Call
a_key start end key = Enter 0 (entry start end key)

abbrev pub b_key : ℕ → ℕ → ℕ → Call
b_key start end key = Enter 1 (entry start end key)

abbrev pub a : ℕ → ℕ → Call
a start end = a_key start end 1

abbrev pub b : ℕ → ℕ → Call
b start end = b_key start end 1

abbrev pub mark_a : ℕ → Call
mark_a time = Mark 0 time

abbrev pub mark_b : ℕ → Call
mark_b time = Mark 1 time

abbrev pub pair : ℕ → ℕ → ℕ → ℕ → List ℕ
pair start end of_a of_b = start ∷ end ∷ of_a ∷ of_b ∷ []

-- n, n + 1, .. as many as said
abbrev pub count_from : ℕ → ℕ → List ℕ
count_from n zero = []
count_from n (suc k) = n ∷ count_from (suc n) k

-- 64 A entries and 4 B entries, each with each
abbrev pub full : List (List ℕ)
full = flat_map (λ (i : ℕ). map (λ (j : ℕ). pair 0 100 i j) (count_from 0 4)) (count_from 0 64)

unfoldable pub table : List Line
table =
    -- A [10,20), B [20,30): no pair.
    line 1 Equal (a 10 20 ∷ []) (b 20 30) (sees Accepted 0 1 [] 0)
    -- A [10,21), B [20,30): pair [20,21).
    ∷ line 2 Equal (a 10 21 ∷ []) (b 20 30) (sees Accepted 1 1 (pair 20 21 0 0 ∷ []) 0)
    -- A [5,6), B mark 6: area A empty.
    ∷ line 3 Equal (a 5 6 ∷ []) (mark_b 6) (sees Accepted 0 0 [] 0)
    -- B [2,20), B mark 10, A [3,5): pair [3,5) waits and is not ready, area A empty. A mark 4: ready.
    ∷ line 4 Equal (b 2 20 ∷ mark_b 10 ∷ []) (a 3 5) (sees Accepted 0 1 (pair 3 5 0 0 ∷ []) 0)
    ∷ line 4 Equal (b 2 20 ∷ mark_b 10 ∷ a 3 5 ∷ []) (mark_a 4) (sees Accepted 0 1 (pair 3 5 0 0 ∷ []) 1)
    -- A [1,4) twice, B [2,3): pairs 0-0, then 1-0.
    ∷ line 5 Equal (a 1 4 ∷ a 1 4 ∷ []) (b 2 3) (sees Accepted 2 1 (pair 2 3 0 0 ∷ pair 2 3 1 0 ∷ []) 0)
    -- A [7,7): 3.
    ∷ line 6 Equal [] (a 7 7) (sees (Refused 3) 0 0 [] 0)
    -- A [4294967294,4294967295): accepted.
    ∷ line 7 Equal [] (a 4294967294 4294967295) (sees Accepted 1 0 [] 0)
    -- A mark 10; A [9,12): 4; A [10,12): accepted.
    ∷ line 8 Equal [] (mark_a 10) (sees Accepted 0 0 [] 0)
    ∷ line 8 Equal (mark_a 10 ∷ []) (a 9 12) (sees (Refused 4) 0 0 [] 0)
    ∷ line 8 Equal (mark_a 10 ∷ a 9 12 ∷ []) (a 10 12) (sees Accepted 1 0 [] 0)
    -- 64 times A [0,9); one more: 6. B mark 9; A [0,10): accepted.
    ∷ line 9 Equal (replicate 64 (a 0 9)) (a 0 9) (sees (Refused 6) 64 0 [] 0)
    ∷ line 9 Equal (replicate 65 (a 0 9) ++ (mark_b 9 ∷ [])) (a 0 10) (sees Accepted 1 0 [] 0)
    -- 64 times A [0,100), 4 times B [0,100): 256 waiting, none ready. A fifth B [0,100): 7.
    ∷ line 10 Equal (replicate 64 (a 0 100) ++ replicate 3 (b 0 100)) (b 0 100) (sees Accepted 64 4 full 0)
    ∷ line 10 Equal (replicate 64 (a 0 100) ++ replicate 4 (b 0 100)) (b 0 100) (sees (Refused 7) 64 4 full 0)
    -- Near, width 2: keys 5 and 7 pair, 5 and 8 do not.
    ∷ line 11 (Near 2) (a_key 0 9 5 ∷ []) (b_key 0 9 7) (sees Accepted 1 1 (pair 0 9 0 0 ∷ []) 0)
    ∷ line 11 (Near 2) (a_key 0 9 5 ∷ []) (b_key 0 9 8) (sees Accepted 1 1 [] 0)
    -- Keys 35,999 and 1 pair, 35,999 and 2 do not; a key of 36,000 is refused with 13.
    ∷ line 11 (Near 2) (a_key 0 9 35999 ∷ []) (b_key 0 9 1) (sees Accepted 1 1 (pair 0 9 0 0 ∷ []) 0)
    ∷ line 11 (Near 2) (a_key 0 9 35999 ∷ []) (b_key 0 9 2) (sees Accepted 1 1 [] 0)
    ∷ line 11 (Near 2) [] (a_key 0 9 36000) (sees (Refused 13) 0 0 [] 0)
    -- 0 and 18,000 are 18,000 apart either way round.
    ∷ line 11 (Near 18000) (a_key 0 9 0 ∷ []) (b_key 0 9 18000) (sees Accepted 1 1 (pair 0 9 0 0 ∷ []) 0)
    ∷ line 11 (Near 18000) (a_key 0 9 18000 ∷ []) (b_key 0 9 0) (sees Accepted 1 1 (pair 0 9 0 0 ∷ []) 0)
    ∷ line 11 (Near 17999) (a_key 0 9 0 ∷ []) (b_key 0 9 18000) (sees Accepted 1 1 [] 0)
    ∷ line 11 (Near 17999) (a_key 0 9 18000 ∷ []) (b_key 0 9 0) (sees Accepted 1 1 [] 0)
    -- Take: Waiting. Close both, take: Finished.
    ∷ line 12 Equal [] Take (sees Waiting 0 0 [] 0)
    ∷ line 12 Equal (Take ∷ Close 0 ∷ Close 1 ∷ []) Take (sees Finished 0 0 [] 0)
    ∷ []

-- every line shows what it says
abbrev pub Benches : Type 0
Benches = map (λ (l : Line). seen (run (begin l.rule) l.calls).state l.then) table ≡ map (λ (l : Line). l.shows) table
