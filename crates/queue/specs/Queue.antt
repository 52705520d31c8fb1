-- The queue: up to 256 pairs formed and not yet handed out, in the plain list's order. The count and the places are the queue itself.
use Rattle.std.specs.Prelude.{ℕ, Bool, ◌&&◌, List, ltb, leb, length, take, drop}
use Rattle.std.specs.List.{list_all}
use Rattle.interval.specs.Interval.{proper_of}
use Rattle.lists.specs.Judge.{chain}
use Rattle.lists.specs.Store.{pad_to, is_blank, Stores}
use Rattle.pairing.specs.declared.Pair.{Pair}
use Rattle.pairing.specs.Pair.{comes_before}
use Rattle.pairing.specs.Numbers.{pair_numbers}
use Rattle.journal.specs.declared.Gate.{Gate}
use Rattle.journal.specs.Journal.{due}
use Rattle.queue.specs.declared.Queue.{Queue}

-- Limits: 256 waiting pairs.
abbrev pub places : ℕ
places = 256

-- the waiting pairs, in the order of their places
abbrev pub waiting : Queue → List Pair
waiting queue = take queue.count queue.places

-- zeros, where no pair waits
abbrev pub no_pair : Pair
no_pair = record { meeting = record { start = 0; end = 0 }; a = record { ordinal = 0; key = 0; value = 0 }; b = record { ordinal = 0; key = 0; value = 0 } }

-- the one queue in which some pairs wait. Places beyond the count hold zeros.
abbrev pub queue_of : List Pair → Queue
queue_of ps = record { count = length ps; places = pad_to places no_pair ps }

abbrev pub Holds : Queue → Type 0
Holds queue = Stores no_pair places queue.count queue.places

-- A waiting pair is ready when its start is below the clock of every open journal; with both closed, all are ready.
unfoldable pub ready : Gate → Gate → Pair → Bool
ready = due (λ (p : Pair). p.meeting.start)

-- Waiting pairs have proper intervals and ordinals below the counts.
abbrev pub sound_pair : ℕ → ℕ → Pair → Bool
sound_pair of_a of_b p = proper_of p.meeting && (ltb p.a.ordinal of_a && ltb p.b.ordinal of_b)

-- a spare place is zero: every number
abbrev pub spare_pair : Pair → Bool
spare_pair p = is_blank (pair_numbers p)

-- The count is within its limit, the waiting pairs are sound and in strictly ascending order, and spare places are zero.
unfoldable pub sound_queue : ℕ → ℕ → Queue → Bool
sound_queue of_a of_b queue =
    leb queue.count places
    && (list_all (sound_pair of_a of_b) (waiting queue)
    && (chain comes_before (waiting queue)
    && list_all spare_pair (drop queue.count queue.places)))
