-- An interval is half-open: from its start up to its end, the end left out.
use Rattle.std.specs.Prelude.{ℕ, ◌-◌, min, max, Bool, ◌&&◌, ltb, leb}
use Rattle.interval.specs.declared.Interval.{Interval}

-- It holds at an instant t when start <= t < end.
unfoldable pub holds_at : ℕ → Interval → Bool
holds_at t i = leb i.start t && ltb t i.end

-- It is proper when start < end; a meeting that is not proper is empty.
unfoldable pub proper_of : Interval → Bool
proper_of i = ltb i.start i.end

-- The meeting starts at the larger start and ends at the smaller end.
unfoldable pub meeting_of : Interval → Interval → Interval
meeting_of i j = record { start = max i.start j.start; end = min i.end j.end }

-- The length is end less start, and 0 where the start is not below the end (what `◌-◌` gives there).
unfoldable pub length_of : Interval → ℕ
length_of i = i.end - i.start
