-- What an entry and a mark are known to meet where no row of theirs applies.
use Prim.Native.Nat.{ℕ, ◌<◌}
use mathlib.Core.Bool.{true, false}
use mathlib.Core.Path.{◌≡◌}
use borrow.Author.Tests.{leb-false, not-false}
use Rattle.interval.specs.Interval.{proper_of}
use Rattle.pairing.specs.declared.Entry.{Entry}
use Rattle.journal.specs.Answer.{Accepted}
use Rattle.journal.specs.declared.Gate.{Gate}
use Rattle.journal.specs.declared.Gate.TheVariants.{Open}
use Rattle.journal.specs.declared.Journal.{Journal}
use Rattle.journal.specs.Answer.{first_of}
use Rattle.journal.specs.Journal.{entries, is_closed, is_behind, own_rows, mark_rows}
use Rattle.journal.proofs.Onward.{Onward, onward_open}
use Rattle.journal.proofs.Rows.{accepted_rows}

-- a time that an open journal's clock has not passed
pub record Timely (gate : Gate) (time : ℕ) : Type 0 where
  pub is_open : is_closed gate ≡ false
  pub on_time : is_behind gate time ≡ false

-- so that the clock may move to it
pub timely_onward : (gate : Gate) (time : ℕ) → Timely gate time → Onward gate (Open time)
timely_onward gate time h = onward_open gate time h.is_open h.on_time

-- an entry, of its journal alone
pub record OwnMet (j : Journal) (e : Entry) : Type 0 where
  pub timely : Timely j.gate e.span.start
  pub proper : proper_of e.span ≡ true
  pub countable : j.accepted < entries

pub own_met : (j : Journal) (e : Entry) → first_of (own_rows j e) ≡ Accepted → OwnMet j e
unfolding own_rows
own_met j e h =
    let (opened, (improper, (behind, (spent, none)))) = accepted_rows (own_rows j e) h in
    record {
      timely = record { is_open = opened; on_time = behind };
      proper = not-false (proper_of e.span) improper;
      countable = leb-false entries j.accepted spent;
    }

-- a mark
pub mark_met : (time : ℕ) (j : Journal) → first_of (mark_rows time j) ≡ Accepted → Timely j.gate time
mark_met time j h = let (opened, (behind, none)) = accepted_rows (mark_rows time j) h in record { is_open = opened; on_time = behind }
