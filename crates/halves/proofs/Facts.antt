-- What an admitted entry and an accepted close are known to meet.
use Prim.Native.Nat.{◌+◌, ◌≤◌, ◌<◌}
use mathlib.Core.Bool.{Bool, true, false, ◌&&◌, false≢true}
use mathlib.Core.List.{◌++◌}
use mathlib.Core.Path.{◌≡◌}
use lib.Dec.{leb}
use lib.ListN.{length}
use borrow.Author.Tests.{leb-false, ltb-false, not-false}
use Rattle.pairing.specs.declared.Entry.{Entry}
use Rattle.pairing.specs.declared.Rule.{Rule}
use Rattle.pairing.specs.declared.Side.{Side}
use Rattle.pairing.specs.Rule.{allows}
use Rattle.journal.specs.declared.Journal.{Journal}
use Rattle.journal.specs.Answer.{Accepted, first_of}
use Rattle.journal.specs.Journal.{wanted, is_closed, own_rows}
use Rattle.journal.proofs.Facts.{OwnMet, own_met}
use Rattle.journal.proofs.Rows.{accepted_rows, accepted_both}
use Rattle.area.specs.Area as area
use Rattle.queue.specs.Queue as queue
use Rattle.halves.specs.View.{View}
use Rattle.halves.specs.Calls.{formed, key_rows, room_for, room_rows, entry_rows, close_rows}

-- there is room to hold it, if it is wanted, and for its pairs to wait
pub record RoomMet (side : Side) (v : View) (e : Entry) : Type 0 where
  pub hold : wanted v.other.gate e ≡ true → length v.mine < area.most
  pub wait : length v.waiting + length (formed side v e) ≤ queue.places

pub room_met : (side : Side) (v : View) (e : Entry) → first_of (room_rows side v e) ≡ Accepted → RoomMet side v e
unfolding room_for
room_met side v e h =
    let (held, (wait, none)) = accepted_rows (room_rows side v e) h in
    record {
      hold = λ w. leb-false area.most (length v.mine) (full (wanted v.other.gate e) (leb area.most (length v.mine)) held w);
      wait = ltb-false queue.places (length v.waiting + length (formed side v e)) wait;
    }
  where
    full : (a b : Bool) → a && b ≡ false → a ≡ true → b ≡ false
    full true b k w = k
    full false b k w = absurd (false≢true w)

-- the rule allows its key
pub key_met : (rule : Rule) (e : Entry) → first_of (key_rows rule e) ≡ Accepted → allows rule e.key ≡ true
unfolding key_rows
key_met rule e h = not-false (allows rule e.key) (accepted_rows (key_rows rule e) h).0

pub record Admitted (side : Side) (v : View) (e : Entry) : Type 0 where
  pub own : OwnMet v.own e
  pub allowed : allows v.rule e.key ≡ true
  pub room : RoomMet side v e

pub entry_met : (side : Side) (v : View) (e : Entry) → first_of (entry_rows side v e) ≡ Accepted → Admitted side v e
unfolding entry_rows
entry_met side v e h =
    let both = accepted_both (own_rows v.own e ++ key_rows v.rule e) (room_rows side v e) h in
    let alone = accepted_both (own_rows v.own e) (key_rows v.rule e) both.first in
    record { own = own_met v.own e alone.first; allowed = key_met v.rule e alone.then; room = room_met side v e both.then }

-- a close finds its journal open
pub close_met : (j : Journal) → first_of (close_rows j) ≡ Accepted → is_closed j.gate ≡ false
close_met j h = (accepted_rows (close_rows j) h).0
