-- What a journal sees of a sound state, as facts; and that an admitted entry and a gate that moves onward keep them.
use Prim.Native.Nat.{◌≤◌, ◌<◌}
use native.Mathlib.Omega.{arith}
use mathlib.Core.Path.{refl}
use Rattle.lists.proofs.All.{all_map}
use Rattle.pairing.specs.declared.Entry.{Entry}
use Rattle.pairing.specs.declared.Numbered.{Numbered}
use Rattle.pairing.specs.declared.Side.{Side}
use Rattle.pairing.specs.declared.Side.TheVariants.{A, B}
use Rattle.journal.specs.declared.Gate.{Gate}
use Rattle.journal.specs.declared.Gate.TheVariants.{Open}
use Rattle.journal.specs.Journal.{entries}
use Rattle.journal.proofs.Facts.{timely_onward}
use Rattle.journal.proofs.Onward.{Onward}
use Rattle.area.proofs.Sound as areas
use Rattle.queue.proofs.Sound as queues
use Rattle.halves.specs.View.{View}
use Rattle.halves.specs.Calls.{arrival, after_entry, after_move}
use Rattle.halves.proofs.Facts.{Admitted}
use Rattle.halves.proofs.View.{across, turned}

pub record SoundView (side : Side) (v : View) : Type 0 where
  pub own_count : v.own.accepted ≤ entries
  pub other_count : v.other.accepted ≤ entries
  pub mine : areas.SoundHeld v.rule v.own v.other.gate v.mine
  pub others : areas.SoundHeld v.rule v.other v.own.gate v.others
  pub waiting : queues.SoundWaiting side v.own.accepted v.other.accepted v.waiting

-- it is the same from both sides
pub sound_turned : (side : Side) (v : View) → SoundView side v → SoundView (across side) (turned v)
sound_turned A v h = record {
  own_count = h.other_count;
  other_count = h.own_count;
  mine = h.others;
  others = h.mine;
  waiting = queues.turned_to_b v.own.accepted v.other.accepted v.waiting h.waiting;
}
sound_turned B v h = record {
  own_count = h.other_count;
  other_count = h.own_count;
  mine = h.others;
  others = h.mine;
  waiting = queues.turned_to_a v.own.accepted v.other.accepted v.waiting h.waiting;
}

module _ (side : Side) (v : View) (h : SoundView side v) where
  pub sound_move : (gate : Gate) → Onward v.own.gate gate → SoundView side (after_move gate v)
  unfolding after_move
  sound_move gate on = record {
    own_count = h.own_count;
    other_count = h.other_count;
    mine = areas.held_moved v.rule v.own v.other.gate v.mine h.mine gate on;
    others = areas.held_cleared v.rule v.other v.own.gate v.others h.others gate;
    waiting = h.waiting;
  }

  pub sound_entry_lem : (e : Entry) → Admitted side v e → SoundView side (after_entry side v e)
  unfolding after_entry
  sound_entry_lem e met =
      let start = e.span.start in
      let on : Onward v.own.gate (Open start) = timely_onward v.own.gate start met.own.timely in
      let room : v.own.accepted < entries = met.own.countable in
      record {
        own_count = omega arith;
        other_count = h.other_count;
        mine = areas.held_entered v.rule v.own v.other.gate v.mine h.mine e met.own.proper met.allowed on met.room.hold;
        others = areas.held_cleared v.rule v.other v.own.gate v.others h.others (Open start);
        waiting = queues.waiting_merged side v.own.accepted v.other.accepted v.waiting h.waiting v.rule (arrival v e) v.others refl
            (all_map (areas.SoundEntry v.rule v.other v.own.gate) (λ (y : Numbered). y.ordinal < v.other.accepted) (λ y s. s.numbered) v.others h.others.sounds)
            h.others.laters met.room.wait;
      }
