-- `admit` meets its contract: each step leaves what the definition says of its part.
use Rattle.std.proofs.Common.{arith}
use Rattle.journal.specs.Journal.{own_rows}
use Rattle.journal.proofs.Facts.{own_met}
use Rattle.journal.proofs.Rows.{accepted_both}
use Rattle.halves.specs.View.{halves_with, seen}
use Rattle.halves.specs.Calls.{arrival, key_rows, after_entry}
use Rattle.halves.proofs.Facts.{room_met}
use Rattle.halves.proofs.Laws.{formed_ascending}
use Rattle.halves.proofs.View.{mine_length, waiting_length}
use Rattle.halves.proofs.Half.admit.Goals as goal

pub merge-requires : goal.merge-requires
merge-requires c =
    let stand = c.requires.stand in
    let h = halves_with c.args.rule c.args.self.now c.args.other.now c.args.queue.now in
    let v = seen h in
    let room = room_met c.args.side v c.args.e c.requires.admitted.1 in (
      stand.holds_queue,
      stand.in_order,
      stand.holds_others,
      formed_ascending c.args.rule c.args.side (arrival v c.args.e) v.others stand.others_follow,
      c.requires.counted,
      omega (arith, room.wait, c.requires.counted, waiting_length h stand.holds_mine stand.holds_others stand.holds_queue),
    )

pub hold_wanted-requires : goal.hold_wanted-requires
hold_wanted-requires c =
    let stand = c.requires.stand in
    let h = halves_with c.args.rule c.args.self.now c.args.other.now c.args.queue.now in
    let room = room_met c.args.side (seen h) c.args.e c.requires.admitted.1 in
    (stand.holds_mine, λ w. omega (arith, room.hold w, mine_length h stand.holds_mine stand.holds_others stand.holds_queue))

pub with-self-requires : goal.with-self-requires
with-self-requires c =
    let journal = c.args.self.now.journal in
    (own_met journal c.args.e (accepted_both (own_rows journal c.args.e) (key_rows c.args.rule c.args.e) c.requires.admitted.0).first).countable

pub returns : goal.returns
unfolding after_entry
returns c = rw (c.with-self.ensures, c.hold_wanted.ensures, c.clear.ensures, c.merge.ensures)
