-- What is stored is seen, and what is seen is stored.
use mathlib.Core.Path.{◌≡◌, sym, ap}
use lib.ListN.{length}
use Rattle.pairing.specs.declared.Side.{Side}
use Rattle.pairing.specs.declared.Side.TheVariants.{A, B}
use Rattle.area.specs.Area as area
use Rattle.area.proofs.Sound.{held_stored, area_held, held_length}
use Rattle.queue.specs.declared.Queue.{Queue}
use Rattle.queue.specs.Queue as queue
use Rattle.queue.proofs.Sound.{waiting_stored, queue_waiting}
use Rattle.halves.specs.View.{View, Halves, seen, halves_of}

-- what the halves that hold a view show
pub seen_stored : (v : View) → seen (halves_of v) ≡ v
seen_stored v = λ i. record {
  rule = v.rule;
  own = v.own;
  other = v.other;
  mine = held_stored v.mine i;
  others = held_stored v.others i;
  waiting = waiting_stored v.waiting i;
}

module _ (halves : Halves) (m : area.Holds halves.own.area) (o : area.Holds halves.other.area) (w : queue.Holds halves.queue) where
  abbrev v : View
  v = seen halves

  -- the counts of the halves are the lengths of what they show
  pub mine_length : length v.mine ≡ halves.own.area.count
  mine_length = held_length halves.own.area m

  pub others_length : length v.others ≡ halves.other.area.count
  others_length = held_length halves.other.area o

  pub waiting_length : length v.waiting ≡ halves.queue.count
  waiting_length = ap (λ (q : Queue). q.count) (queue_waiting halves.queue w)

  -- halves that store what they hold are those of what they show
  pub halves_seen : halves ≡ halves_of v
  halves_seen = λ i. record {
    rule = halves.rule;
    own = record { journal = halves.own.journal; area = sym (area_held halves.own.area m) i };
    other = record { journal = halves.other.journal; area = sym (area_held halves.other.area o) i };
    queue = sym (queue_waiting halves.queue w) i;
  }

-- ---- the other side

abbrev pub across : Side → Side
across A = B
across B = A

-- the same lists, seen from the other side
abbrev pub turned : View → View
turned v = record { rule = v.rule; own = v.other; other = v.own; mine = v.others; others = v.mine; waiting = v.waiting }
