-- A join as one of its journals sees it.
use Rattle.std.specs.Prelude.{true, List, ◌≡◌}
use Rattle.lists.specs.Judge.{chain}
use Rattle.pairing.specs.declared.Numbered.{Numbered}
use Rattle.pairing.specs.declared.Pair.{Pair}
use Rattle.pairing.specs.declared.Rule.{Rule}
use Rattle.pairing.specs.Pair.{comes_before}
use Rattle.journal.specs.declared.Journal.{Journal}
use Rattle.queue.specs.declared.Queue.{Queue}
use Rattle.area.specs.Area as area
use Rattle.queue.specs.Queue as queue
use Rattle.halves.specs.declared.Half.{Half}

-- A state as the lists that it holds, seen from one of its journals: that one is `own`, the other is `other`.
pub record View : Type 0 where
  pub rule : Rule
  pub own : Journal
  pub other : Journal
  pub mine : List Numbered
  pub others : List Numbered
  pub waiting : List Pair

-- The halves of a join, that of one journal first.
pub record Halves : Type 0 where
  pub rule : Rule
  pub own : Half
  pub other : Half
  pub queue : Queue

abbrev pub halves_with : Rule → Half → Half → Queue → Halves
halves_with rule own other queue = record { rule = rule; own = own; other = other; queue = queue }

-- the halves and the queue as a view
abbrev pub seen : Halves → View
seen halves = record {
  rule = halves.rule;
  own = halves.own.journal;
  other = halves.other.journal;
  mine = area.held halves.own.area;
  others = area.held halves.other.area;
  waiting = queue.waiting halves.queue;
}

-- a half that holds some entries
abbrev pub half_of : Journal → List Numbered → Half
half_of journal xs = record { journal = journal; area = area.area_of xs }

-- The halves that hold what a view shows. Places beyond a count hold zeros, so there is one such.
abbrev pub halves_of : View → Halves
halves_of v = record { rule = v.rule; own = half_of v.own v.mine; other = half_of v.other v.others; queue = queue.queue_of v.waiting }

-- halves whose places store what they hold, the held entries and the waiting pairs in order: what a call of either side needs of a sound state
pub record Stand (halves : Halves) : Type 0 where
  pub holds_mine : area.Holds halves.own.area
  pub holds_others : area.Holds halves.other.area
  pub holds_queue : queue.Holds halves.queue
  pub others_follow : chain area.follows (area.held halves.other.area) ≡ true
  pub in_order : chain comes_before (queue.waiting halves.queue) ≡ true
