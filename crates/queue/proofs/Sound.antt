-- What a sound queue holds, as facts seen from a side; and that it stays sound when new pairs go in and when the first ones are dropped.
use Prim.Native.Nat.{ℕ, ◌+◌, ◌≤◌, ◌<◌}
use native.Mathlib.Omega.{arith}
use mathlib.Core.Bool.{true}
use mathlib.Core.List.{List, []}
use mathlib.Core.Logic.{inl}
use mathlib.Core.Path.{◌≡◌, refl, sym, ◌∙◌}
use lib.Dec.{ltb}
use lib.ListN.{length, drop, length-drop}
use borrow.Author.Tests.{ltb-true, lt-ltb, le-leb}
use Rattle.interval.specs.Interval.{proper_of}
use Rattle.lists.specs.Sort.{insert_all_by}
use Rattle.lists.proofs.All.{All, Each, all_map, all_drop, each_map, each_drop}
use Rattle.lists.proofs.Bools.{and_left, and_right}
use Rattle.lists.proofs.Judge.{list_all_all, all_list_all, each_chain}
use Rattle.lists.proofs.Order.{Apart, Ascending}
use Rattle.lists.proofs.Sort.{insert_all_by_length, all_insert_all_by, insert_all_by_ascending}
use Rattle.lists.proofs.Store.{pad_to_take, stores_stored, spare_stored}
use Rattle.pairing.specs.declared.Numbered.{Numbered}
use Rattle.pairing.specs.declared.Pair.{Pair}
use Rattle.pairing.specs.declared.Rule.{Rule}
use Rattle.pairing.specs.declared.Side.{Side}
use Rattle.pairing.specs.declared.Side.TheVariants.{A, B}
use Rattle.pairing.specs.Pair.{comes_before}
use Rattle.pairing.specs.Side.{new_pairs}
use Rattle.pairing.proofs.Arrival.{Later, new_pairs_ascending, own_in, other_in, apart_own, pair_from_own, pair_from_other, pair_from_proper, all_new_pairs}
use Rattle.pairing.proofs.Pairs.{strict_comes_before}
use Rattle.queue.specs.declared.Queue.{Queue}
use Rattle.queue.specs.Queue.{places, waiting, no_pair, queue_of, Holds, sound_pair, spare_pair, sound_queue}
use Rattle.queue.proofs.Laws.{none_spare, queue_passes, ascending_waiting, waiting_length}

-- ---- the queue that stores some pairs

-- they wait in it
pub waiting_stored : (ps : List Pair) → waiting (queue_of ps) ≡ ps
waiting_stored ps = pad_to_take places no_pair ps (length ps) refl

pub holds_stored : (ps : List Pair) → length ps ≤ places → Holds (queue_of ps)
holds_stored ps h = stores_stored no_pair places ps (length ps) refl h

-- it is the one in which they do
pub queue_waiting : (queue : Queue) → Holds queue → queue_of (waiting queue) ≡ queue
queue_waiting queue h = λ i. record { count = waiting_length queue h i; places = sym h.same i }

-- ---- the judge's tests as facts

-- a waiting pair, where the side has accepted `own` entries and the other side `other`
pub record SoundPair (side : Side) (own other : ℕ) (p : Pair) : Type 0 where
  pub proper : proper_of p.meeting ≡ true
  pub ours : own_in side p < own
  pub theirs : other_in side p < other

pub record SoundWaiting (side : Side) (own other : ℕ) (ps : List Pair) : Type 0 where
  pub few : length ps ≤ places
  pub sounds : All (SoundPair side own other) ps
  pub ascends : Ascending comes_before ps

-- seen from the other side
pub turned_to_b : (own other : ℕ) (ps : List Pair) → SoundWaiting A own other ps → SoundWaiting B other own ps
turned_to_b own other ps h = record {
  few = h.few;
  sounds = all_map (SoundPair A own other) (SoundPair B other own) (λ p s. record { proper = s.proper; ours = s.theirs; theirs = s.ours }) ps h.sounds;
  ascends = h.ascends;
}

pub turned_to_a : (own other : ℕ) (ps : List Pair) → SoundWaiting B own other ps → SoundWaiting A other own ps
turned_to_a own other ps h = record {
  few = h.few;
  sounds = all_map (SoundPair B own other) (SoundPair A other own) (λ p s. record { proper = s.proper; ours = s.theirs; theirs = s.ours }) ps h.sounds;
  ascends = h.ascends;
}

module _ (of_a of_b : ℕ) where
  pair_facts : (p : Pair) → sound_pair of_a of_b p ≡ true → SoundPair A of_a of_b p
  pair_facts p e =
      let rest = and_right (proper_of p.meeting) _ e in
      record {
        proper = and_left (proper_of p.meeting) _ e;
        ours = ltb-true p.a.ordinal of_a (and_left (ltb p.a.ordinal of_a) _ rest);
        theirs = ltb-true p.b.ordinal of_b (and_right (ltb p.a.ordinal of_a) _ rest);
      }

  pair_judged : (p : Pair) → SoundPair A of_a of_b p → sound_pair of_a of_b p ≡ true
  pair_judged p h = rw (h.proper, lt-ltb p.a.ordinal of_a h.ours, lt-ltb p.b.ordinal of_b h.theirs)

  -- what the judge passes
  pub judged_waiting : (queue : Queue) → Holds queue → sound_queue of_a of_b queue ≡ true → SoundWaiting A of_a of_b (waiting queue)
  judged_waiting queue h e =
      let ps = waiting queue in
      let all = queue_passes of_a of_b queue e in
      record {
        few = omega (arith, waiting_length queue h, h.few);
        sounds = all_map (λ (p : Pair). sound_pair of_a of_b p ≡ true) (SoundPair A of_a of_b) pair_facts ps (list_all_all (sound_pair of_a of_b) ps all.sounds_pass);
        ascends = ascending_waiting queue all.order_pass;
      }

  -- passes the judge
  pub waiting_judged : (ps : List Pair) → SoundWaiting A of_a of_b ps → sound_queue of_a of_b (queue_of ps) ≡ true
  unfolding sound_queue
  waiting_judged ps h =
      rw (
        waiting_stored ps,
        le-leb (length ps) places h.few,
        all_list_all (sound_pair of_a of_b) ps (all_map (SoundPair A of_a of_b) (λ (p : Pair). sound_pair of_a of_b p ≡ true) pair_judged ps h.sounds),
        each_chain comes_before ps h.ascends,
        spare_stored no_pair places ps (length ps) refl spare_pair none_spare,
      )

-- ---- kept

module _ (side : Side) (own other : ℕ) where
  -- no pair waits
  pub waiting_none : SoundWaiting side own other []
  waiting_none = record { few = omega arith; sounds = tt; ascends = tt }

  module _ (ps : List Pair) (h : SoundWaiting side own other ps) where
    -- the first k are dropped
    pub waiting_dropped : (k : ℕ) → SoundWaiting side own other (drop k ps)
    waiting_dropped k = record {
      few = omega (arith, length-drop k ps, h.few);
      sounds = all_drop (SoundPair side own other) k ps h.sounds;
      ascends = each_drop (λ (p q : Pair). comes_before p q ≡ true) k ps h.ascends;
    }

    -- one more entry of the side, and its pairs with entries of the other go in
    module _ (rule : Rule) (x : Numbered) (others : List Numbered) (last : x.ordinal ≡ own) (below : All (λ (y : Numbered). y.ordinal < other) others) where
      -- each new pair has the new ordinal
      new_own : All (λ (p : Pair). own_in side p ≡ own) (new_pairs rule side x others)
      new_own = all_new_pairs (λ (p : Pair). own_in side p ≡ own) (λ (y : Numbered). y.ordinal < other) rule side x others (λ y k e. pair_from_own x y side ∙ last) below

      -- so that none is in the place of one that waits
      new_apart : All (λ (p : Pair). All (Apart comes_before p) ps) (new_pairs rule side x others)
      new_apart = all_map (λ (p : Pair). own_in side p ≡ own) (λ (p : Pair). All (Apart comes_before p) ps)
          (λ p m. all_map (SoundPair side own other) (Apart comes_before p) (λ q s. apart_own side p q (λ f. omega (arith, s.ours))) ps h.sounds) (new_pairs rule side x others) new_own

      new_sound : All (SoundPair side (own + 1) other) (new_pairs rule side x others)
      new_sound = all_new_pairs (SoundPair side (own + 1) other) (λ (y : Numbered). y.ordinal < other) rule side x others
          (λ y k e. record { proper = pair_from_proper x y side rule e; ours = rw (pair_from_own x y side) (omega arith); theirs = rw (pair_from_other x y side) k }) below

      pub waiting_merged : Each Later others → length ps + length (new_pairs rule side x others) ≤ places → SoundWaiting side (own + 1) other (insert_all_by comes_before (new_pairs rule side x others) ps)
      waiting_merged laters room = record {
        few = omega (arith, insert_all_by_length comes_before (new_pairs rule side x others) ps);
        sounds = all_insert_all_by comes_before (SoundPair side (own + 1) other) (new_pairs rule side x others) ps new_sound
            (all_map (SoundPair side own other) (SoundPair side (own + 1) other) (λ p s. record { proper = s.proper; ours = omega (arith, s.ours); theirs = s.theirs }) ps h.sounds);
        ascends = insert_all_by_ascending comes_before strict_comes_before (new_pairs rule side x others) ps h.ascends
            (each_map (λ (p q : Pair). comes_before p q ≡ true) (Apart comes_before) (λ p q e. inl e) (new_pairs rule side x others) (new_pairs_ascending rule side x others laters)) new_apart;
      }
