-- Laws of the queue: what its places store, where a new pair goes, what dropping and a merge leave, and what is ready.
use Prim.Native.Nat.{ℕ, ◌+◌, ◌-◌, ◌≤◌, ◌<◌}
use native.Mathlib.Nat.{zero-add}
use native.Mathlib.Omega.{arith}
use mathlib.Core.Bool.{Bool, true, false, not, ◌&&◌, and-false}
use mathlib.Core.List.{List, ◌++◌}
use mathlib.Core.Path.{◌≡◌, refl, sym, ap, ◌∙◌}
use lib.Dec.{leb, eqb}
use lib.ListN.{length, replicate, take, drop, get_or, length-drop}
use lib.Seq.{slice, paste, drop-drop, get_or-take}
use borrow.Author.Rules.{rules}
use borrow.Author.Tests.{eqb-true, leb-true}
use borrow.Rule.Slice.PartMut.{put_mid}
use Rattle.std.specs.List.{list_all, prefix_len}
use Rattle.std.specs.Prelude.{filter}
use Rattle.std.proofs.lemmas.Slice.{between_is}
use Rattle.lists.specs.Judge.{chain}
use Rattle.lists.specs.Sort.{insert_all_by}
use Rattle.lists.proofs.All.{each_map}
use Rattle.lists.proofs.Bools.{and_left, and_right}
use Rattle.lists.proofs.First.{Down, filter_prefix}
use Rattle.lists.proofs.InPlace.{moved_padded, padded_over}
use Rattle.lists.proofs.Judge.{Passes, passes, chain_each}
use Rattle.lists.proofs.Merge.{below}
use Rattle.lists.proofs.Order.{Ascending}
use Rattle.lists.proofs.Sort.{insert_all_by_length}
use Rattle.lists.proofs.Store.{stores_length, stored_length, stores_rest, stores_judged}
use Rattle.pairing.specs.declared.Pair.{Pair}
use Rattle.pairing.specs.Pair.{comes_before}
use Rattle.pairing.specs.Numbers.{pair_numbers}
use Rattle.pairing.proofs.Pairs.{strict_comes_before, before_start}
use Rattle.journal.specs.declared.Gate.{Gate}
use Rattle.journal.proofs.Due.{due_down}
use Rattle.queue.specs.declared.Queue.{Queue}
use Rattle.queue.specs.Queue.{places, waiting, no_pair, queue_of, Holds, ready, sound_pair, spare_pair, sound_queue}

-- ---- the judge

-- eight zeros are no pair, as `default` makes it
pub none_default : (p : Pair) → ((p.meeting.start ≡ 0) × (p.meeting.end ≡ 0)) × (((p.a.ordinal ≡ 0) × ((p.a.key ≡ 0) × (p.a.value ≡ 0))) × ((p.b.ordinal ≡ 0) × ((p.b.key ≡ 0) × (p.b.value ≡ 0)))) → p ≡ no_pair
none_default p z = λ i. record {
  meeting = record { start = z.0.0 i; end = z.0.1 i };
  a = record { ordinal = z.1.0.0 i; key = z.1.0.1.0 i; value = z.1.0.1.1 i };
  b = record { ordinal = z.1.1.0 i; key = z.1.1.1.0 i; value = z.1.1.1.1 i };
}

-- and so is a place that is spare
pub spare_none : (p : Pair) → spare_pair p ≡ true → p ≡ no_pair
unfolding pair_numbers
spare_none p e =
    let e1 = and_right (eqb p.meeting.start 0) _ e in
    let e2 = and_right (eqb p.meeting.end 0) _ e1 in
    let e3 = and_right (eqb p.a.ordinal 0) _ e2 in
    let e4 = and_right (eqb p.b.ordinal 0) _ e3 in
    let e5 = and_right (eqb p.a.key 0) _ e4 in
    let e6 = and_right (eqb p.b.key 0) _ e5 in
    let e7 = and_right (eqb p.a.value 0) _ e6 in
    let start = eqb-true p.meeting.start 0 (and_left (eqb p.meeting.start 0) _ e) in
    let end = eqb-true p.meeting.end 0 (and_left (eqb p.meeting.end 0) _ e1) in
    let a_ordinal = eqb-true p.a.ordinal 0 (and_left (eqb p.a.ordinal 0) _ e2) in
    let b_ordinal = eqb-true p.b.ordinal 0 (and_left (eqb p.b.ordinal 0) _ e3) in
    let a_key = eqb-true p.a.key 0 (and_left (eqb p.a.key 0) _ e4) in
    let b_key = eqb-true p.b.key 0 (and_left (eqb p.b.key 0) _ e5) in
    let a_value = eqb-true p.a.value 0 (and_left (eqb p.a.value 0) _ e6) in
    let b_value = eqb-true p.b.value 0 (and_left (eqb p.b.value 0) _ e7) in
    none_default p ((start, end), ((a_ordinal, (a_key, a_value)), (b_ordinal, (b_key, b_value))))

-- tests of the parts of a pair, one partner after the other or number by number
pub by_numbers : (a_ordinal a_key a_value b_ordinal b_key b_value : Bool)
    → (a_ordinal && (a_key && a_value)) && (b_ordinal && (b_key && b_value)) ≡ a_ordinal && (b_ordinal && (a_key && (b_key && (a_value && b_value))))
by_numbers false b c d e f = refl
by_numbers true b c false e f = and-false (b && c)
by_numbers true false c true e f = refl
by_numbers true true false true e f = sym (and-false e)
by_numbers true true true true e f = refl

pub none_spare : spare_pair no_pair ≡ true
unfolding pair_numbers
none_spare = refl

-- places that are spare beyond the count store the waiting pairs
pub spare_holds : (queue : Queue) → queue.count ≤ places → length queue.places ≡ places → list_all spare_pair (drop queue.count queue.places) ≡ true → Holds queue
spare_holds queue few full e = stores_judged no_pair places queue.count queue.places spare_pair spare_none full few e

-- what a sound queue has
pub queue_passes : (of_a of_b : ℕ) (queue : Queue) → sound_queue of_a of_b queue ≡ true
    → Passes (leb queue.count places) (list_all (sound_pair of_a of_b) (waiting queue)) (chain comes_before (waiting queue)) (list_all spare_pair (drop queue.count queue.places))
unfolding sound_queue
queue_passes of_a of_b queue e = passes _ _ _ _ e

-- so its places store just what it holds
pub sound_holds : (of_a of_b : ℕ) (queue : Queue) → length queue.places ≡ places → sound_queue of_a of_b queue ≡ true → Holds queue
sound_holds of_a of_b queue full e =
    let all = queue_passes of_a of_b queue e in
    spare_holds queue (leb-true queue.count places all.few_pass) full all.spare_pass

-- neighbours in order are all in order
pub ascending_waiting : (queue : Queue) → chain comes_before (waiting queue) ≡ true → Ascending comes_before (waiting queue)
ascending_waiting queue sorted = chain_each comes_before strict_comes_before.trans (waiting queue) sorted

-- ---- where a new pair goes

-- what is answered of the pair in a place, said of the first w of them
pub asked : (p : Pair) (l : List Pair) (w n : ℕ) {answer : Bool} (b : Bool) → n < w → answer ≡ comes_before p (get_or l n no_pair) → answer ≡ b → below comes_before p (get_or (take w l) n no_pair) ≡ not b
asked p l w n b h e f = ap (below comes_before p) (get_or-take w l n no_pair h) ∙ ap not (sym e ∙ f)

-- ---- what is ready

-- a pair before a ready one is ready
ready_down : (a b : Gate) (p q : Pair) → comes_before p q ≡ true → Down (ready a b) p q
unfolding ready
ready_down = due_down (λ (p : Pair). p.meeting.start) comes_before before_start

-- so the front that is ready is all that is
pub ready_front : (queue : Queue) (a b : Gate) → chain comes_before (waiting queue) ≡ true → filter (ready a b) (waiting queue) ≡ take (prefix_len (ready a b) (waiting queue)) (waiting queue)
ready_front queue a b sorted =
    filter_prefix (ready a b) (waiting queue) (each_map (λ (p q : Pair). comes_before p q ≡ true) (Down (ready a b)) (ready_down a b) (waiting queue) (ascending_waiting queue sorted))

module _ (queue : Queue) (h : Holds queue) where
  pub holds_length : length queue.places ≡ places
  holds_length = stores_length no_pair places queue.count queue.places h

  pub waiting_length : length (waiting queue) ≡ queue.count
  waiting_length = stored_length no_pair places queue.count queue.places h

  -- ---- the first ones dropped

  pub dropped : (k : ℕ) → k ≤ queue.count
      → record { count = queue.count - k; places = put_mid (queue.count - k) (queue.count - (queue.count - k)) (paste queue.places 0 (drop k queue.places) (queue.count - k)) (replicate (queue.count - (queue.count - k)) no_pair) }
      ≡ queue_of (drop k (waiting queue))
  dropped k less =
      let n = queue.count in
      let l = queue.places in
      let moved = paste l 0 (drop k l) (n - k) in
      let count : n - k ≡ length (drop k (waiting queue)) = sym (length-drop k (waiting queue) ∙ ap (λ (m : ℕ). m - k) waiting_length) in
      let part : take (n - k) (drop k l) ≡ slice k n l = search (rules, between_is) in
      let front : moved ≡ slice k n l ++ drop (n - k) l = ap (λ (t : List Pair). t ++ drop (0 + (n - k)) l) part ∙ ap (λ (m : ℕ). slice k n l ++ drop m l) (zero-add (n - k)) in
      let gap : n - k + (n - (n - k)) ≡ n = omega arith in
      let left : put_mid (n - k) (n - (n - k)) moved (replicate (n - (n - k)) no_pair) ≡ take (n - k) moved ++ (replicate (n - (n - k)) no_pair ++ drop n moved) =
      ap (λ (t : List Pair). take (n - k) moved ++ (replicate (n - (n - k)) no_pair ++ t)) (drop-drop (n - (n - k)) (n - k) moved ∙ ap (λ (m : ℕ). drop m moved) gap) in
      let stored = moved_padded places n k no_pair l moved (put_mid (n - k) (n - (n - k)) moved (replicate (n - (n - k)) no_pair)) holds_length h.few less (stores_rest no_pair places n l h) front left in
      λ i. record { count = count i; places = stored i }

  -- ---- the new pairs merged

  -- the new pairs among the waiting ones, in the places of as many more
  pub merged : (new : List Pair) (left : List Pair) → queue.count + length new ≤ places
      → left ≡ insert_all_by comes_before new (waiting queue) ++ drop (queue.count + length new) queue.places
      → record { count = queue.count + length new; places = left } ≡ queue_of (insert_all_by comes_before new (waiting queue))
  merged new left room e =
      let all = insert_all_by comes_before new (waiting queue) in
      let long : length all ≡ queue.count + length new = insert_all_by_length comes_before new (waiting queue) ∙ omega (arith, waiting_length) in
      let stored = e ∙ padded_over places queue.count (queue.count + length new) no_pair queue.places all (stores_rest no_pair places queue.count queue.places h) (omega arith) room long in
      λ i. record { count = sym long i; places = stored i }
