-- Laws of an entry that comes and of a gate that moves, which the functions rest on.
use Prim.Native.Nat.{ℕ, ◌+◌, ◌≤◌}
use native.Mathlib.Omega.{arith}
use mathlib.Core.Bool.{true, false}
use mathlib.Core.List.{List, ◌++◌}
use mathlib.Core.Path.{◌≡◌, sym, ap, ◌∙◌}
use lib.ListN.{length, length-map}
use Rattle.lists.specs.Judge.{chain}
use Rattle.lists.proofs.All.{each_map}
use Rattle.lists.proofs.Judge.{chain_each, each_chain}
use Rattle.lists.proofs.Filter.{filter_length}
use Rattle.pairing.specs.declared.Entry.{Entry}
use Rattle.pairing.specs.declared.Numbered.{Numbered}
use Rattle.pairing.specs.declared.Rule.{Rule}
use Rattle.pairing.specs.declared.Side.{Side}
use Rattle.pairing.specs.Pair.{pairs, comes_before}
use Rattle.pairing.specs.Rule.{allows}
use Rattle.pairing.specs.Side.{pair_from, new_pairs}
use Rattle.pairing.proofs.Arrival.{Later, new_pairs_map, new_pairs_ascending}
use Rattle.journal.specs.declared.Journal.{Journal}
use Rattle.journal.specs.Answer.{Answer, Accepted, Refused, first_of}
use Rattle.journal.specs.Journal.{wanted, own_rows}
use Rattle.journal.proofs.Rows.{first_refuses, first_passes}
use Rattle.area.specs.Area as area
use Rattle.area.proofs.Sound.{follows_later, follows_trans}
use Rattle.halves.specs.View.{View, Halves, Stand, seen}
use Rattle.halves.specs.Calls.{arrival, formed, key_rows, room_for, room_rows, entry_rows}
use Rattle.halves.proofs.View.{mine_length, others_length, waiting_length}

-- ---- the new pairs of an entry

-- they are as many as its partners
formed_count : (rule : Rule) (side : Side) (x : Numbered) (others : List Numbered) → length (new_pairs rule side x others) ≡ length (area.partners rule x.entry others)
formed_count rule side x others = ap length (new_pairs_map rule side x others) ∙ length-map (area.partners rule x.entry others) (pair_from side x)

-- and no more than the entries that are looked at
partners_few : (rule : Rule) (e : Entry) (xs : List Numbered) → length (area.partners rule e xs) ≤ length xs
partners_few rule e xs = filter_length (λ (x : Numbered). pairs rule e x.entry) xs

-- they come in ascending order, as the held entries follow one another
pub formed_ascending : (rule : Rule) (side : Side) (x : Numbered) (others : List Numbered) → chain area.follows others ≡ true → chain comes_before (new_pairs rule side x others) ≡ true
formed_ascending rule side x others e =
    each_chain comes_before (new_pairs rule side x others)
    (new_pairs_ascending rule side x others (each_map (λ (x y : Numbered). area.follows x y ≡ true) Later follows_later others (chain_each area.follows follows_trans others e)))

-- ---- what an entry is answered

module _ (rule : Rule) (journal : Journal) (e : Entry) where
  -- what its journal alone refuses is refused
  pub refused_alone : (number : ℕ) → Refused number ≡ first_of (own_rows journal e) → Refused number ≡ first_of (own_rows journal e ++ key_rows rule e)
  refused_alone number f = sym (first_refuses (own_rows journal e) (key_rows rule e) number (sym f))

  -- what it accepts is judged by the key
  pub refused_key : Accepted ≡ first_of (own_rows journal e) → allows rule e.key ≡ false → Refused 13 ≡ first_of (own_rows journal e ++ key_rows rule e)
  unfolding key_rows
  refused_key f k = sym (first_passes (own_rows journal e) (key_rows rule e) (sym f) ∙ rw k)

  pub refused_never : Accepted ≡ first_of (own_rows journal e) → allows rule e.key ≡ true → Accepted ≡ first_of (own_rows journal e ++ key_rows rule e)
  unfolding key_rows
  refused_never f k = sym (first_passes (own_rows journal e) (key_rows rule e) (sym f) ∙ rw k)

module _ (side : Side) (v : View) (e : Entry) where
  -- an entry is refused whatever is held
  pub refused_first : (number : ℕ) → Refused number ≡ first_of (own_rows v.own e ++ key_rows v.rule e) → Refused number ≡ first_of (entry_rows side v e)
  unfolding entry_rows
  refused_first number f = sym (first_refuses (own_rows v.own e ++ key_rows v.rule e) (room_rows side v e) number (sym f))

  -- or by the room that it finds
  pub answered_by_room : Accepted ≡ first_of (own_rows v.own e ++ key_rows v.rule e) → (answer : Answer) → answer ≡ first_of (room_rows side v e) → answer ≡ first_of (entry_rows side v e)
  unfolding entry_rows
  answered_by_room f answer g = g ∙ sym (first_passes (own_rows v.own e ++ key_rows v.rule e) (room_rows side v e) (sym f))

-- ---- an entry that halves are given which stand

module _ (halves : Halves) (stand : Stand halves) (side : Side) (e : Entry) where
  abbrev shown : View
  shown = seen halves

  -- its partners are as many as its new pairs
  pub partners_formed : (new : ℕ) → new ≡ length (area.partners halves.rule e shown.others) → new ≡ length (formed side shown e)
  partners_formed new n = n ∙ sym (formed_count halves.rule side (arrival shown e) shown.others)

  -- no more than there are places
  pub partners_placed : (new : ℕ) → new ≡ length (area.partners halves.rule e shown.others) → new ≤ area.places
  partners_placed new n =
      omega (
        arith,
        partners_few halves.rule e shown.others,
        others_length halves stand.holds_mine stand.holds_others stand.holds_queue,
        stand.holds_others.few,
      )

  -- the room is judged by the counts
  pub room_counted : (new : ℕ) → new ≡ length (formed side shown e)
      → room_for (wanted halves.other.journal.gate e) halves.own.area.count (halves.queue.count + new) ≡ room_rows side shown e
  room_counted new n =
      let held = mine_length halves stand.holds_mine stand.holds_others stand.holds_queue in
      let wait = waiting_length halves stand.holds_mine stand.holds_others stand.holds_queue in
      λ i. room_for (wanted halves.other.journal.gate e) (sym held i) (sym wait i + n i)

  -- so what the room answers is what its rows do
  pub room_answers : (new : ℕ) → new ≡ length (area.partners halves.rule e shown.others) → (answer : Answer)
      → answer ≡ first_of (room_for (wanted halves.other.journal.gate e) halves.own.area.count (halves.queue.count + new)) → answer ≡ first_of (room_rows side shown e)
  room_answers new n answer f = f ∙ ap first_of (room_counted new (partners_formed new n))
