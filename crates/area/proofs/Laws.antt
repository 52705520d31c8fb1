-- Laws of an area: what its places store, and what clearing leaves.
use Prim.Native.Nat.{ℕ, ◌+◌, ◌-◌, ◌≤◌, ◌<◌}
use native.Mathlib.Omega.{arith}
use mathlib.Core.Bool.{true}
use mathlib.Core.List.{List, [], ◌∷◌, ◌++◌}
use mathlib.Core.Path.{◌≡◌, refl, sym, ap, ◌∙◌}
use lib.Dec.{leb, eqb}
use lib.ListN.{length, replicate, drop, set, length-append}
use lib.Seq.{drop-drop, length-take-le}
use borrow.Author.Tests.{eqb-true, leb-true}
use borrow.Rule.Slice.PartMut.{put_mid}
use Rattle.std.proofs.lemmas.List.Filters.{FiltersInPlace}
use Rattle.std.specs.List.{list_all}
use Rattle.lists.specs.Judge.{chain}
use Rattle.lists.specs.Store.{pad_to}
use Rattle.lists.proofs.Bools.{and_left, and_right}
use Rattle.lists.proofs.InPlace.{padded_part}
use Rattle.lists.proofs.Judge.{Passes, passes}
use Rattle.lists.proofs.Store.{stores_length, stored_length, stores_rest, stored_more, stores_judged}
use Rattle.pairing.specs.declared.Numbered.{Numbered}
use Rattle.pairing.specs.declared.Rule.{Rule}
use Rattle.journal.specs.declared.Gate.{Gate}
use Rattle.journal.specs.declared.Journal.{Journal}
use Rattle.journal.specs.Journal.{wanted}
use Rattle.area.specs.declared.Area.{Area}
use Rattle.area.specs.Area.{entry_numbers, most, places, held, no_entry, area_of, Holds, wanted_by, sound_entry, follows, spare_entry, sound_area}

-- what an area may hold has places in it
pub most_fits : most ≤ places
most_fits = omega arith

-- five zeros are no entry, as `default` makes it
pub none_default : (x : Numbered) → (((x.entry.span.start ≡ 0) × (x.entry.span.end ≡ 0)) × ((x.entry.key ≡ 0) × (x.entry.value ≡ 0))) × (x.ordinal ≡ 0) → x ≡ no_entry
none_default x z = λ i. record { entry = record { span = record { start = z.0.0.0 i; end = z.0.0.1 i }; key = z.0.1.0 i; value = z.0.1.1 i }; ordinal = z.1 i }

-- and so is a place that is spare
pub spare_none : (x : Numbered) → spare_entry x ≡ true → x ≡ no_entry
unfolding entry_numbers
spare_none x e =
    let e1 = and_right (eqb x.entry.span.start 0) _ e in
    let e2 = and_right (eqb x.entry.span.end 0) _ e1 in
    let e3 = and_right (eqb x.entry.key 0) _ e2 in
    let e4 = and_right (eqb x.entry.value 0) _ e3 in
    let start = eqb-true x.entry.span.start 0 (and_left (eqb x.entry.span.start 0) _ e) in
    let end = eqb-true x.entry.span.end 0 (and_left (eqb x.entry.span.end 0) _ e1) in
    let key = eqb-true x.entry.key 0 (and_left (eqb x.entry.key 0) _ e2) in
    let value = eqb-true x.entry.value 0 (and_left (eqb x.entry.value 0) _ e3) in
    let ordinal = eqb-true x.ordinal 0 (and_left (eqb x.ordinal 0) _ e4) in
    none_default x (((start, end), (key, value)), ordinal)

pub none_spare : spare_entry no_entry ≡ true
unfolding entry_numbers
none_spare = refl

-- places that are spare beyond the count store what is held
pub spare_holds : (area : Area) → area.count ≤ places → length area.places ≡ places → list_all spare_entry (drop area.count area.places) ≡ true → Holds area
spare_holds area few full e = stores_judged no_entry places area.count area.places spare_entry spare_none full few e

-- what a sound area has
pub area_passes : (rule : Rule) (own : Journal) (other : Gate) (area : Area) → sound_area rule own other area ≡ true
    → Passes (leb area.count most) (list_all (sound_entry rule own other) (held area)) (chain follows (held area)) (list_all spare_entry (drop area.count area.places))
unfolding sound_area
area_passes rule own other area e = passes _ _ _ _ e

-- so its places store just what it holds
pub sound_holds : (rule : Rule) (own : Journal) (other : Gate) (area : Area) → length area.places ≡ places → sound_area rule own other area ≡ true → Holds area
sound_holds rule own other area full e =
    let all = area_passes rule own other area e in
    spare_holds area (leb-true area.count most all.few_pass) full all.spare_pass

module _ (area : Area) (h : Holds area) where
  pub holds_length : length area.places ≡ places
  holds_length = stores_length no_entry places area.count area.places h

  -- one more entry, in the first spare place
  pub held_more : (x : Numbered) → area.count < places → record { count = area.count + 1; places = set area.places area.count x } ≡ area_of (held area ++ (x ∷ []))
  held_more x room =
      let long = stored_length no_entry places area.count area.places h in
      let n : area.count + 1 ≡ length (held area ++ (x ∷ [])) = omega (arith, long, length-append (held area) (x ∷ [])) in
      λ i. record { count = n i; places = stored_more no_entry places area.count area.places h x room i }

  -- the squeezed places, with zeros behind what is wanted, store it
  pub cleared : (gate : Gate) (kept : ℕ) (squeezed : List Numbered) → FiltersInPlace (λ (x : Numbered). wanted gate x.entry) area.places squeezed kept area.count
      → record { count = kept; places = put_mid kept (area.count - kept) squeezed (replicate (area.count - kept) no_entry) } ≡ area_of (wanted_by gate (held area))
  cleared gate kept squeezed f =
      let xs = wanted_by gate (held area) in
      let n : kept ≡ length xs = sym (length-take-le kept squeezed (omega (arith, h.few, f.behind, f.long, holds_length))) ∙ ap length f.front in
      let whole : kept + (area.count - kept) ≡ area.count = omega (arith, f.behind) in
      let stored : put_mid kept (area.count - kept) squeezed (replicate (area.count - kept) no_entry) ≡ pad_to places no_entry xs =
      ap (λ (l : List Numbered). l ++ (replicate (area.count - kept) no_entry ++ drop (area.count - kept) (drop kept squeezed))) f.front
      ∙ padded_part places area.count (area.count - kept) no_entry xs (drop (area.count - kept) (drop kept squeezed))
      (drop-drop (area.count - kept) kept squeezed ∙ ap (λ (m : ℕ). drop m squeezed) whole ∙ f.rest ∙ stores_rest no_entry places area.count area.places h) (omega (arith, f.behind)) h.few in
      λ i. record { count = n i; places = stored i }
