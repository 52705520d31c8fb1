-- Laws of the two services.
use Prim.Native.Nat.{ℕ, zero, suc, min}
use native.Mathlib.Nat.{zero-min, min-zero, suc-min-suc}
use mathlib.Core.Bool.{Bool, true, false, false≢true}
use mathlib.Core.List.{List, [], ◌∷◌}
use mathlib.Core.Path.{◌≡◌, sym, ap, ◌∙◌}
use lib.ListN.{length, take, length-map}
use Rattle.interval.specs.Interval.{proper_of}
use Rattle.std.specs.Prelude.{filter, Result, Ok, Err}
use Rattle.lists.proofs.All.{all_any}
use Rattle.lists.proofs.Bools.{bool_ext}
use Rattle.lists.proofs.Filter.{filter_none, filter_again, filter_mapped}
use Rattle.pairing.specs.declared.Entry.{Entry}
use Rattle.pairing.specs.declared.Numbered.{Numbered}
use Rattle.pairing.specs.declared.Rule.{Rule}
use Rattle.pairing.specs.Pair.{pairs}
use Rattle.pairing.specs.Rule.{allows}
use Rattle.pairing.proofs.Pairs.{pairs_comm, pairs_proper, pairs_allows}
use Rattle.journal.specs.declared.Gate.TheVariants.{Open}
use Rattle.journal.specs.declared.Journal.{Journal}
use Rattle.journal.specs.Answer.{Answer, Accepted, Refused, unless_refused}
use Rattle.journal.specs.Journal.{moved, marked}
use Rattle.area.specs.declared.Area.{Area}
use Rattle.area.specs.Area.{places, held, partners}
use Rattle.refusals.specs.declared.Refusal.{Refusal}
use Rattle.refusals.specs.Table.{number_of}
use Rattle.refusals.proofs.Numbers.{same_number}
use Rattle.lent.specs.Counted.{answered, counted, counted_as, entries_of}

-- ---- the count

-- what cannot be a partner may be left out of the run first
counted_passing : (rule : Rule) (given : Entry) (run : List Entry) (test : Entry → Bool) → ((e : Entry) → pairs rule given e ≡ true → test e ≡ true) → counted rule given (filter test run) ≡ counted rule given run
counted_passing rule given run test h = ap (λ (l : List Entry). answered given (length l)) (filter_again (pairs rule given) test h run)

-- an improper entry in the run pairs with nothing: the count is that of the proper ones
pub counted_proper : (rule : Rule) (given : Entry) (run : List Entry) → counted rule given (filter (λ (e : Entry). proper_of e.span) run) ≡ counted rule given run
counted_proper rule given run = counted_passing rule given run (λ e. proper_of e.span) (λ e. pairs_proper rule given e)

-- nor does one of a key that the rule does not allow
pub counted_allowed : (rule : Rule) (given : Entry) (run : List Entry) → counted rule given (filter (λ (e : Entry). allows rule e.key) run) ≡ counted rule given run
counted_allowed rule given run = counted_passing rule given run (λ e. allows rule e.key) (λ e h. pairs_allows rule e given (pairs_comm rule e given ∙ h))

-- and where the given key is such a one, none is counted
pub counted_none : (rule : Rule) (given : Entry) (run : List Entry) → allows rule given.key ≡ false → counted rule given run ≡ answered given 0
counted_none rule given run barred =
    let none : (e : Entry) → pairs rule given e ≡ false = λ e. bool_ext (pairs rule given e) false (λ h. sym barred ∙ pairs_allows rule given e h) (λ f. absurd (false≢true f)) in
    ap (λ (l : List Entry). answered given (length l)) (filter_none (pairs rule given) run (all_any (λ (e : Entry). pairs rule given e ≡ false) none run))

-- it is the same whichever journal the run is of
pub counted_comm : (rule : Rule) (given : Entry) (run : List Entry) → counted rule given run ≡ answered given (length (filter (λ (e : Entry). pairs rule e given) run))
counted_comm rule given run = ap (λ (test : Entry → Bool). answered given (length (filter test run))) (λ i e. pairs_comm rule given e i)

-- a result is told by the count that it is
pub same_count : (x y : Result ℕ Refusal) → counted_as x ≡ counted_as y → x ≡ y
same_count (Ok m) (Ok n) e = cc
same_count (Ok m) (Err s) e = cc
same_count (Err r) (Ok n) e = cc
same_count (Err r) (Err s) e = let n : number_of r ≡ number_of s = cc in let same : r ≡ s = same_number r s n in cc

-- ---- the count over what an area holds

-- the count is the one that the area itself makes
pub counted_held : (rule : Rule) (given : Entry) (xs : List Numbered) → counted rule given (entries_of xs) ≡ answered given (length (partners rule given xs))
counted_held rule given xs =
    let entry_of : Numbered → Entry = λ x. x.entry in
    ap (answered given) (ap length (filter_mapped (pairs rule given) entry_of xs) ∙ length-map (partners rule given xs) entry_of)

take_min : {A : Type 0} (n : ℕ) (l : List A) → take (min n (length l)) l ≡ take n l
take_min zero l = ap (λ (m : ℕ). take m l) (zero-min (length l))
take_min (suc n) [] = ap (λ (m : ℕ). take m []) (min-zero (suc n))
take_min (suc n) (x ∷ l) = ap (λ (m : ℕ). take m (x ∷ l)) (suc-min-suc n (length l)) ∙ ap (λ r. x ∷ r) (take_min n l)

-- also where the area's count is beyond its places: it then holds what is in all of them
pub counted_within : (rule : Rule) (given : Entry) (area : Area) (n : ℕ) → length area.places ≡ places → n ≡ min area.count places
    → answered given (length (partners rule given (held (record { count = n; places = area.places })))) ≡ counted rule given (entries_of (held area))
counted_within rule given area n full e =
    ap (λ (xs : List Numbered). answered given (length (partners rule given xs))) (ap (λ (k : ℕ). take k area.places) (e ∙ ap (min area.count) (sym full)) ∙ take_min area.count area.places) ∙ sym (counted_held rule given (held area))

-- ---- the mark

module _ (time : ℕ) (journal : Journal) where
  -- an accepted mark moves the clock and nothing else
  pub mark_moves : (marked time journal).answer ≡ Accepted → (marked time journal).journal ≡ moved (Open time) journal
  mark_moves e = ap (λ (answer : Answer). unless_refused answer (moved (Open time) journal) journal) e

  -- a refused one leaves the record equal
  pub mark_leaves : (number : ℕ) → (marked time journal).answer ≡ Refused number → (marked time journal).journal ≡ journal
  mark_leaves number e = ap (λ (answer : Answer). unless_refused answer (moved (Open time) journal) journal) e
