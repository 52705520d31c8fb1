-- The contract of each public function allows one result. Of the text of a note it allows one place and one content.
use mathlib.Core.List.{List}
use mathlib.Core.Path.{◌≡◌, refl, sym, ◌∙◌}
use Prim.Native.Nat.{ℕ}
use Rattle.std.specs.Prelude.{Option, Some, None, Result, Ok, Err}
use Rattle.unique.specs.Unique.{OneResult, OneOutcome}
use Rattle.unique.proofs.Equation.{one_by_equation}
use Rattle.refusals.proofs.Numbers.{same_number}
use Rattle.feed.specs.declared.Found.{Found as FoundAt}
use Rattle.feed.specs.declared.Misread.{Misread}
use Rattle.feed.specs.Reading.{reading_seen}
use Rattle.feed.proofs.shows.Reads as shows
use Rattle.feed.proofs.read.Reads as read
use Rattle.feed.proofs.read_pair.Reads as read-pair
use Rattle.feed.proofs.text.Reads as text

one_shows : OneResult shows.Post
one_shows = one_by_equation _ _

-- a reading tells its answer
pub same_reading : {R : Type 0} (x y : Result (Option (FoundAt R)) Misread) → reading_seen x ≡ reading_seen y → x ≡ y
same_reading (Ok (Some f)) (Ok (Some g)) e =
    let what : f.found ≡ g.found = cc in
    let next : f.next ≡ g.next = cc in
    λ i. Ok (Some (record { found = what i; next = next i }))
same_reading (Ok (Some f)) (Ok None) e = cc
same_reading (Ok (Some f)) (Err n) e = cc
same_reading (Ok None) (Ok (Some g)) e = cc
same_reading (Ok None) (Ok None) e = refl
same_reading (Ok None) (Err n) e = cc
same_reading (Err m) (Ok (Some g)) e = cc
same_reading (Err m) (Ok None) e = cc
same_reading (Err m) (Err n) e =
    let why = same_number m.refusal n.refusal (cc) in
    let place : m.place ≡ n.place = cc in
    λ i. Err (record { refusal = why i; place = place i })

one_read : OneResult read.Post
one_read κs args x y left other p q = same_reading x y (p ∙ sym q)

one_read_pair : OneResult read-pair.Post
one_read_pair κs args x y left other p q = same_reading x y (p ∙ sym q)

one_text : OneOutcome {Seen = (ℕ × ℕ) × List ℕ} (λ κs part left. (part.ref_ptr, part.now)) text.Post
one_text κs args x y left other p q = λ i. ((p.0 ∙ sym q.0) i, (p.1 ∙ sym q.1) i)
