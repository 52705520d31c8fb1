-- A result is told by the answer that it is.
use Rattle.std.proofs.Common.{◌≡◌, ap, refl, Result, Ok, Err}
use Rattle.refusals.specs.declared.Refusal.{Refusal}
use Rattle.refusals.specs.Table.{number_of}
use Rattle.refusals.proofs.Numbers.{same_number}
use Rattle.journal.specs.declared.Journal.{Journal}
use Rattle.journal.specs.Answer.{answer_of}
use Rattle.journal.specs.Journal.{Marked, marked_from}

pub same_answer : (x y : Result (Unit {0}) Refusal) → answer_of x ≡ answer_of y → x ≡ y
same_answer (Ok done) (Ok other) e = refl
same_answer (Ok done) (Err s) e = cc
same_answer (Err r) (Ok other) e = cc
same_answer (Err r) (Err s) e = let n : number_of r ≡ number_of s = cc in let same : r ≡ s = same_number r s n in cc

pub same_mark : (before : Journal) (x y : Result Journal Refusal) → marked_from before x ≡ marked_from before y → x ≡ y
same_mark before x y e = go x y (ap (λ (m : Marked). m.answer) e) (ap (λ (m : Marked). m.journal) e)
  where
    go : (x y : Result Journal Refusal) → (marked_from before x).answer ≡ (marked_from before y).answer → (marked_from before x).journal ≡ (marked_from before y).journal → x ≡ y
    go (Ok after) (Ok other) a j = cc
    go (Ok after) (Err s) a j = cc
    go (Err r) (Ok other) a j = cc
    go (Err r) (Err s) a j = let n : number_of r ≡ number_of s = cc in let same : r ≡ s = same_number r s n in cc
