-- The contract of each writing allows one answer and one content of the buffer.
use mathlib.Core.List.{List}
use mathlib.Core.Path.{◌≡◌, sym, ap, ◌∙◌}
use Prim.Native.Nat.{ℕ}
use Rattle.std.specs.Prelude.{Result, Ok, Err}
use Rattle.unique.specs.Unique.{OneOutcome}
use Rattle.refusals.specs.declared.Refusal.{Refusal}
use Rattle.refusals.proofs.Numbers.{same_number}
use Rattle.feed_write.specs.Writing.{Writing, writing_seen}
use Rattle.feed_write.proofs.write_entry.Reads as write-entry
use Rattle.feed_write.proofs.write_mark.Reads as write-mark
use Rattle.feed_write.proofs.write_close.Reads as write-close
use Rattle.feed_write.proofs.write_note.Reads as write-note
use Rattle.feed_write.proofs.write_pair.Reads as write-pair

-- a writing tells its answer
same_writing : (x y : Result ℕ Refusal) → writing_seen x ≡ writing_seen y → x ≡ y
same_writing (Ok whole) (Ok other) e = cc
same_writing (Ok whole) (Err r) e = cc
same_writing (Err r) (Ok whole) e = cc
same_writing (Err r) (Err s) e = ap Err (same_number r s (cc))

one_writing : {x y : Result ℕ Refusal} {left other : List ℕ} {seen : Writing × List ℕ} → (writing_seen x, left) ≡ seen → (writing_seen y, other) ≡ seen → ◌≡◌ {A = Result ℕ Refusal × List ℕ} (x, left) (y, other)
one_writing {x} {y} p q =
    let same = p ∙ sym q in
    let answer = same_writing x y (ap (λ (s : Writing × List ℕ). s.0) same) in
    λ i. (answer i, (same i).1)

one_write_entry : OneOutcome {Seen = Result ℕ Refusal × List ℕ} (λ κs answer left. (answer, left.0.now)) write-entry.Post
one_write_entry κs args x y left other p q = one_writing p q

one_write_mark : OneOutcome {Seen = Result ℕ Refusal × List ℕ} (λ κs answer left. (answer, left.0.now)) write-mark.Post
one_write_mark κs args x y left other p q = one_writing p q

one_write_close : OneOutcome {Seen = Result ℕ Refusal × List ℕ} (λ κs answer left. (answer, left.0.now)) write-close.Post
one_write_close κs args x y left other p q = one_writing p q

one_write_note : OneOutcome {Seen = Result ℕ Refusal × List ℕ} (λ κs answer left. (answer, left.0.now)) write-note.Post
one_write_note κs args x y left other p q = one_writing p q

one_write_pair : OneOutcome {Seen = Result ℕ Refusal × List ℕ} (λ κs answer left. (answer, left.0.now)) write-pair.Post
one_write_pair κs args x y left other p q = one_writing p q
