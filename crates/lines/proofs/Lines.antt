-- Laws of `line`: a line field by field, and how long it is.
use Prim.Native.Nat.{ℕ, suc, ◌+◌, ◌-◌, ◌*◌, ◌≤◌, ◌<◌}
use Rattle.std.proofs.lemmas.List.{get_or-take}
use native.Mathlib.Numerals.{add-one}
use native.Mathlib.Omega.{arith}
use mathlib.Core.List.{List, [], ◌∷◌, ◌++◌, append_assoc}
use mathlib.Core.Path.{◌≡◌, refl, sym, ap, ◌∙◌}
use lib.Dec.{lit<}
use lib.ListN.{length, take, drop, get_or, length-append, length-take}
use lib.Seq.{drop-cons, drop-length}
use Rattle.lists.specs.Put.{put}
use Rattle.lists.proofs.All.{All}
use Rattle.lists.proofs.Put.{put_then}
use Rattle.lines.specs.Decimal.{decimal}
use Rattle.lines.specs.Line.{line, field}
use Rattle.lines.proofs.Decimals.{decimal_few}

length_field : (n b : ℕ) (rest : List ℕ) → length ((decimal n ++ (b ∷ [])) ++ rest) ≡ length (decimal n) + 1 + length rest
length_field n b rest = simp length-append (omega arith)

-- ---- field by field

pub line_one : (n : ℕ) → line (n ∷ []) ≡ decimal n ++ (10 ∷ [])
unfolding line
line_one n = refl

pub line_more : (n m : ℕ) (ns : List ℕ) → line (n ∷ m ∷ ns) ≡ (decimal n ++ (32 ∷ [])) ++ line (m ∷ ns)
unfolding line
line_more n m ns = sym (append_assoc (decimal n) (32 ∷ []) (line (m ∷ ns)))

pub line_two : (n m : ℕ) → line (n ∷ m ∷ []) ≡ (decimal n ++ (32 ∷ [])) ++ (decimal m ++ (10 ∷ []))
line_two n m = line_more n m [] ∙ ap (λ (bs : List ℕ). (decimal n ++ (32 ∷ [])) ++ bs) (line_one m)

-- from one of the numbers before the last on
module _ (row : List ℕ) (i : ℕ) (h : i < length (take (length row - 1) row)) where
  pub line_from : line (drop i row) ≡ (decimal (get_or (take (length row - 1) row) i 0) ++ (32 ∷ [])) ++ line (drop (i + 1) row)
  line_from =
      let before : i < length row - 1 = omega (arith, length-take (length row - 1) row) in
      rw (get_or-take (length row - 1) row i 0 before, add-one, drop-cons row i 0 (omega arith), drop-cons row (suc i) 0 (omega arith)) (line_more (get_or row i 0) (get_or row (suc i) 0) (drop (suc (suc i)) row))

  pub length_from : length (line (drop i row)) ≡ length (decimal (get_or (take (length row - 1) row) i 0)) + 1 + length (line (drop (i + 1) row))
  length_from = ap length line_from ∙ length_field (get_or (take (length row - 1) row) i 0) 32 (line (drop (i + 1) row))

-- from the last on
pub line_last : (row : List ℕ) (i : ℕ) → 0 < length row → i ≡ length row - 1 → line (drop i row) ≡ decimal (get_or row (length row - 1) 0) ++ (10 ∷ [])
line_last row i some e =
    let k = length row - 1 in
    let all : suc k ≡ length row = omega arith in
    let none : drop (suc k) row ≡ [] = ap (λ (n : ℕ). drop n row) all ∙ drop-length row in
    ap (λ (n : ℕ). line (drop n row)) e ∙ ap line (drop-cons row k 0 (omega arith) ∙ ap (λ (ns : List ℕ). get_or row k 0 ∷ ns) none) ∙ line_one (get_or row k 0)

-- ---- how long it is

pub length_two : (n m : ℕ) → length (line (n ∷ m ∷ [])) ≡ length (decimal n) + 1 + (length (decimal m) + 1)
length_two n m = ap length (line_two n m) ∙ simp length-append (omega arith)

-- each number and the byte behind it take a field
pub line_few : (row : List ℕ) → 0 < length row → All (λ (n : ℕ). n < 4294967296) row → length (line row) ≤ field * length row
line_few [] some small = absurd (omega arith)
line_few (n ∷ []) some small = rw line_one (simp length-append (omega (arith, decimal_few n 10 (omega arith) (lit< tt))))
line_few (n ∷ m ∷ ns) some small =
    let rest = line_few (m ∷ ns) (omega arith) small.1 in
    rw (line_more, length_field n 32 (line (m ∷ ns))) (omega (arith, decimal_few n 10 (omega arith) (lit< tt)))

-- ---- put in field by field

-- a number with a byte behind it, and more behind both
pub field_then : (at n b : ℕ) (rest old : List ℕ) {mid : List ℕ} {next : ℕ} → next ≡ at + length (decimal n) + 1 → mid ≡ put at (decimal n ++ (b ∷ [])) old
    → at + (length (decimal n) + 1 + length rest) ≤ length old → put next rest mid ≡ put at ((decimal n ++ (b ∷ [])) ++ rest) old
field_then at n b rest old {mid} {next} behind e h =
    let long : length (decimal n ++ (b ∷ [])) ≡ length (decimal n) + 1 = simp length-append (omega arith) in
    let place : next ≡ at + length (decimal n ++ (b ∷ [])) = omega arith in
    put_then at (decimal n ++ (b ∷ [])) rest old e (ap (λ (p : ℕ). put p rest mid) place) (omega arith)
