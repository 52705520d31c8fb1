-- Laws of fields: where each stands, counted from the record's first byte; and that packing and unpacking undo each other, over any widths.
use Prim.Native.Nat.{ℕ, ◌+◌, ◌-◌, ◌≤◌}
use native.Mathlib.Omega.{arith}
use mathlib.Core.List.{List, [], ◌∷◌, ◌++◌, append_assoc}
use mathlib.Core.Path.{◌≡◌, refl, ap, ◌∙◌}
use lib.ListN.{length, take, drop, length-append, length-drop}
use lib.Seq.{drop-drop, take-add, take_at, drop_at, take-take}
use Rattle.std.proofs.lemmas.List.{drop-take}
use Rattle.feed.specs.Number.{value, bytes, Bytes}
use Rattle.feed.specs.Kind.{entry, mark, pair, packed, Room, unpacked, fields_in}
use Rattle.feed.proofs.Numbers.{bytes_length, value_bytes, bytes_drop, bytes_value_take}

-- the number of a width at a place
abbrev pub at : ℕ → ℕ → List ℕ → ℕ
at width place bs = value (take width (drop place bs))

pub entry_places : (bs : List ℕ) → fields_in entry bs ≡ at 2 4 bs ∷ at 4 6 bs ∷ at 4 10 bs ∷ at 4 14 bs ∷ at 4 18 bs ∷ []
entry_places bs = rw (drop-drop 2 4 bs, drop-drop 4 6 bs, drop-drop 4 10 bs, drop-drop 4 14 bs)

pub mark_places : (bs : List ℕ) → fields_in mark bs ≡ at 2 4 bs ∷ at 4 6 bs ∷ []
mark_places bs = rw (drop-drop 2 4 bs)

pub pair_places : (bs : List ℕ) → fields_in pair bs ≡ at 4 4 bs ∷ at 4 8 bs ∷ at 4 12 bs ∷ at 4 16 bs ∷ at 4 20 bs ∷ at 4 24 bs ∷ at 4 28 bs ∷ at 4 32 bs ∷ []
pair_places bs = rw (drop-drop 4 4 bs, drop-drop 4 8 bs, drop-drop 4 12 bs, drop-drop 4 16 bs, drop-drop 4 20 bs, drop-drop 4 24 bs, drop-drop 4 28 bs)

-- ---- packing and unpacking

abbrev pub total : List ℕ → ℕ
total [] = 0
total (width ∷ widths) = width + total widths

pub packed_length : (widths numbers : List ℕ) → Room widths numbers → length (packed widths numbers) ≡ total widths
packed_length [] [] h = refl
packed_length [] (number ∷ numbers) h = elim h [ ]
packed_length (width ∷ widths) [] h = elim h [ ]
packed_length (width ∷ widths) (number ∷ numbers) h = simp (length-append, bytes_length, packed_length widths numbers h.1)

-- numbers that were packed are unpacked, whatever follows them
pub unpacked_packed : (widths numbers rest : List ℕ) → Room widths numbers → unpacked widths (packed widths numbers ++ rest) ≡ numbers
unpacked_packed [] [] rest h = refl
unpacked_packed [] (number ∷ numbers) rest h = elim h [ ]
unpacked_packed (width ∷ widths) [] rest h = elim h [ ]
unpacked_packed (width ∷ widths) (number ∷ numbers) rest h =
    rw (
      append_assoc (bytes width number) (packed widths numbers) rest,
      take_at (bytes width number) (packed widths numbers ++ rest) width (bytes_length width number),
      drop_at (bytes width number) (packed widths numbers ++ rest) width (bytes_length width number),
      value_bytes width number h.0,
      unpacked_packed widths numbers rest h.1,
    )

-- bytes that were unpacked are packed as they were
pub packed_unpacked : (widths bs : List ℕ) → Bytes bs → total widths ≤ length bs → packed widths (unpacked widths bs) ≡ take (total widths) bs
packed_unpacked [] bs h k = refl
packed_unpacked (width ∷ widths) bs h k =
    let rest : total widths ≤ length (drop width bs) = simp length-drop (omega arith) in
    rw (bytes_value_take width bs h (omega arith), packed_unpacked widths (drop width bs) (bytes_drop width bs h) rest, take-add width (total widths) bs)

-- bytes behind the fields do not matter
pub drop_first : (m n : ℕ) (bs : List ℕ) → m ≤ n → drop m (take n bs) ≡ take (n - m) (drop m bs)
drop_first m n bs h =
    let split : n ≡ m + (n - m) = omega arith in
    ap (λ (k : ℕ). drop m (take k bs)) split ∙ drop-take m (n - m) bs

pub unpacked_take : (widths : List ℕ) (n : ℕ) (bs : List ℕ) → total widths ≤ n → unpacked widths (take n bs) ≡ unpacked widths bs
unpacked_take [] n bs h = refl
unpacked_take (width ∷ widths) n bs h =
    rw (take-take width n bs (omega arith), drop_first width n bs (omega arith), unpacked_take widths (n - width) (drop width bs) (omega arith))
