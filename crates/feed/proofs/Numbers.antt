-- Laws of little-endian numbers, over any width.
use Prim.Native.Nat.{ℕ, zero, suc, ◌+◌, ◌*◌, ◌/◌, ◌%◌, ◌^◌, ◌≤◌, ◌<◌}
use native.Mathlib.Nat.{pow-zero, pow-suc, mul_assoc, mul_comm, one-mul, zero-add}
use native.Mathlib.Omega.{arith}
use mathlib.Core.List.{List, [], ◌∷◌, ◌++◌}
use mathlib.Core.Path.{◌≡◌, refl, ap}
use lib.ListN.{length, take, drop}
use lib.Seq.{take-add, length-take-le}
use Rattle.feed.specs.Number.{value, bytes, Bytes}

-- ---- a number and its bytes

pub bytes_length : (n x : ℕ) → length (bytes n x) ≡ n
bytes_length zero x = refl
bytes_length (suc n) x = ap suc (bytes_length n (x / 256))

pub bytes_bytes : (n x : ℕ) → Bytes (bytes n x)
bytes_bytes zero x = tt
bytes_bytes (suc n) x = (omega arith, bytes_bytes n (x / 256))

-- a number that has room in n bytes is read back from them
pub value_bytes : (n x : ℕ) → x < 256 ^ n → value (bytes n x) ≡ x
value_bytes zero x h = let e = pow-zero 256 in omega arith
value_bytes (suc n) x h =
    let e = pow-suc 256 n in
    let i = value_bytes n (x / 256) (omega arith) in
    omega arith

-- bytes are written back as they were read
pub bytes_value : (bs : List ℕ) → Bytes bs → bytes (length bs) (value bs) ≡ bs
bytes_value [] h = refl
bytes_value (b ∷ bs) h =
    let low : (b + 256 * value bs) % 256 ≡ b = let l = h.0 in omega arith in
    let high : (b + 256 * value bs) / 256 ≡ value bs = let l = h.0 in omega arith in
    rw (low, high, bytes_value bs h.1)

-- a number of n bytes has room in n bytes
pub value_room : (bs : List ℕ) → Bytes bs → value bs < 256 ^ length bs
value_room [] h = let e = pow-zero 256 in omega arith
value_room (b ∷ bs) h =
    let e = pow-suc 256 (length bs) in
    let i = value_room bs h.1 in
    let l = h.0 in
    omega arith

-- bytes that follow others count by as many powers of 256
pub value_append : (xs ys : List ℕ) → value (xs ++ ys) ≡ value xs + 256 ^ length xs * value ys
value_append [] ys = let e = pow-zero 256 in rw (e, one-mul, zero-add)
value_append (x ∷ xs) ys =
    let i = value_append xs ys in
    let e : 256 * (256 ^ length xs * value ys) ≡ 256 ^ suc (length xs) * value ys = rw (pow-suc 256 (length xs), mul_comm (256 ^ length xs) 256, mul_assoc) in
    omega arith

pub bytes_take : (n : ℕ) (bs : List ℕ) → Bytes bs → Bytes (take n bs)
bytes_take zero bs h = tt
bytes_take (suc n) [] h = tt
bytes_take (suc n) (b ∷ bs) h = (h.0, bytes_take n bs h.1)

pub bytes_drop : (n : ℕ) (bs : List ℕ) → Bytes bs → Bytes (drop n bs)
bytes_drop zero bs h = h
bytes_drop (suc n) [] h = tt
bytes_drop (suc n) (b ∷ bs) h = bytes_drop n bs h.1

-- the first bytes of some are written back as they were read
pub bytes_value_take : (n : ℕ) (bs : List ℕ) → Bytes bs → n ≤ length bs → bytes n (value (take n bs)) ≡ take n bs
bytes_value_take n bs h k = rw (length-take-le n bs k) at (bytes_value (take n bs) (bytes_take n bs h))

-- a number read in two parts
pub value_split : (m n : ℕ) (bs : List ℕ) → m ≤ length bs → value (take (m + n) bs) ≡ value (take m bs) + 256 ^ m * value (take n (drop m bs))
value_split m n bs h = rw (take-add m n bs, value_append (take m bs) (take n (drop m bs)), length-take-le m bs h)
