-- A list kept in a fixed number of places.
use Rattle.std.specs.Prelude.{ℕ, ◌-◌, ◌≤◌, Bool, List, ◌++◌, ◌≡◌, eqb, length, replicate, take}
use Rattle.std.specs.List.{list_all}

-- the list, and z in each place beyond it, up to k places
unfoldable pub pad_to : {A : Type 0} → ℕ → A → List A → List A
pad_to k z xs = xs ++ replicate (k - length xs) z

-- Spare places are zero: every number.
abbrev pub is_blank : List ℕ → Bool
is_blank numbers = list_all (λ (n : ℕ). eqb n 0) numbers

-- the k places store the first n of them: z stands in every place beyond
pub record Stores {A : Type 0} (z : A) (k n : ℕ) (places : List A) : Type 0 where
  pub few : n ≤ k
  pub same : places ≡ pad_to k z (take n places)
