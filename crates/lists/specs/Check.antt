-- Checks in an order: the first that applies is given.
use Rattle.std.specs.Prelude.{ℕ, Bool, cond, List, [], ◌∷◌}

-- a check: when it applies, and its number
pub record Check : Type 0 where
  pub when : Bool
  pub number : ℕ

infix 5 ◌gives◌
abbrev pub ◌gives◌ : Bool → ℕ → Check
when gives number = record { when = when; number = number }

module _ {A : Type 0} where
  -- the refusal of the first check that applies, or the answer where none does
  abbrev pub first_or : (ℕ → A) → A → List Check → A
  first_or refused answer [] = answer
  first_or refused answer (check ∷ checks) = cond check.when (refused check.number) (first_or refused answer checks)
