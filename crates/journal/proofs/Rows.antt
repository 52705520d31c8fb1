-- Laws of a table's rows: what it takes to be accepted, and which numbers can be given.
use Prim.Native.Nat.{ℕ}
use native.Mathlib.Omega.{arith}
use mathlib.Core.Bool.{Bool, true, false, cond}
use mathlib.Core.List.{List, [], ◌∷◌, ◌++◌}
use mathlib.Core.Path.{◌≡◌, refl, sym, ◌∙◌}
use Rattle.std.specs.List.{list_all}
use Rattle.lists.specs.Check.{Check}
use Rattle.lists.proofs.All.{All}
use Rattle.lists.proofs.Bools.{and_left, and_right}
use Rattle.journal.specs.Answer.{Answer, Accepted, Refused}
use Rattle.journal.specs.Answer.{number_of, first_of, unless_refused}

-- where a call is accepted, no row applies
pub accepted_rows : (rows : List Check) → first_of rows ≡ Accepted → All (λ (row : Check). row.when ≡ false) rows
accepted_rows [] e = tt
accepted_rows (row ∷ rows) e = go row.when refl e (accepted_rows rows)
  where
    never : (n : ℕ) → Refused n ≡ Accepted → ⊥
    never n f = let z : ◌≡◌ {A = ℕ} 0 1 = cc in omega arith

    go : (b : Bool) → row.when ≡ b → cond b (Refused row.number) (first_of rows) ≡ Accepted
        → (first_of rows ≡ Accepted → All (λ (r : Check). r.when ≡ false) rows) → (row.when ≡ false) × All (λ (r : Check). r.when ≡ false) rows
    go true w f rest = absurd (never row.number f)
    go false w f rest = (w, rest f)

-- of two groups of rows the first decides, and where none of it applies, the other
first_of_append : (rows more : List Check) → first_of (rows ++ more) ≡ unless_refused (first_of rows) (first_of more) (first_of rows)
first_of_append [] more = refl
first_of_append (row ∷ rows) more = go row.when (first_of_append rows more)
  where
    go : (b : Bool) → first_of (rows ++ more) ≡ unless_refused (first_of rows) (first_of more) (first_of rows)
        → cond b (Refused row.number) (first_of (rows ++ more)) ≡ unless_refused (cond b (Refused row.number) (first_of rows)) (first_of more) (cond b (Refused row.number) (first_of rows))
    go true e = refl
    go false e = e

pub first_refuses : (rows more : List Check) (number : ℕ) → first_of rows ≡ Refused number → first_of (rows ++ more) ≡ Refused number
first_refuses rows more number e = first_of_append rows more ∙ rw e

pub first_passes : (rows more : List Check) → first_of rows ≡ Accepted → first_of (rows ++ more) ≡ first_of more
first_passes rows more e = first_of_append rows more ∙ rw e

-- where a call is accepted by both, it is by each
pub record BothAccept (rows more : List Check) : Type 0 where
  pub first : first_of rows ≡ Accepted
  pub then : first_of more ≡ Accepted

pub accepted_both : (rows more : List Check) → first_of (rows ++ more) ≡ Accepted → BothAccept rows more
accepted_both rows more e = go (first_of rows) refl (sym (first_of_append rows more) ∙ e)
  where
    go : (a : Answer) → first_of rows ≡ a → unless_refused a (first_of more) a ≡ Accepted → BothAccept rows more
    go Accepted f g = record { first = f; then = g }
    go (Refused number) f g = record { first = f ∙ g; then = absurd (let z : ◌≡◌ {A = ℕ} 0 1 = cc in omega arith) }

-- a test that passes 0 and the number of every row passes the answer's number
pub number_rows : (p : ℕ → Bool) (rows : List Check) → p 0 ≡ true → list_all (λ (row : Check). p row.number) rows ≡ true → p (number_of (first_of rows)) ≡ true
number_rows p [] none e = none
number_rows p (row ∷ rows) none e = go row.when (number_rows p rows none (and_right (p row.number) _ e))
  where
    go : (b : Bool) → p (number_of (first_of rows)) ≡ true → p (number_of (cond b (Refused row.number) (first_of rows))) ≡ true
    go true rest = and_left (p row.number) _ e
    go false rest = rest

-- what holds of the old and, if a call is accepted, of the new, holds after the call
pub unless_refused_lem : {A : Type 0} (P : A → Type 0) (answer : Answer) (new old : A) → (answer ≡ Accepted → P new) → P old → P (unless_refused answer new old)
unless_refused_lem P Accepted new old f h = f refl
unless_refused_lem P (Refused number) new old f h = h
