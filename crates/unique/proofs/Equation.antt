-- A contract that equates the result, or what is seen of it and of what is left, with a definition allows one.
use mathlib.Core.Path.{◌≡◌, sym, ◌∙◌}
use Rattle.unique.specs.Unique.{OneResult, OneOutcome}

pub one_by_equation : {Lifetimes : Type 0} {Args Result : Lifetimes → Type 0} (Left : Lifetimes → Type 0) (definition : (κs : Lifetimes) → Args κs → Result κs)
    → OneResult {Left = Left} (λ κs args result left. result ≡ definition κs args)
one_by_equation Left definition κs args x y left other p q = p ∙ sym q

-- the same where the result is read as something else, if no two results are read alike
pub one_by_reading : {Lifetimes Seen : Type 0} {Args Result : Lifetimes → Type 0} (Left : Lifetimes → Type 0) (seen : (κs : Lifetimes) → Args κs → Result κs → Seen) (definition : (κs : Lifetimes) → Args κs → Seen)
    → ((κs : Lifetimes) (args : Args κs) (x y : Result κs) → seen κs args x ≡ seen κs args y → x ≡ y)
    → OneResult {Left = Left} (λ κs args result left. seen κs args result ≡ definition κs args)
one_by_reading Left seen definition apart κs args x y left other p q = apart κs args x y (p ∙ sym q)

pub outcome_by_equation : {Lifetimes Seen : Type 0} {Args Result Left : Lifetimes → Type 0} (seen : (κs : Lifetimes) → Result κs → Left κs → Seen) (definition : (κs : Lifetimes) → Args κs → Seen)
    → OneOutcome seen (λ κs args result left. seen κs result left ≡ definition κs args)
outcome_by_equation seen definition κs args x y left other p q = p ∙ sym q

-- two that equal a third
pub agree : {A : Type 0} {x y z : A} → x ≡ z → y ≡ z → x ≡ y
agree p q = p ∙ sym q

-- a result and what is left, each equated with a definition
pub agree_both : {A B : Type 0} {x y z : A} {u v w : B} → (x ≡ z) × (u ≡ w) → (y ≡ z) × (v ≡ w) → ◌≡◌ {A = A × B} (x, u) (y, v)
agree_both p q = λ i. (agree p.0 q.0 i, agree p.1 q.1 i)
