-- What is due: it comes first, and stays the first of what is due while the gates move onward and things that are not due go in. Of any elements that fall due at a time, in any order that goes by that time first.
use Prim.Native.Nat.{ℕ, ◌≤◌}
use mathlib.Core.Bool.{Bool, true, false, not, and_comm}
use mathlib.Core.List.{List, ◌∷◌, ◌++◌}
use mathlib.Core.Path.{◌≡◌, ap, ◌∙◌}
use Rattle.std.specs.Prelude.{filter}
use Rattle.lists.proofs.All.{Each, each_map}
use Rattle.lists.proofs.Bools.{and_left, and_right}
use Rattle.lists.proofs.First.{Down, filter_split, filter_head}
use Rattle.lists.proofs.Filter.{filter_same_test, filter_again, each_filtered}
use Rattle.lists.proofs.Order.{Ascending}
use Rattle.journal.specs.declared.Gate.{Gate}
use Rattle.journal.specs.declared.Gate.TheVariants.{Open}
use Rattle.journal.specs.Journal.{below, due}
use Rattle.journal.proofs.Laws.{below_down}
use Rattle.journal.proofs.Onward.{Onward, below_onward, below_ahead}

module _ {A : Type 0} (at : A → ℕ) where
  -- the gates may be named either way round
  due_comm : (a b : Gate) (x : A) → due at a b x ≡ due at b a x
  due_comm a b x = and_comm (below a (at x)) (below b (at x))

  pub filter_due_comm : (a b : Gate) (xs : List A) → filter (due at a b) xs ≡ filter (due at b a) xs
  filter_due_comm a b xs = filter_same_test (due at a b) (due at b a) (due_comm a b) xs

  -- what is due stays due
  due_onward : (a b next_a next_b : Gate) → Onward a next_a → Onward b next_b → (x : A) → due at a b x ≡ true → due at next_a next_b x ≡ true
  due_onward a b next_a next_b on_a on_b x e =
      rw (below_onward a next_a on_a (at x) (and_left (below a (at x)) (below b (at x)) e), below_onward b next_b on_b (at x) (and_right (below a (at x)) (below b (at x)) e))

  -- what falls due no earlier than a time that a clock may move to is not due
  pub due_ahead : (a b : Gate) (time : ℕ) → Onward a (Open time) → (x : A) → time ≤ at x → due at a b x ≡ false
  due_ahead a b time on x h = rw (below_ahead a time on (at x) h)

  module _ (before : A → A → Bool) (by-time : (x y : A) → before x y ≡ true → at x ≤ at y) where
    -- what comes before something due is due
    pub due_down : (a b : Gate) (x y : A) → before x y ≡ true → Down (due at a b) x y
    due_down a b x y e f =
        let s = by-time x y e in
        rw (below_down a (at x) (at y) s (and_left (below a (at y)) (below b (at y)) f), below_down b (at x) (at y) s (and_right (below a (at y)) (below b (at y)) f))

    due_downs : (a b : Gate) (xs : List A) → Ascending before xs → Each (Down (due at a b)) xs
    due_downs a b xs h = each_map (λ (x y : A). before x y ≡ true) (Down (due at a b)) (due_down a b) xs h

    -- what is due stands first
    pub due_split : (a b : Gate) (xs : List A) → Ascending before xs → xs ≡ filter (due at a b) xs ++ filter (λ (x : A). not (due at a b x)) xs
    due_split a b xs h = filter_split (due at a b) xs (due_downs a b xs h)

    -- where something is due, the first is
    pub due_head : (a b : Gate) (y : A) (ys : List A) → Ascending before (y ∷ ys) → (x : A) (xs : List A) → filter (due at a b) (y ∷ ys) ≡ x ∷ xs → due at a b y ≡ true
    due_head a b y ys h x xs e = filter_head (due at a b) y ys (due_downs a b (y ∷ ys) h) x xs e

    -- what was due stays the first of what is due
    pub due_grows : (a b next_a next_b : Gate) → Onward a next_a → Onward b next_b → (xs next : List A) → filter (due at a b) next ≡ filter (due at a b) xs → Ascending before next
        → (new : List A) × (filter (due at next_a next_b) next ≡ filter (due at a b) xs ++ new)
    due_grows a b next_a next_b on_a on_b xs next same h =
        let l = filter (due at next_a next_b) next in
        let late : List A = filter (λ (x : A). not (due at a b x)) l in (
          late,
          due_split a b l (each_filtered (λ (x y : A). before x y ≡ true) (due at next_a next_b) next h)
              ∙ ap (λ (m : List A). m ++ late) (filter_again (due at a b) (due at next_a next_b) (due_onward a b next_a next_b on_a on_b) next ∙ same),
        )
