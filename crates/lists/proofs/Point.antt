-- Laws of the place at which a list parts: all in front of it pass a test, and none from it on.
use Prim.Native.Nat.{ℕ, suc, ◌+◌, ◌-◌, ◌≤◌, ◌<◌}
use native.Mathlib.Omega.{arith}
use mathlib.Core.Bool.{Bool, true, false, true≢false}
use mathlib.Core.List.{List}
use mathlib.Core.Path.{◌≡◌, refl, sym, ap, ◌∙◌}
use lib.ListN.{length, take, get_or}
use lib.Seq.{slice, length-slice, get_or-take, get_or-drop}
use Rattle.std.specs.List.{AllWithin}
use Rattle.std.specs.List.Sorted.{IsPartitionedBy, IsPartitionPoint}
use Rattle.std.proofs.lemmas.List.{get_or_default}
use Rattle.lists.proofs.Order.{Compared, less, equal, more, compared}

module _ {A : Type 0} (p : A → Bool) (l : List A) where
  -- where one passes, so does all in front of it
  pub pass_to : IsPartitionedBy p l → (n : ℕ) (d : A) → n < length l → p (get_or l n d) ≡ true → AllWithin (λ (y : A). p y ≡ true) l 0 (suc n)
  pass_to parted n d inside e i d' h k = parted i n d' (omega arith) inside (ap p (get_or_default l n d' d inside) ∙ e)

  -- where one fails, so does all behind it
  pub fail_from : IsPartitionedBy p l → (n : ℕ) (d : A) → n < length l → p (get_or l n d) ≡ false → AllWithin (λ (y : A). p y ≡ false) l n (length l)
  fail_from parted n d inside e i d' h k = go (p (get_or l i d')) refl
    where
      go : (b : Bool) → p (get_or l i d') ≡ b → p (get_or l i d') ≡ false
      go false f = f
      go true f = absurd (true≢false (sym (parted n i d' h k f) ∙ ap p (get_or_default l n d' d inside) ∙ e))

  module _ (low high : ℕ) (inside : high ≤ length l) where
    between : (i : ℕ) (d : A) → low + i < high → get_or (slice low high l) i d ≡ get_or l (low + i) d
    between i d b = get_or-drop low (take high l) i d ∙ get_or-take high l (low + i) d b

    -- a stretch parts where the whole does
    pub parted_between : IsPartitionedBy p l → IsPartitionedBy p (slice low high l)
    parted_between parted i j d h b e =
        let long = length-slice low high l inside in
        ap p (between i d (omega arith)) ∙ parted (low + i) (low + j) d (omega arith) (omega arith) (sym (ap p (between j d (omega arith))) ∙ e)

    -- where all in front of a stretch passes and all behind it fails, the place in the stretch tells that in the whole
    pub point_between : (k : ℕ) → low + k ≤ high → AllWithin (λ (y : A). p y ≡ true) l 0 low → AllWithin (λ (y : A). p y ≡ false) l high (length l)
        → IsPartitionPoint (λ y. p y ≡ true) (λ y. p y ≡ false) (slice low high l) k → IsPartitionPoint (λ y. p y ≡ true) (λ y. p y ≡ false) l (low + k)
    point_between k few front back point = (pass, fail)
      where
        there : (i : ℕ) (d : A) → low ≤ i → i < high → get_or l i d ≡ get_or (slice low high l) (i - low) d
        there i d h b =
            let up : low + (i - low) ≡ i = omega arith in
            ap (λ (j : ℕ). get_or l j d) (sym up) ∙ sym (between (i - low) d (omega arith))

        pass : AllWithin (λ (y : A). p y ≡ true) l 0 (low + k)
        pass i d h b = go (compared i low)
          where
            inner : low ≤ i → p (get_or l i d) ≡ true
            inner s = ap p (there i d s (omega arith)) ∙ point.0 (i - low) d (omega arith) (omega arith)

            go : Compared i low → p (get_or l i d) ≡ true
            go (less s) = front i d h s
            go (equal e) = inner (omega arith)
            go (more g) = inner (omega arith)

        fail : AllWithin (λ (y : A). p y ≡ false) l (low + k) (length l)
        fail i d h b = go (compared i high)
          where
            go : Compared i high → p (get_or l i d) ≡ false
            go (less s) = ap p (there i d (omega arith) s) ∙ point.1 (i - low) d (omega arith) (omega (arith, length-slice low high l inside))
            go (equal e) = back i d (omega arith) b
            go (more g) = back i d (omega arith) b
