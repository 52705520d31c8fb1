-- What a read into a part of a window leaves in the window: the bytes that it brought stand where the part begins.
use Rattle.std.proofs.Common.{◌≡◌, ℕ, ◌+◌, ◌≤◌, List, ◌++◌, length, take, Result, Ok, Err, IfOk, Option, sym, ap, subst, ◌∙◌}
use Rattle.std.specs.Io.{ReadsAtMost}
use Rattle.std.specs.Io.KnownBytes.{Consumes, ReadConsumes}
use Rattle.std.proofs.Math.Seq.{slice}
use Rattle.std.proofs.lemmas.List.{drop-take, drop_at, take-append-le, length-take-le}

-- a part in the middle
read_part : {X : Type 0} (k n : ℕ) (window part behind : List X) → k ≤ length window → n ≤ length part → slice k (k + n) (take k window ++ (part ++ behind)) ≡ take n part
read_part k n window part behind some few =
    drop-take k n (take k window ++ (part ++ behind))
    ∙ ap (take n) (drop_at (take k window) (part ++ behind) k (length-take-le k window some))
    ∙ take-append-le n part behind few

pub consumes_part : {E : Type 0} (k : ℕ) (window part behind : List ℕ) (old new : Option (List ℕ)) (r : Result ℕ E) → k ≤ length window → ReadsAtMost r part → ReadConsumes old new r part
    → IfOk r (λ n. Consumes old new (slice k (k + n) (take k window ++ (part ++ behind))))
consumes_part k window part behind old new (Ok n) some few c = subst (λ (bs : List ℕ). Consumes old new bs) (sym (read_part k n window part behind some few.0)) c.0
consumes_part k window part behind old new (Err e) some few c = tt
