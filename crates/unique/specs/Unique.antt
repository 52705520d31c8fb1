-- Any two results that a contract allows are equal, and so is what any two leave behind references.
use Rattle.std.specs.Prelude.{◌≡◌}

-- `ensures` is what a contract says of lifetimes, arguments, a result and what is left behind references. For the same arguments it holds of one result at most.
abbrev pub OneResult : {Lifetimes : Type 0} {Args Result Left : Lifetimes → Type 0} → ((κs : Lifetimes) → Args κs → Result κs → Left κs → Type 0) → Type 0
OneResult {Lifetimes} {Args} {Result} {Left} ensures =
    (κs : Lifetimes) (args : Args κs) (x y : Result κs) (left other : Left κs) → ensures κs args x left → ensures κs args y other → x ≡ y

-- The same of what is seen of a result and of what is left, where references are among them: of a reference, where it points or what it refers to.
abbrev pub OneOutcome : {Lifetimes Seen : Type 0} {Args Result Left : Lifetimes → Type 0} → ((κs : Lifetimes) → Result κs → Left κs → Seen) → ((κs : Lifetimes) → Args κs → Result κs → Left κs → Type 0) → Type 0
OneOutcome {Lifetimes} {Seen} {Args} {Result} {Left} seen ensures =
    (κs : Lifetimes) (args : Args κs) (x y : Result κs) (left other : Left κs) → ensures κs args x left → ensures κs args y other → seen κs x left ≡ seen κs y other
