-- Productions as they are read from left to right, with what stands next in view.
use Rattle.std.specs.Prelude.{ℕ, zero, suc, Bool, List, [], ◌∷◌, Option, Some, None, if◌then◌else◌}
use Rattle.pf_syntax.specs.Symbols.{Symbol, Symbols}

-- the value that symbols say and what they leave, where they say one
abbrev pub Reading : Type 0 → Type 0
Reading A = Symbols → Option (A × Symbols)

abbrev pub with_rest : {A : Type 0} → Symbols → Option A → Option (A × Symbols)
with_rest rest None = None
with_rest rest (Some value) = Some (value, rest)

abbrev pub read_one : {A : Type 0} → (Symbol → Option A) → Reading A
read_one says [] = None
read_one says (symbol ∷ rest) = with_rest rest (says symbol)

abbrev pub read_then : {A B : Type 0} → Option (A × Symbols) → (A → Reading B) → Option (B × Symbols)
read_then None reads = None
read_then (Some (part, between)) reads = reads part between

abbrev pub read_chosen : {A : Type 0} → (Symbols → Bool) → Reading A → Reading A → Reading A
read_chosen test first second start = if test start then first start else second start

abbrev pub read_repeated : {A : Type 0} → (Symbols → Bool) → (A → Reading A) → ℕ → A → Reading A
read_repeated ends step zero value start = if ends start then Some (value, start) else None
read_repeated ends step (suc most) value start =
    if ends start then Some (value, start) else read_then (step value start) (read_repeated ends step most)
