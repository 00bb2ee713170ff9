-- Two tests that agree or not.
use Rattle.std.proofs.Common.{◌≡◌, ◌≢◌, Bool, true, false, refl, inl, inr, ◌⊎◌}
use mathlib.Core.Bool.{beq}

pub bool_cases : (a b : Bool) → (a ≡ b) ⊎ (a ≢ b)
bool_cases true true = inl refl
bool_cases true false = inr (λ e. cc)
bool_cases false true = inr (λ e. cc)
bool_cases false false = inl refl

pub beq-same : (a b : Bool) → beq a b ≡ true → a ≡ b
beq-same true true e = refl
beq-same true false e = cc
beq-same false true e = cc
beq-same false false e = refl
