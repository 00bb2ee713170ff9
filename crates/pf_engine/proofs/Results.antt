-- What holds of the value of a result, and what follows from that.
use Rattle.std.proofs.Common.{◌≡◌, ℕ, Bool, true, List, Option, Some, subst}
use Rattle.std.specs.Prelude.{Result, Ok, Err, IfOk, OnErr, OnOk}
use Rattle.pf_base.specs.declared.memory.NoMemory.{NoMemory}
use Rattle.pf_source.specs.Told.{Held, Told}
use Rattle.pf_engine.specs.declared.outcome.Outcome.{Outcome}
use Rattle.pf_engine.specs.declared.outcome.Outcome.TheVariants.{Refused}
use Rattle.pf_engine.specs.Answering.{Adds, is_refused}

pub if_ok : {A E : Type 0} (r : Result A E) (P Q : A → Type 0) → ((a : A) → P a → Q a) → IfOk r P → IfOk r Q
if_ok (Ok a) P Q f h = f a h
if_ok (Err e) P Q f h = tt

-- of what a line added
module _ (result : Result Outcome NoMemory) (old new : List ℕ) (P : List ℕ → Bool → Type 0) where
  abbrev pub AddsSo : Type 0
  AddsSo = IfOk result (λ outcome. Adds old new (λ bytes. P bytes (is_refused outcome)))

  pub adds_too : (Q : List ℕ → Bool → Type 0) → ((bytes : List ℕ) (refuses : Bool) → P bytes refuses → Q bytes refuses) → AddsSo → IfOk result (λ outcome. Adds old new (λ bytes. Q bytes (is_refused outcome)))
  adds_too Q f h = if_ok result (λ outcome. Adds old new (λ bytes. P bytes (is_refused outcome))) (λ outcome. Adds old new (λ bytes. Q bytes (is_refused outcome)))
      (λ outcome adds. record { bytes = adds.bytes; added = adds.added; is = f adds.bytes (is_refused outcome) adds.is }) h

  -- under a condition
  pub adds_given : (Z : Type 0) (Q : List ℕ → Bool → Type 0) → (Z → (bytes : List ℕ) (refuses : Bool) → P bytes refuses → Q bytes refuses) → AddsSo → IfOk result (λ outcome. Z → Adds old new (λ bytes. Q bytes (is_refused outcome)))
  adds_given Z Q f h = if_ok result (λ outcome. Adds old new (λ bytes. P bytes (is_refused outcome))) (λ outcome. Z → Adds old new (λ bytes. Q bytes (is_refused outcome)))
      (λ outcome adds z. record { bytes = adds.bytes; added = adds.added; is = f z adds.bytes (is_refused outcome) adds.is }) h

  -- over what files tell
  pub adds_told : (told : Option Held) (Q : Held → List ℕ → Bool → Type 0) → ((held : Held) → told ≡ Some held → (bytes : List ℕ) (refuses : Bool) → P bytes refuses → Q held bytes refuses) → AddsSo → IfOk result (λ outcome. Told told (λ held. Adds old new (λ bytes. Q held bytes (is_refused outcome))))
  adds_told told Q f h = if_ok result (λ outcome. Adds old new (λ bytes. P bytes (is_refused outcome))) (λ outcome. Told told (λ held. Adds old new (λ bytes. Q held bytes (is_refused outcome))))
      (λ outcome adds. record { at = λ held is. record { bytes = adds.bytes; added = adds.added; is = f held is adds.bytes (is_refused outcome) adds.is } }) h

  -- where the line was refused
  pub adds_refused : (X : Type 0) → ((bytes : List ℕ) → P bytes true → X) → AddsSo → result ≡ Ok Refused → X
  adds_refused X f h e = let adds = subst (λ (r : Result Outcome NoMemory). IfOk r (λ outcome. Adds old new (λ bytes. P bytes (is_refused outcome)))) e h in f adds.bytes adds.is

pub in_either : (result : Result Outcome NoMemory) (old new : List ℕ) (P : List ℕ → Bool → Type 0) (E X : Type 0) → ((bytes : List ℕ) (refuses : Bool) → P bytes refuses → X) → (E → X) → IfOk result (λ outcome. Adds old new (λ bytes. P bytes (is_refused outcome))) → OnErr result E → X
in_either (Ok outcome) old new P E X f g h k = f h.bytes (is_refused outcome) h.is
in_either (Err e) old new P E X f g h k = g k

pub on_err : {A E : Type 0} (r : Result A E) (P : Type 0) → P → OnErr r P
on_err (Ok a) P h = tt
on_err (Err e) P h = h

-- over what files tell one thing holds, and so another
pub told_too : (result : Result Outcome NoMemory) (old new : List ℕ) (told : Option Held) (P Q : Held → List ℕ → Bool → Type 0) → ((held : Held) (bytes : List ℕ) (refuses : Bool) → P held bytes refuses → Q held bytes refuses) →
    IfOk result (λ outcome. Told told (λ held. Adds old new (λ bytes. P held bytes (is_refused outcome)))) → IfOk result (λ outcome. Told told (λ held. Adds old new (λ bytes. Q held bytes (is_refused outcome))))
told_too result old new told P Q f h =
    if_ok result (λ outcome. Told told (λ held. Adds old new (λ bytes. P held bytes (is_refused outcome)))) (λ outcome. Told told (λ held. Adds old new (λ bytes. Q held bytes (is_refused outcome))))
    (λ outcome tells. record { at = λ held is. let adds = tells.at held is in record { bytes = adds.bytes; added = adds.added; is = f held adds.bytes (is_refused outcome) adds.is } }) h
