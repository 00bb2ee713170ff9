-- What is added to words, and what they mean.
use Rattle.std.proofs.Common.{◌≡◌, ℕ, ◌↔◌, List, [], ◌∷◌, ◌++◌, Result, Ok, Err, OnOk, refl, ap, ◌∙◌}
use Rattle.std.proofs.lemmas.List.{append-nil, append_assoc}
use Rattle.pf_base.specs.declared.fault.FaultKind.{FaultKind}
use Rattle.pf_addr.specs.declared.addr.Addr.{Addr}
use Rattle.pf_addr.specs.declared.parse.AddrFault.{AddrFault}
use Rattle.pf_addr.specs.declared.parse.AddrFault.TheVariants as texts
use Rattle.pf_addr.specs.declared.prefix.Prefix.{Prefix}
use Rattle.pf_addr.specs.Grammar.{Writes, slash}
use Rattle.pf_addr.specs.PrefixText.{IsPrefixText, IsTooLong}
use Rattle.pf_word.specs.Hosts.{MaskedMeans, mask_fault, too_long, no_prefix}
use Rattle.pf_word.specs.Words.{Adds, failed, joined}
use Rattle.pf_word.specs.declared.words.Words.{Words}

pub adds_ok : {A E X : Type 0} (r : Result A E) (Means : Words X → Type 0) (old new one : Words X) → Means one → OnOk r (new ≡ joined old one) → OnOk r (Adds Means old new)
adds_ok (Ok value) Means old new one means are = record { one = one; means = means; are = are }
adds_ok (Err fault) Means old new one means are = tt

pub on_ok : {A E : Type 0} (r : Result A E) (P Q : Type 0) → (P → Q) → OnOk r P → OnOk r Q
on_ok (Ok value) P Q f holds = f holds
on_ok (Err fault) P Q f holds = tt

-- two faults, one after the other
pub failed_twice : {X : Type 0} (old middle new : Words X) (first second : FaultKind) → middle ≡ joined old (failed first) → new ≡ joined middle (failed second)
    → new ≡ joined old (record { values = []; faults = first ∷ second ∷ [] })
failed_twice {X} old middle new first second one two =
    two ∙ ap (λ (w : Words X). joined w (failed second)) one
    ∙ (λ i. record { values = append-nil (old.values ++ []) i; faults = append_assoc old.faults (first ∷ []) (second ∷ []) i })

not_ok : (fault : AddrFault) (p : Prefix) → ◌≡◌ {A = Result Prefix AddrFault} (Err fault) (Ok p) → ⊥
not_ok fault p e = cc

pub mask_fails : (word mask : List ℕ) (fault : AddrFault) → ((p : Prefix) → IsPrefixText (word ++ slash ∷ mask) p → ◌≡◌ {A = Result Prefix AddrFault} (Err fault) (Ok p))
    → ((n : ℕ) → (◌≡◌ {A = Result Prefix AddrFault} (Err fault) (Err (texts.MaskTooLong n))) ↔ IsTooLong (word ++ slash ∷ mask) n)
    → ((◌≡◌ {A = Result Prefix AddrFault} (Err fault) (Err texts.NotAnAddress)) ↔ ((a : Addr) (n : ℕ) → Writes (word ++ slash ∷ mask) a n → ⊥)) → MaskedMeans word mask (Err (mask_fault word fault))
mask_fails word mask (texts.MaskTooLong n) only long none = too_long n (λ p is. absurd (not_ok _ p (only p is))) ((long n).0 refl) refl
mask_fails word mask texts.NotAnAddress only long none = no_prefix (none.0 refl) refl
