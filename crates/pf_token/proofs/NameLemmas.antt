-- What a name stands for.
use Rattle.std.proofs.Common.{◌≡◌, ℕ, false, List, length, None, refl}
use Rattle.std.specs.Prelude.{nat_le, ◌&&◌}
use Rattle.std.proofs.lemmas.Bool.{and_from, and_parts, le-leb, leb-true, false_from_ne_true}
use Rattle.std.specs.Option.{option_or}
use Rattle.std.specs.FinMap.{get}
use Rattle.pf_base.specs.Name.{IsNameText}
use Rattle.pf_token.specs.Macros.{Table, value_of}

pub value_of_named : (macros : Table) (name : List ℕ) → IsNameText name → value_of macros name ≡ option_or (get macros.given name) (get macros.defined name)
unfolding value_of
value_of_named macros name is =
    let test = and_from _ _ (le-leb 1 (length name) is.some) (le-leb (length name) 63 is.few) in
    rw test refl

pub value_of_none : (macros : Table) (name : List ℕ) → (IsNameText name → ⊥) → value_of macros name ≡ None
unfolding value_of
value_of_none macros name none =
    let test : (nat_le 1 (length name) && nat_le (length name) 63) ≡ false =
    false_from_ne_true _ (λ e. let parts = and_parts _ _ e in none (record { some = leb-true _ _ parts.0; few = leb-true _ _ parts.1 })) in
    rw test refl
