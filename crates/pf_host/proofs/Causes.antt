-- The first cause of a line, or none, from what the facts before it have.
use Rattle.std.proofs.Common.{◌≡◌, ℕ, ◌+◌, ◌≤◌, Bool, true, false, not, nat_le, List, length, Some, None, refl, arith}
use Rattle.pf_base.specs.Decimal.{decimal_of}
use Rattle.pf_addr.specs.Grammar.{IsAddrText}
use Rattle.pf_addr.specs.declared.addr.Addr.{Addr}
use Rattle.pf_addr.specs.declared.parse.Masked.{Masked}
use Rattle.pf_addr.specs.PrefixText.{IsMaskedText}
use Rattle.pf_host.specs.declared.fault.FactsCause.{FactsCause}
use Rattle.pf_host.specs.declared.fault.FactsCause.TheVariants.{BadLine, Unknown, Twice, BadAddress, BadNumber, Full}
use Rattle.pf_host.specs.declared.kind.Kind.TheVariants.{Interface, Address, Host, User, Group, Service}
use Rattle.pf_host.specs.Line.{Line, lines_about}
use Rattle.pf_host.specs.Meaning.{HasCause, IsFirst, is_named, most_id, most_port, rank}
use Rattle.pf_host.specs.Reading.{line_with}

no : (b : Bool) → b ≡ false → b ≡ true → ⊥
no true e h = cc
no false e h = cc

pub user_twice : (before : List Line) (name word : List ℕ) → is_named User before name ≡ true → IsFirst (HasCause before (line_with User name word)) Twice
user_twice before name word named = record {
  has = named;
  first = λ other. elim other as (λ o. rank o + 1 ≤ rank Twice → HasCause before (line_with User name word) o → ⊥) [
    | BadLine ↦ λ low h. h
    | Unknown ↦ λ low h. no false refl h
    | Twice ↦ λ low h. absurd (omega (arith, low))
    | BadAddress ↦ λ low h. absurd (omega (arith, low))
    | BadNumber ↦ λ low h. absurd (omega (arith, low))
    | Full ↦ λ low h. absurd (omega (arith, low))
  ];
}

pub user_bad : (before : List Line) (name word : List ℕ) → is_named User before name ≡ false → decimal_of most_id word ≡ None → IsFirst (HasCause before (line_with User name word)) BadNumber
user_bad before name word new bad = record {
  has = bad;
  first = λ other. elim other as (λ o. rank o + 1 ≤ rank BadNumber → HasCause before (line_with User name word) o → ⊥) [
    | BadLine ↦ λ low h. h
    | Unknown ↦ λ low h. no false refl h
    | Twice ↦ λ low h. no (is_named User before name) new h
    | BadAddress ↦ λ low h. h
    | BadNumber ↦ λ low h. absurd (omega (arith, low))
    | Full ↦ λ low h. absurd (omega (arith, low))
  ];
}

pub user_sound : (before : List Line) (name word : List ℕ) (number : ℕ) → is_named User before name ≡ false → decimal_of most_id word ≡ Some number → (cause : FactsCause) → HasCause before (line_with User name word) cause → ⊥
user_sound before name word number new is cause =
    elim cause as (λ o. HasCause before (line_with User name word) o → ⊥) [
      | BadLine ↦ λ h. h
      | Unknown ↦ λ h. no false refl h
      | Twice ↦ λ h. no (is_named User before name) new h
      | BadAddress ↦ λ h. h
      | BadNumber ↦ λ h. cc
      | Full ↦ λ h. no false refl h
    ]

pub group_twice : (before : List Line) (name word : List ℕ) → is_named Group before name ≡ true → IsFirst (HasCause before (line_with Group name word)) Twice
group_twice before name word named = record {
  has = named;
  first = λ other. elim other as (λ o. rank o + 1 ≤ rank Twice → HasCause before (line_with Group name word) o → ⊥) [
    | BadLine ↦ λ low h. h
    | Unknown ↦ λ low h. no false refl h
    | Twice ↦ λ low h. absurd (omega (arith, low))
    | BadAddress ↦ λ low h. absurd (omega (arith, low))
    | BadNumber ↦ λ low h. absurd (omega (arith, low))
    | Full ↦ λ low h. absurd (omega (arith, low))
  ];
}

pub group_bad : (before : List Line) (name word : List ℕ) → is_named Group before name ≡ false → decimal_of most_id word ≡ None → IsFirst (HasCause before (line_with Group name word)) BadNumber
group_bad before name word new bad = record {
  has = bad;
  first = λ other. elim other as (λ o. rank o + 1 ≤ rank BadNumber → HasCause before (line_with Group name word) o → ⊥) [
    | BadLine ↦ λ low h. h
    | Unknown ↦ λ low h. no false refl h
    | Twice ↦ λ low h. no (is_named Group before name) new h
    | BadAddress ↦ λ low h. h
    | BadNumber ↦ λ low h. absurd (omega (arith, low))
    | Full ↦ λ low h. absurd (omega (arith, low))
  ];
}

pub group_sound : (before : List Line) (name word : List ℕ) (number : ℕ) → is_named Group before name ≡ false → decimal_of most_id word ≡ Some number → (cause : FactsCause) → HasCause before (line_with Group name word) cause → ⊥
group_sound before name word number new is cause =
    elim cause as (λ o. HasCause before (line_with Group name word) o → ⊥) [
      | BadLine ↦ λ h. h
      | Unknown ↦ λ h. no false refl h
      | Twice ↦ λ h. no (is_named Group before name) new h
      | BadAddress ↦ λ h. h
      | BadNumber ↦ λ h. cc
      | Full ↦ λ h. no false refl h
    ]

pub service_twice : (before : List Line) (name word : List ℕ) → is_named Service before name ≡ true → IsFirst (HasCause before (line_with Service name word)) Twice
service_twice before name word named = record {
  has = named;
  first = λ other. elim other as (λ o. rank o + 1 ≤ rank Twice → HasCause before (line_with Service name word) o → ⊥) [
    | BadLine ↦ λ low h. h
    | Unknown ↦ λ low h. no false refl h
    | Twice ↦ λ low h. absurd (omega (arith, low))
    | BadAddress ↦ λ low h. absurd (omega (arith, low))
    | BadNumber ↦ λ low h. absurd (omega (arith, low))
    | Full ↦ λ low h. absurd (omega (arith, low))
  ];
}

pub service_bad : (before : List Line) (name word : List ℕ) → is_named Service before name ≡ false → decimal_of most_port word ≡ None → IsFirst (HasCause before (line_with Service name word)) BadNumber
service_bad before name word new bad = record {
  has = bad;
  first = λ other. elim other as (λ o. rank o + 1 ≤ rank BadNumber → HasCause before (line_with Service name word) o → ⊥) [
    | BadLine ↦ λ low h. h
    | Unknown ↦ λ low h. no false refl h
    | Twice ↦ λ low h. no (is_named Service before name) new h
    | BadAddress ↦ λ low h. h
    | BadNumber ↦ λ low h. absurd (omega (arith, low))
    | Full ↦ λ low h. absurd (omega (arith, low))
  ];
}

pub service_sound : (before : List Line) (name word : List ℕ) (number : ℕ) → is_named Service before name ≡ false → decimal_of most_port word ≡ Some number → (cause : FactsCause) → HasCause before (line_with Service name word) cause → ⊥
service_sound before name word number new is cause =
    elim cause as (λ o. HasCause before (line_with Service name word) o → ⊥) [
      | BadLine ↦ λ h. h
      | Unknown ↦ λ h. no false refl h
      | Twice ↦ λ h. no (is_named Service before name) new h
      | BadAddress ↦ λ h. h
      | BadNumber ↦ λ h. cc
      | Full ↦ λ h. no false refl h
    ]

pub host_sound : (before : List Line) (name word : List ℕ) (address : Addr) → IsAddrText word address → (cause : FactsCause) → HasCause before (line_with Host name word) cause → ⊥
host_sound before name word address is cause =
    elim cause as (λ o. HasCause before (line_with Host name word) o → ⊥) [
      | BadLine ↦ λ h. h
      | Unknown ↦ λ h. no false refl h
      | Twice ↦ λ h. no false refl h
      | BadAddress ↦ λ h. h address is
      | BadNumber ↦ λ h. h
      | Full ↦ λ h. no false refl h
    ]

known : (b : Bool) → b ≡ true → not b ≡ true → ⊥
known true e h = cc
known false e h = cc

pub address_full : (before : List Line) (name word : List ℕ) (address : Masked) → is_named Interface before name ≡ true → IsMaskedText word address → nat_le 1024 (length (lines_about Address before)) ≡ true → IsFirst (HasCause before (line_with Address name word)) Full
address_full before name word address named is full = record {
  has = full;
  first = λ other. elim other as (λ o. rank o + 1 ≤ rank Full → HasCause before (line_with Address name word) o → ⊥) [
    | BadLine ↦ λ low h. h
    | Unknown ↦ λ low h. known (is_named Interface before name) named h
    | Twice ↦ λ low h. no false refl h
    | BadAddress ↦ λ low h. h address is
    | BadNumber ↦ λ low h. h
    | Full ↦ λ low h. absurd (omega (arith, low))
  ];
}

pub address_sound : (before : List Line) (name word : List ℕ) (address : Masked) → is_named Interface before name ≡ true → IsMaskedText word address → nat_le 1024 (length (lines_about Address before)) ≡ false → (cause : FactsCause) → HasCause before (line_with Address name word) cause → ⊥
address_sound before name word address named is room cause =
    elim cause as (λ o. HasCause before (line_with Address name word) o → ⊥) [
      | BadLine ↦ λ h. h
      | Unknown ↦ λ h. known (is_named Interface before name) named h
      | Twice ↦ λ h. no false refl h
      | BadAddress ↦ λ h. h address is
      | BadNumber ↦ λ h. h
      | Full ↦ λ h. no (nat_le 1024 (length (lines_about Address before))) room h
    ]

pub interface_sound : (before : List Line) (name : List ℕ) (rest : List (List ℕ)) → is_named Interface before name ≡ false → nat_le 1024 (length (lines_about Interface before)) ≡ false → (cause : FactsCause) → HasCause before (record { kind = Interface; name = name; rest = rest }) cause → ⊥
interface_sound before name rest new room cause =
    elim cause as (λ o. HasCause before (record { kind = Interface; name = name; rest = rest }) o → ⊥) [
      | BadLine ↦ λ h. h
      | Unknown ↦ λ h. no false refl h
      | Twice ↦ λ h. no (is_named Interface before name) new h
      | BadAddress ↦ λ h. h
      | BadNumber ↦ λ h. h
      | Full ↦ λ h. no (nat_le 1024 (length (lines_about Interface before))) room h
    ]
