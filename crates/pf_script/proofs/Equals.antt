-- The first `=` of a word.
use Rattle.std.proofs.Common.{◌≡◌, ℕ, ◌+◌, ◌==◌, Bool, true, false, not, List, [], ◌∷◌, ◌++◌, take, drop, Some, None, refl, ap, ◌∙◌}
use Rattle.std.specs.List.{list_all}
use Rattle.std.specs.Cmp.{first_so, second_so}
use Rattle.pf_base.specs.CutLaws.{IsFirst, NonePasses, not_true}
use Rattle.pf_script.specs.Word.{name_in, value_in}

abbrev pub is_equals : ℕ → Bool
is_equals byte = byte == 61

pub no_value : (word : List ℕ) → NonePasses is_equals word → value_in word ≡ None
no_value [] none = refl
no_value (byte ∷ word) none =
    let no : is_equals byte ≡ false = not_true (is_equals byte) (first_so (not (is_equals byte)) (list_all (λ b. not (is_equals b)) word) none) in
    rw no (no_value word (second_so (not (is_equals byte)) (list_all (λ b. not (is_equals b)) word) none))

-- what stands before and behind an `=` that is the first
parts_of : (name value : List ℕ) (byte : ℕ) → NonePasses is_equals name → is_equals byte ≡ true → (name_in (name ++ byte ∷ value) ≡ name) × (value_in (name ++ byte ∷ value) ≡ Some value)
parts_of [] value byte none h = rw h (refl, refl)
parts_of (first ∷ name) value byte none h =
    let no : is_equals first ≡ false = not_true (is_equals first) (first_so (not (is_equals first)) (list_all (λ b. not (is_equals b)) name) none) in
    let rest = parts_of name value byte (second_so (not (is_equals first)) (list_all (λ b. not (is_equals b)) name) none) h in
    rw no (ap (λ bytes. first ∷ bytes) rest.0, rest.1)

pub name_at : (word : List ℕ) (i byte : ℕ) → IsFirst is_equals word i byte → name_in word ≡ take i word
name_at word i byte first = ap name_in first.joined ∙ (parts_of (take i word) (drop (i + 1) word) byte first.before first.passes).0

pub value_at : (word : List ℕ) (i byte : ℕ) → IsFirst is_equals word i byte → value_in word ≡ Some (drop (i + 1) word)
value_at word i byte first = ap value_in first.joined ∙ (parts_of (take i word) (drop (i + 1) word) byte first.before first.passes).1
