-- The names of anchors without a name are names of paths.
use Rattle.std.proofs.Common.{◌≡◌, ℕ, ◌+◌, ◌%◌, ◌/◌, ◌<◌, ◌≤◌, ◌^◌, Bool, true, List, [], ◌∷◌, ◌++◌, Some, refl, ap, ◌∙◌, arith}
use Rattle.std.specs.Prelude.{◌&&◌}
use Rattle.std.specs.Fmt.{decimal}
use Rattle.std.specs.List.{list_all}
use Rattle.std.proofs.lemmas.Bool.{le-leb}
use Rattle.std.proofs.lemmas.Fmt.{decimal_by_steps}
use Rattle.std.proofs.lemmas.List.Folds.{list_all-append}
use Rattle.pf_base.specs.Name.{is_plain_byte}
use Rattle.pf_base.specs.Path.{child_path, is_dots, is_path_name}
use Rattle.pf_plan.specs.Anchors.{nameless_name}

digit_is_plain : (byte : ℕ) → 48 ≤ byte → byte ≤ 57 → is_plain_byte byte ≡ true
unfolding is_plain_byte
digit_is_plain byte low high = rw (le-leb 48 byte low, le-leb byte 57 high) refl

one_digit : (n : ℕ) → n < 10 → list_all is_plain_byte ((48 + n) ∷ []) ≡ true
one_digit n h = ap (λ (b : Bool). b && true) (digit_is_plain (48 + n) (omega arith) (omega arith))

one_digit_more : (n : ℕ) (digits : List ℕ) → 10 ≤ n → list_all is_plain_byte digits ≡ true → list_all is_plain_byte (digits ++ ((48 + n % 10) ∷ [])) ≡ true
one_digit_more n digits h all =
    list_all-append is_plain_byte digits ((48 + n % 10) ∷ [])
    ∙ ap (λ (b : Bool). b && list_all is_plain_byte ((48 + n % 10) ∷ [])) all
    ∙ one_digit (n % 10) (omega arith)

digits_are_plain : (n : ℕ) → n < 2 ^ 64 → list_all is_plain_byte (decimal n) ≡ true
digits_are_plain n h = decimal_by_steps (λ _ digits. list_all is_plain_byte digits ≡ true) one_digit one_digit_more n h

named : (n : ℕ) → n < 2 ^ 64 → is_path_name (nameless_name n) ≡ true
unfolding is_path_name is_plain_byte is_dots
named n h = ap (λ (b : Bool). b && true) (digits_are_plain n h)

pub nameless_child : (n : ℕ) → n < 2 ^ 64 → child_path [] (nameless_name n) ≡ Some (nameless_name n ∷ [])
unfolding child_path
nameless_child n h = rw (named n h) refl
