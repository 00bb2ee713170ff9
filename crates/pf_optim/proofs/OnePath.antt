-- A text is that of at most one path.
use Rattle.std.proofs.Common.{◌≡◌, ℕ, ◌<◌, Bool, true, not, List, [], ◌∷◌, length, refl, sym, ap, ◌∙◌, subst, ⊎_elim, arith}
use Rattle.std.specs.List.{join_with_byte, list_all, slice_split}
use Rattle.std.proofs.lemmas.Bool.{and_from, and_parts, cases_Bool, eqb-true, false≢true, ltb-true}
use Rattle.pf_base.specs.CutLaws.{NonePasses, split_at_first, split_none}
use Rattle.pf_base.specs.Name.{is_plain_byte}
use Rattle.pf_base.specs.Path.{IsPathText, is_path_name, is_slash, is_written_name, path_text}

-- no byte of a name is a `/`
plain_byte : (byte : ℕ) → is_plain_byte byte ≡ true → not (is_slash byte) ≡ true
unfolding is_plain_byte
plain_byte byte h =
    ⊎_elim
    (λ slash. absurd (false≢true (subst (λ b. is_plain_byte b ≡ true) (eqb-true byte 47 slash) h)))
    (λ other. ap not other)
    (cases_Bool (is_slash byte))

plain_bytes : (bytes : List ℕ) → list_all is_plain_byte bytes ≡ true → NonePasses is_slash bytes
plain_bytes [] h = refl
plain_bytes (byte ∷ bytes) h =
    let both = and_parts (is_plain_byte byte) (list_all is_plain_byte bytes) h in
    and_from _ _ (plain_byte byte both.0) (plain_bytes bytes both.1)

-- a written name is not empty, and no `/` stands in it
written : (any : Bool) (name : List ℕ) → is_written_name any name ≡ true → (0 < length name) × NonePasses is_slash name
unfolding is_written_name is_path_name
written any name h =
    let parts = and_parts _ _ (and_parts _ _ h).0 in
    (ltb-true 0 (length name) (and_parts _ _ parts.0).0, plain_bytes name (and_parts _ _ parts.1).0)

-- names with `/` between them are cut where they were joined
cut_again : (any : Bool) (name : List ℕ) (names : List (List ℕ)) → list_all (is_written_name any) (name ∷ names) ≡ true → slice_split is_slash (join_with_byte 47 (name ∷ names)) ≡ name ∷ names
cut_again any name [] h = split_none is_slash name (written any name (and_parts (is_written_name any name) true h).0).1
cut_again any name (next ∷ names) h =
    let both = and_parts (is_written_name any name) (list_all (is_written_name any) (next ∷ names)) h in
    split_at_first is_slash name 47 (join_with_byte 47 (next ∷ names)) (written any name both.0).1 refl
    ∙ ap (λ rest. name ∷ rest) (cut_again any next names both.1)

-- so a path's names are the parts of its text, but for the main ruleset
parts_of : (any : Bool) (name : List ℕ) (names : List (List ℕ)) (text : List ℕ) → IsPathText any (name ∷ names) text → slice_split is_slash text ≡ name ∷ names
unfolding path_text
parts_of any name names text is = ap (slice_split is_slash) is.written ∙ cut_again any name names is.named

-- whose text is no other's
main_alone : (any : Bool) (name : List ℕ) (names : List (List ℕ)) (text : List ℕ) → IsPathText any [] text → IsPathText any (name ∷ names) text → ⊥
unfolding path_text
main_alone any name names text main other =
    let two : name ∷ names ≡ [] ∷ [] ∷ [] = sym (parts_of any name names text other) ∙ ap (slice_split is_slash) main.written in
    let none : name ≡ [] = cc in
    let short = ap length none in
    let some = (written any name (and_parts (is_written_name any name) (list_all (is_written_name any) names) other.named).0).0 in
    absurd (omega arith)

pub one_path : (any : Bool) (text : List ℕ) (one other : List (List ℕ)) → IsPathText any one text → IsPathText any other text → one ≡ other
one_path any text [] [] is also = refl
one_path any text [] (name ∷ names) is also = absurd (main_alone any name names text is also)
one_path any text (name ∷ names) [] is also = absurd (main_alone any name names text also is)
one_path any text (name ∷ names) (next ∷ more) is also = sym (parts_of any name names text is) ∙ parts_of any next more text also
