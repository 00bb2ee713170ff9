-- The texts that are read are those that the grammar gives.
use Rattle.std.proofs.Common.{◌≡◌, ℕ, ◌+◌, ◌<◌, ◌≤◌, Bool, true, false, not, ◌&&◌, ◌||◌, cond, nat_lt, Option, Some, None, Result, Ok, Err, ◌↔◌, List, [], ◌∷◌, length, codes, refl, sym, ap, ◌∙◌, subst, inl, inr, ◌⊎◌, ⊎_elim, arith}
use Rattle.std.specs.List.{list_all, slice_split, position, join_with_byte}
use Rattle.std.specs.Option.{option_or, option_map}
use Rattle.std.specs.Str.{bytes_eq}
use Rattle.std.proofs.lemmas.Bool.{and_parts, and_from, false≢true, cases_Bool, eqb-true, lt-ltb, le-leb, leb-true, ltb-true, ltb-false, le-ltb, cond-false}
use Rattle.std.proofs.lemmas.Slice.Eq.{bytes_eq-Decides}
use Rattle.std.proofs.lemmas.List.Folds.{list_all_at}
use Rattle.std.proofs.lemmas.List.Splits.{join_with_byte-slice_split}
use Rattle.pf_base.specs.declared.path_fault.PathFault.{PathFault}
use Rattle.pf_base.specs.declared.path_fault.PathFault.TheVariants.{Empty, BadByte, Reserved, TooLong, TooDeep}
use Rattle.pf_base.specs.Name.{is_plain_byte}
use Rattle.pf_base.specs.Path.{is_slash, is_dots, is_path_name, is_reserved, is_written_name, IsPathText, path_text, bad_byte, name_fault, names_fault, path_of_names, read_path}
use Rattle.pf_base.specs.Text.{is_nothing}
use Rattle.pf_base.specs.Name.{IsNameText}
use Rattle.pf_base.specs.CutLaws.{NonePasses, first_of_position, split_none, split_at_first, first_part}
use Rattle.pf_base.proofs.PathReads.{or_none, named_without_fault, some_without_fault}

-- no byte of a name is a `/`
slash_free_byte : (byte : ℕ) → is_plain_byte byte ≡ true → not (is_slash byte) ≡ true
unfolding is_plain_byte
slash_free_byte byte h =
    ⊎_elim
    (λ slash. absurd (false≢true (subst (λ b. is_plain_byte b ≡ true) (eqb-true byte 47 slash) h)))
    (λ other. ap not other)
    (cases_Bool (is_slash byte))

slash_free : (bytes : List ℕ) → list_all is_plain_byte bytes ≡ true → NonePasses is_slash bytes
slash_free [] h = refl
slash_free (byte ∷ bytes) h =
    let both = and_parts (is_plain_byte byte) (list_all is_plain_byte bytes) h in
    and_from _ _ (slash_free_byte byte both.0) (slash_free bytes both.1)

-- what a written name is
record Written (any : Bool) (name : List ℕ) : Type 0 where
  some : 0 < length name
  few : length name ≤ 63
  bytes : list_all is_plain_byte name ≡ true
  dots : is_dots name ≡ false
  free : (any || not (is_reserved name)) ≡ true

not_false : (b : Bool) → not b ≡ true → b ≡ false
not_false true h = cc
not_false false h = refl

written_parts : (any : Bool) (name : List ℕ) → is_written_name any name ≡ true → Written any name
unfolding is_written_name is_path_name
written_parts any name h =
    let a = and_parts _ _ h in
    let b = and_parts _ _ a.0 in
    let c = and_parts _ _ b.0 in
    let d = and_parts _ _ b.1 in
    record { some = ltb-true 0 (length name) c.0; few = leb-true (length name) 63 c.1; bytes = d.0; dots = not_false _ d.1; free = a.1 }

-- a name without a fault is written so
no_reserved : (any reserved : Bool) → cond (not any && reserved) (Some Reserved) None ≡ None → (any || not reserved) ≡ true
no_reserved true reserved h = refl
no_reserved false true h = cc
no_reserved false false h = refl

no_length : (long : Bool) (n : ℕ) → cond long (Some (TooLong n)) None ≡ None → long ≡ false
no_length true n h = cc
no_length false n h = refl

pub written_without_fault : (any : Bool) (start : ℕ) (name : List ℕ) → name_fault any start name ≡ None → is_written_name any name ≡ true
unfolding is_written_name name_fault
written_without_fault any start name h =
    let a = (or_none _ _ h).1 in
    let b = (or_none _ _ a).1 in
    let c = or_none _ _ b in
    let few : length name ≤ 63 = ltb-false 63 (length name) (no_length _ _ c.1) in
    and_from _ _
    (and_from _ _
    (and_from _ _ (lt-ltb 0 (length name) (some_without_fault any start name h)) (le-leb (length name) 63 few))
    (named_without_fault any start name h))
    (no_reserved any (is_reserved name) c.0)

-- where names that begin with `_` may stand, so may this one
pub written_any : (any : Bool) (name : List ℕ) → is_written_name any name ≡ true → is_written_name true name ≡ true
unfolding is_written_name
written_any any name h = and_from _ true (and_parts _ _ h).0 refl

-- a name of 1 to 63 bytes that may stand in a path
pub written_named : (name : List ℕ) → IsNameText name → is_path_name name ≡ true → is_written_name true name ≡ true
unfolding is_written_name
written_named name text named =
    and_from _ true
    (and_from _ _
    (and_from _ _ (lt-ltb 0 (length name) (let some = text.some in omega arith)) (le-leb (length name) 63 text.few))
    named)
    refl

all_written : (any : Bool) (start : ℕ) (names : List (List ℕ)) → names_fault any start names ≡ None → list_all (is_written_name any) names ≡ true
all_written any start [] h = refl
all_written any start (name ∷ names) h =
    let both = or_none (name_fault any start name) (names_fault any (start + length name + 1) names) h in
    and_from _ _ (written_without_fault any start name both.0) (all_written any (start + length name + 1) names both.1)

-- a written name has no fault
no_place : (name : List ℕ) → list_all is_plain_byte name ≡ true → position (λ byte. not (is_plain_byte byte)) name ≡ None
no_place name all =
    let p : ℕ → Bool = λ byte. not (is_plain_byte byte) in
    elim (position p name) as (λ o. position p name ≡ o → o ≡ None) [
      | None ↦ λ _. refl
      | Some i ↦ λ h.
          let first = first_of_position p name i 0 h in
          absurd (false≢true (sym (list_all_at is_plain_byte name i 0 first.inside (not_false _ first.passes)) ∙ all))
    ] refl

free_of_reserved : (any reserved : Bool) → (any || not reserved) ≡ true → (not any && reserved) ≡ false
free_of_reserved true reserved h = refl
free_of_reserved false true h = sym h
free_of_reserved false false h = refl

something : (name : List ℕ) → 0 < length name → is_nothing name ≡ false
something [] h = absurd (omega arith)
something (byte ∷ bytes) h = refl

no_trial : (empty dots reserved long : Bool) (place : Option ℕ) (a b c d : PathFault) (at : ℕ → PathFault) → empty ≡ false → dots ≡ false → place ≡ None → reserved ≡ false → long ≡ false → option_or (cond empty (Some a) None) (option_or (cond dots (Some b) (option_map at place)) (option_or (cond reserved (Some c) None) (cond long (Some d) None))) ≡ None
no_trial empty dots reserved long place a b c d at h i j k l = rw (h, i, j, k, l) refl

fault_none : (any : Bool) (start : ℕ) (name : List ℕ) → Written any name → name_fault any start name ≡ None
unfolding name_fault bad_byte
fault_none any start name w =
    no_trial (is_nothing name) (is_dots name) (not any && is_reserved name) (nat_lt 63 (length name)) (position (λ byte. not (is_plain_byte byte)) name) Empty (BadByte start) Reserved (TooLong (length name)) (λ i. BadByte (start + i))
    (something name w.some) w.dots (no_place name w.bytes) (free_of_reserved any (is_reserved name) w.free) (le-ltb 63 (length name) w.few)

faults_none : (any : Bool) (start : ℕ) (names : List (List ℕ)) → list_all (is_written_name any) names ≡ true → names_fault any start names ≡ None
faults_none any start [] h = refl
faults_none any start (name ∷ names) h =
    let both = and_parts (is_written_name any name) (list_all (is_written_name any) names) h in
    rw (fault_none any start name (written_parts any name both.0)) (faults_none any (start + length name + 1) names both.1)

-- names joined by `/` are cut where they were joined
split_joined : (any : Bool) (name : List ℕ) (names : List (List ℕ)) → list_all (is_written_name any) (name ∷ names) ≡ true → slice_split is_slash (join_with_byte 47 (name ∷ names)) ≡ name ∷ names
split_joined any name [] h =
    let w = written_parts any name (and_parts (is_written_name any name) true h).0 in
    split_none is_slash name (slash_free name w.bytes)
split_joined any name (next ∷ names) h =
    let both = and_parts (is_written_name any name) (list_all (is_written_name any) (next ∷ names)) h in
    let w = written_parts any name both.0 in
    split_at_first is_slash name 47 (join_with_byte 47 (next ∷ names)) (slash_free name w.bytes) refl
    ∙ ap (λ rest. name ∷ rest) (split_joined any next names both.1)

-- what a path of names that were read says
record Kept (fault : Option PathFault) (all names : List (List ℕ)) : Type 0 where
  none : fault ≡ None
  few : length all ≤ 8
  same : all ≡ names

kept_few : (deep : Bool) (all names : List (List ℕ)) → cond deep (Err (TooDeep (length all))) (Ok all) ≡ Ok names → (deep ≡ false) × (all ≡ names)
kept_few true all names h = cc
kept_few false all names h = (refl, cc)

kept_names : (fault : Option PathFault) (all names : List (List ℕ)) → path_of_names fault all ≡ Ok names → Kept fault all names
unfolding path_of_names
kept_names None all names h =
    let k = kept_few (nat_lt 8 (length all)) all names h in
    record { none = refl; few = ltb-false 8 (length all) k.0; same = k.1 }
kept_names (Some e) all names h = cc

main_or_names : (b : Bool) (r : Result (List (List ℕ)) PathFault) (names : List (List ℕ)) → cond b (Ok []) r ≡ Ok names → ((b ≡ true) × ([] ≡ names)) ⊎ ((b ≡ false) × (r ≡ Ok names))
main_or_names true r names h = inl (refl, cc)
main_or_names false r names h = inr (refl, h)

-- what is read as names is the text of a path with these names
grammar_only : (any : Bool) (text : List ℕ) (names : List (List ℕ)) → read_path any text ≡ Ok names → IsPathText any names text
unfolding read_path path_text
grammar_only any text names h =
    let parts = first_part is_slash text in
    let all = slice_split is_slash text in
    ⊎_elim
    (λ main. subst (λ ns. IsPathText any ns text) main.1 (record { written = (bytes_eq-Decides text (codes "/")).0 main.0; few = omega arith; named = refl }))
    (λ other.
    let kept = kept_names (names_fault any 0 all) all names other.1 in
    subst (λ ns. IsPathText any ns text) kept.same (record {
      written = sym (join_with_byte-slice_split 47 text) ∙ rw parts.2 refl;
      few = kept.few;
      named = all_written any 0 all kept.none;
    }))
    (main_or_names (bytes_eq text (codes "/")) _ names h)

-- and such a text is read as these names
pub grammar_read : (any : Bool) (text : List ℕ) (names : List (List ℕ)) → IsPathText any names text → read_path any text ≡ Ok names
unfolding read_path path_text path_of_names
grammar_read any text [] t = subst (λ s. read_path any s ≡ Ok []) (sym t.written) refl
grammar_read any text (name ∷ names) t =
    let split : slice_split is_slash text ≡ name ∷ names = ap (slice_split is_slash) t.written ∙ split_joined any name names t.named in
    let w = written_parts any name (and_parts (is_written_name any name) (list_all (is_written_name any) names) t.named).0 in
    let not_main : bytes_eq text (codes "/") ≡ false = ⊎_elim
    (λ yes.
    let main : text ≡ codes "/" = (bytes_eq-Decides text (codes "/")).0 yes in
    let two : name ∷ names ≡ [] ∷ [] ∷ [] = sym split ∙ ap (slice_split is_slash) main in
    let none : name ≡ [] = cc in
    let short = ap length none in
    absurd (omega arith))
    (λ no. no)
    (cases_Bool (bytes_eq text (codes "/"))) in
    cond-false _ _ _ not_main
    ∙ ap (λ all. path_of_names (names_fault any 0 all) all) split
    ∙ ap (λ fault. path_of_names fault (name ∷ names)) (faults_none any 0 (name ∷ names) t.named)
    ∙ cond-false _ _ _ (le-ltb 8 (length (name ∷ names)) t.few)

-- the texts that are read as a path are those of the grammar
pub grammar_exact : (any : Bool) (text : List ℕ) (r : Result (List (List ℕ)) PathFault) → r ≡ read_path any text → (names : List (List ℕ)) → (r ≡ Ok names) ↔ IsPathText any names text
grammar_exact any text r is names =
    (λ h. grammar_only any text names (sym is ∙ h), λ t. is ∙ grammar_read any text names t)
