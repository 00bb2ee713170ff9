-- A call's text is read back as the call.
use Rattle.std.proofs.Common.{◌≡◌, ℕ, zero, suc, ◌+◌, ◌-◌, ◌*◌, ◌<◌, ◌≤◌, Bool, true, false, not, ◌&&◌, ◌||◌, cond, nat_lt, nat_le, Option, Some, None, Ok, List, [], ◌∷◌, ◌++◌, length, take, drop, codes, refl, sym, ap, ◌∙◌, subst, ⊎_elim, append_assoc, length-append, arith}
use Rattle.std.specs.List.{join_with_byte, list_all, onto_first, position, position_or_len, prefix_len, slice_split}
use Rattle.std.specs.Option.{option_map, option_or}
use Rattle.std.specs.Str.{bytes_eq}
use Rattle.std.proofs.Math.Seq.{drop-append_seam, take-append_seam}
use Rattle.std.proofs.lemmas.Bool.{and_from, and_parts, cases_Bool, cond-false, cond-true, eqb-true, false≢true, le-ltb, leb-true, ltb-true, ne_eqb}
use Rattle.std.proofs.lemmas.List.{append-nil, take-append-drop}
use Rattle.std.proofs.lemmas.List.Folds.{list_all-append}
use Rattle.std.proofs.lemmas.Slice.Eq.{bytes_eq-Decides}
use Rattle.pf_base.specs.declared.path_fault.PathFault.{PathFault}
use Rattle.pf_base.specs.declared.path_fault.PathFault.TheVariants.{BadByte, Empty, Reserved, TooLong}
use Rattle.pf_base.specs.Name.{is_plain_byte}
use Rattle.pf_base.specs.Path.{bad_byte, is_dots, is_path_name, is_reserved, is_slash, is_written_name, name_fault, names_fault, path_of_names}
use Rattle.pf_base.specs.Text.{is_nothing}
use Rattle.pf_parts.specs.declared.call.Base.{Base}
use Rattle.pf_parts.specs.declared.call.Base.TheVariants.{Below, Root, Up}
use Rattle.pf_parts.specs.declared.call.Call.{Call}
use Rattle.pf_parts.specs.CallText.{IsCall, base_pieces, base_up, call_from, call_of, call_text, climb, ends_below, is_base, is_own, last_pieces, path_at, read_call, read_front, read_pieces, read_root, ups}
use Rattle.pf_parts.proofs.CallReads.{pieces_read}

not_false : (b : Bool) → not b ≡ true → b ≡ false
not_false true h = cc
not_false false h = refl

-- what a name of a call's text is
record Written (name : List ℕ) : Type 0 where
  some : 0 < length name
  few : length name ≤ 63
  bytes : list_all is_plain_byte name ≡ true
  dots : is_dots name ≡ false
  free : is_reserved name ≡ false

written : (name : List ℕ) → is_written_name false name ≡ true → Written name
unfolding is_written_name is_path_name
written name h =
    let a = and_parts _ _ h in
    let b = and_parts _ _ a.0 in
    let c = and_parts _ _ b.0 in
    let d = and_parts _ _ b.1 in
    record { some = ltb-true 0 (length name) c.0; few = leb-true (length name) 63 c.1; bytes = d.0; dots = not_false _ d.1; free = not_false _ a.1 }

-- a name has no fault
all_pass : (p : ℕ → Bool) (xs : List ℕ) → list_all p xs ≡ true → prefix_len (λ x. not (not (p x))) xs ≡ length xs
all_pass p [] h = refl
all_pass p (x ∷ xs) h =
    let both = and_parts (p x) (list_all p xs) h in
    let e = all_pass p xs both.1 in
    rw (both.0, e) (let f : 1 + length xs ≡ suc (length xs) = omega arith in f)

no_place : (name : List ℕ) → list_all is_plain_byte name ≡ true → position (λ byte. not (is_plain_byte byte)) name ≡ None
no_place name h = cond-false _ _ _ (le-ltb (position_or_len (λ byte. not (is_plain_byte byte)) name) (length name) (let e = all_pass is_plain_byte name h in omega arith))

something : (name : List ℕ) → 0 < length name → is_nothing name ≡ false
something [] h = absurd (omega arith)
something (byte ∷ bytes) h = refl

no_trial : (empty dots reserved long : Bool) (place : Option ℕ) (a b c d : PathFault) (at : ℕ → PathFault) → empty ≡ false → dots ≡ false → place ≡ None → reserved ≡ false → long ≡ false → option_or (cond empty (Some a) None) (option_or (cond dots (Some b) (option_map at place)) (option_or (cond reserved (Some c) None) (cond long (Some d) None))) ≡ None
no_trial empty dots reserved long place a b c d at h i j k l = rw (h, i, j, k, l) refl

no_fault : (start : ℕ) (name : List ℕ) → Written name → name_fault false start name ≡ None
unfolding name_fault bad_byte
no_fault start name w =
    no_trial (is_nothing name) (is_dots name) (is_reserved name) (nat_lt 63 (length name)) (position (λ byte. not (is_plain_byte byte)) name) Empty (BadByte start) Reserved (TooLong (length name)) (λ i. BadByte (start + i))
    (something name w.some) w.dots (no_place name w.bytes) w.free (le-ltb 63 (length name) w.few)

no_faults : (start : ℕ) (names : List (List ℕ)) → list_all (is_written_name false) names ≡ true → names_fault false start names ≡ None
no_faults start [] h = refl
no_faults start (name ∷ names) h =
    let both = and_parts (is_written_name false name) (list_all (is_written_name false) names) h in
    rw (no_fault start name (written name both.0)) (no_faults (start + length name + 1) names both.1)

names_at : (start : ℕ) (names : List (List ℕ)) → list_all (is_written_name false) names ≡ true → length names ≤ 8 → path_at start names ≡ Ok names
unfolding path_of_names
names_at start names named few = rw (no_faults start names named) (cond-false _ _ _ (le-ltb 8 (length names) few))

-- pieces have no `/`, and none is `*`
abbrev is_free : List ℕ → Bool
is_free piece = list_all (λ byte. not (is_slash byte)) piece

abbrev is_other : List ℕ → Bool
is_other piece = not (bytes_eq piece (codes "*"))

slash_free : (byte : ℕ) → is_plain_byte byte ≡ true → not (is_slash byte) ≡ true
unfolding is_plain_byte
slash_free byte h =
    ⊎_elim
    (λ slash. absurd (false≢true (subst (λ b. is_plain_byte b ≡ true) (eqb-true byte 47 slash) h)))
    (λ other. ap not other)
    (cases_Bool (is_slash byte))

plain_free : (bytes : List ℕ) → list_all is_plain_byte bytes ≡ true → is_free bytes ≡ true
plain_free [] h = refl
plain_free (byte ∷ bytes) h =
    let both = and_parts (is_plain_byte byte) (list_all is_plain_byte bytes) h in
    and_from _ _ (slash_free byte both.0) (plain_free bytes both.1)

not_star : (name : List ℕ) → list_all is_plain_byte name ≡ true → is_other name ≡ true
unfolding is_plain_byte
not_star name h =
    ⊎_elim
    (λ star. absurd (false≢true (subst (λ n. list_all is_plain_byte n ≡ true) ((bytes_eq-Decides name (codes "*")).0 star) h)))
    (λ other. ap not other)
    (cases_Bool (bytes_eq name (codes "*")))

names_free : (names : List (List ℕ)) → list_all (is_written_name false) names ≡ true → list_all is_free names ≡ true
names_free [] h = refl
names_free (name ∷ names) h =
    let both = and_parts (is_written_name false name) (list_all (is_written_name false) names) h in
    and_from _ _ (plain_free name (written name both.0).bytes) (names_free names both.1)

names_other : (names : List (List ℕ)) → list_all (is_written_name false) names ≡ true → list_all is_other names ≡ true
names_other [] h = refl
names_other (name ∷ names) h =
    let both = and_parts (is_written_name false name) (list_all (is_written_name false) names) h in
    and_from _ _ (not_star name (written name both.0).bytes) (names_other names both.1)

climb_free : (n : ℕ) → list_all is_free (climb n) ≡ true
climb_free zero = refl
climb_free (suc n) = climb_free n

climb_other : (n : ℕ) → list_all is_other (climb n) ≡ true
climb_other zero = refl
climb_other (suc n) = climb_other n

base_free : (base : Base) → list_all is_free (base_pieces base) ≡ true
base_free Below = refl
base_free (Up n) = climb_free n
base_free Root = refl

base_other : (base : Base) → list_all is_other (base_pieces base) ≡ true
base_other Below = refl
base_other (Up n) = climb_other n
base_other Root = refl

-- cutting at `/`
onto_append : (byte : ℕ) (parts others : List (List ℕ)) → 1 ≤ length parts → onto_first byte (parts ++ others) ≡ onto_first byte parts ++ others
onto_append byte [] others h = absurd (omega arith)
onto_append byte (part ∷ parts) others h = refl

some_onto : (byte : ℕ) (parts : List (List ℕ)) → 1 ≤ length (onto_first byte parts)
some_onto byte [] = omega arith
some_onto byte (part ∷ parts) = omega arith

some_cond : (b : Bool) (one other : List (List ℕ)) → 1 ≤ length one → 1 ≤ length other → 1 ≤ length (cond b one other)
some_cond true one other h k = h
some_cond false one other h k = k

pub some_parts : (text : List ℕ) → 1 ≤ length (slice_split is_slash text)
some_parts [] = omega arith
some_parts (byte ∷ text) = some_cond (is_slash byte) ([] ∷ slice_split is_slash text) (onto_first byte (slice_split is_slash text)) (omega arith) (some_onto byte (slice_split is_slash text))

split_append : (front back : List ℕ) → slice_split is_slash (front ++ 47 ∷ back) ≡ slice_split is_slash front ++ slice_split is_slash back
split_append [] back = refl
split_append (byte ∷ front) back = split (is_slash byte) (split_append front back)
  where
    split : (b : Bool) → slice_split is_slash (front ++ 47 ∷ back) ≡ slice_split is_slash front ++ slice_split is_slash back → cond b ([] ∷ slice_split is_slash (front ++ 47 ∷ back)) (onto_first byte (slice_split is_slash (front ++ 47 ∷ back))) ≡ cond b ([] ∷ slice_split is_slash front) (onto_first byte (slice_split is_slash front)) ++ slice_split is_slash back
    split true e = ap (λ parts. [] ∷ parts) e
    split false e = ap (onto_first byte) e ∙ onto_append byte (slice_split is_slash front) (slice_split is_slash back) (some_parts front)

split_free : (piece : List ℕ) → is_free piece ≡ true → slice_split is_slash piece ≡ piece ∷ []
split_free [] h = refl
split_free (byte ∷ piece) h =
    let both = and_parts (not (is_slash byte)) (is_free piece) h in
    cond-false _ _ _ (not_false (is_slash byte) both.0) ∙ ap (onto_first byte) (split_free piece both.1)

split_joined : (piece : List ℕ) (pieces : List (List ℕ)) → list_all is_free (piece ∷ pieces) ≡ true → slice_split is_slash (join_with_byte 47 (piece ∷ pieces)) ≡ piece ∷ pieces
split_joined piece [] h = split_free piece (and_parts (is_free piece) true h).0
split_joined piece (next ∷ pieces) h =
    let both = and_parts (is_free piece) (list_all is_free (next ∷ pieces)) h in
    split_append piece (join_with_byte 47 (next ∷ pieces))
    ∙ (λ i. split_free piece both.0 i ++ split_joined next pieces both.1 i)

-- what stands before a `/*`
first_nothing : (piece : List ℕ) (pieces rest : List (List ℕ)) → [] ∷ rest ≡ piece ∷ pieces → is_nothing piece ≡ false → ⊥
first_nothing piece pieces rest same h = let e : [] ≡ piece = cc in false≢true (sym h ∙ sym (ap is_nothing e))

some_joined : (text piece : List ℕ) (pieces : List (List ℕ)) → slice_split is_slash text ≡ piece ∷ pieces → is_nothing piece ≡ false → is_nothing text ≡ false
some_joined [] piece pieces split h = absurd (first_nothing piece pieces [] split h)
some_joined (byte ∷ text) piece pieces split h = refl

read_first : (text piece : List ℕ) (pieces : List (List ℕ)) (children : Bool) → slice_split is_slash text ≡ piece ∷ pieces → is_nothing piece ≡ false → read_front text children ≡ read_pieces (piece ∷ pieces) children
unfolding read_front
read_first [] piece pieces children split h = absurd (first_nothing piece pieces [] split h)
read_first (byte ∷ text) piece pieces children split h =
    ⊎_elim
    (λ slash. absurd (first_nothing piece pieces (slice_split is_slash text) (sym (cond-true _ _ _ slash) ∙ split) h))
    (λ other. cond-false _ _ _ other ∙ ap (λ parts. read_pieces parts children) split)
    (cases_Bool (is_slash byte))

second_false : (a b : Bool) → (a || b) ≡ false → b ≡ false
second_false true b h = cc
second_false false b h = h

not_up : (name : List ℕ) → Written name → bytes_eq name (codes "..") ≡ false
unfolding is_dots
not_up name w = second_false (bytes_eq name (codes ".")) (bytes_eq name (codes "..")) w.dots

no_ups : (names : List (List ℕ)) → list_all (is_written_name false) names ≡ true → ups names ≡ 0
no_ups [] h = refl
no_ups (name ∷ names) h =
    let both = and_parts (is_written_name false name) (list_all (is_written_name false) names) h in
    cond-false _ _ _ (not_up name (written name both.0))

base_up_of : (n : ℕ) → is_base (Up n) ≡ true → base_up n ≡ Ok (Up n)
base_up_of n h =
    let both = and_parts (nat_le 1 n) (nat_le n 8) h in
    let low = leb-true 1 n both.0 in
    let high = leb-true n 8 both.1 in
    cond-false _ _ _ (ne_eqb n 0 (λ zero_is. let e = ap (λ k. k) zero_is in omega arith)) ∙ cond-false _ _ _ (le-ltb 8 n high)

record Names (names : List (List ℕ)) : Type 0 where
  few : length names ≤ 8
  named : list_all (is_written_name false) names ≡ true

front_below : (name : List ℕ) (names : List (List ℕ)) (children : Bool) → Names (name ∷ names) → read_front (join_with_byte 47 (name ∷ names)) children ≡ Ok (call_of Below (name ∷ names) children)
front_below name names children h =
    let both = and_parts (is_written_name false name) (list_all (is_written_name false) names) h.named in
    let split = split_joined name names (names_free (name ∷ names) h.named) in
    read_first (join_with_byte 47 (name ∷ names)) name names children split (something name (written name both.0).some)
    ∙ pieces_read (name ∷ names) (name ∷ names) 0 children refl (no_ups (name ∷ names) h.named)
    ∙ ap (λ path. call_from path (Ok Below) children) (names_at (3 * 0) (name ∷ names) h.named h.few)

front_up : (n : ℕ) (names : List (List ℕ)) (children : Bool) → is_base (Up (suc n)) ≡ true → Names names → read_front (join_with_byte 47 (climb (suc n) ++ names)) children ≡ Ok (call_of (Up (suc n)) names children)
front_up n names children based h =
    let free : list_all is_free (climb (suc n) ++ names) ≡ true = list_all-append is_free (climb (suc n)) names ∙ and_from _ _ (climb_free (suc n)) (names_free names h.named) in
    let split = split_joined (codes "..") (climb n ++ names) free in
    read_first (join_with_byte 47 (climb (suc n) ++ names)) (codes "..") (climb n ++ names) children split refl
    ∙ pieces_read (climb (suc n) ++ names) names (suc n) children refl (no_ups names h.named)
    ∙ (λ i. call_from (names_at (3 * suc n) names h.named h.few i) (base_up_of (suc n) based i) children)

front_root : (name : List ℕ) (names : List (List ℕ)) (children : Bool) → Names (name ∷ names) → read_front (join_with_byte 47 ([] ∷ name ∷ names)) children ≡ Ok (call_of Root (name ∷ names) children)
unfolding read_front read_root
front_root name names children h =
    let both = and_parts (is_written_name false name) (list_all (is_written_name false) names) h.named in
    let split = split_joined name names (names_free (name ∷ names) h.named) in
    let some = some_joined (join_with_byte 47 (name ∷ names)) name names split (something name (written name both.0).some) in
    cond-false _ _ _ some
    ∙ ap (λ parts. call_from (path_at 1 parts) (Ok Root) children) split
    ∙ ap (λ path. call_from path (Ok Root) children) (names_at 1 (name ∷ names) h.named h.few)

-- a text whose last piece isn't `*`
and_no : (b : Bool) → (b && false) ≡ false
and_no true = refl
and_no false = refl

ends_other : (text : List ℕ) → ends_below text ≡ true → list_all is_other (slice_split is_slash text) ≡ false
ends_other text h =
    let k = length text - 2 in
    let end : drop k text ≡ codes "/*" = (bytes_eq-Decides (drop k text) (codes "/*")).0 h in
    let whole : text ≡ take k text ++ codes "/*" = sym (take-append-drop k text) ∙ ap (λ t. take k text ++ t) end in
    ap (λ t. list_all is_other (slice_split is_slash t)) whole
    ∙ ap (list_all is_other) (split_append (take k text) (codes "*"))
    ∙ list_all-append is_other (slice_split is_slash (take k text)) (codes "*" ∷ [])
    ∙ and_no (list_all is_other (slice_split is_slash (take k text)))

plain_call : (text : List ℕ) (pieces : List (List ℕ)) → slice_split is_slash text ≡ pieces → list_all is_other pieces ≡ true → read_call text ≡ read_front text false
unfolding read_call
plain_call text pieces split other =
    cond-false _ _ _ one ∙ cond-false _ _ _ two ∙ cond-false _ _ _ three
  where
    all : list_all is_other (slice_split is_slash text) ≡ true
    all = ap (list_all is_other) split ∙ other

    no : (b : Bool) → (b ≡ true → list_all is_other (slice_split is_slash text) ≡ false) → b ≡ false
    no true h = absurd (false≢true (sym (h refl) ∙ all))
    no false h = refl

    one : bytes_eq text (codes "*") ≡ false
    one = no (bytes_eq text (codes "*")) (λ h. ap (λ t. list_all is_other (slice_split is_slash t)) ((bytes_eq-Decides text (codes "*")).0 h))

    two : bytes_eq text (codes "/*") ≡ false
    two = no (bytes_eq text (codes "/*")) (λ h. ap (λ t. list_all is_other (slice_split is_slash t)) ((bytes_eq-Decides text (codes "/*")).0 h))

    three : ends_below text ≡ false
    three = no (ends_below text) (ends_other text)

-- and one whose last piece is
some_length : (text : List ℕ) → is_nothing text ≡ false → 1 ≤ length text
some_length [] h = absurd (false≢true (sym h))
some_length (byte ∷ text) h = omega arith

below_call : (front : List ℕ) → is_nothing front ≡ false → read_call (front ++ codes "/*") ≡ read_front front true
unfolding read_call
below_call front some =
    cond-false _ _ _ one ∙ cond-false _ _ _ two ∙ cond-true _ _ _ three ∙ ap (λ t. read_front t true) kept
  where
    long : length (front ++ codes "/*") ≡ length front + 2
    long = length-append front (codes "/*")

    filled : 1 ≤ length front
    filled = some_length front some

    at : length (front ++ codes "/*") - 2 ≡ length front
    at = let a = long in omega arith

    no : (b : Bool) → (b ≡ true → ⊥) → b ≡ false
    no true h = absurd (h refl)
    no false h = refl

    one : bytes_eq (front ++ codes "/*") (codes "*") ≡ false
    one = no _ (λ h. let e = ap length ((bytes_eq-Decides (front ++ codes "/*") (codes "*")).0 h) in let a = long in let b = filled in omega arith)

    two : bytes_eq (front ++ codes "/*") (codes "/*") ≡ false
    two = no _ (λ h. let e = ap length ((bytes_eq-Decides (front ++ codes "/*") (codes "/*")).0 h) in let a = long in let b = filled in omega arith)

    end : drop (length (front ++ codes "/*") - 2) (front ++ codes "/*") ≡ codes "/*"
    end = ap (λ n. drop n (front ++ codes "/*")) at ∙ drop-append_seam front (codes "/*")

    three : ends_below (front ++ codes "/*") ≡ true
    three = ap (λ t. bytes_eq t (codes "/*")) end

    kept : take (length (front ++ codes "/*") - 2) (front ++ codes "/*") ≡ front
    kept = ap (λ n. take n (front ++ codes "/*")) at ∙ take-append_seam front (codes "/*")

pub joined_more : (piece : List ℕ) (pieces : List (List ℕ)) (last : List ℕ) → join_with_byte 47 ((piece ∷ pieces) ++ last ∷ []) ≡ join_with_byte 47 (piece ∷ pieces) ++ 47 ∷ last
joined_more piece [] last = refl
joined_more piece (next ∷ pieces) last =
    ap (λ rest. piece ++ 47 ∷ rest) (joined_more next pieces last)
    ∙ sym (append_assoc piece (47 ∷ join_with_byte 47 (next ∷ pieces)) (47 ∷ last))

-- the front of a call's text: its pieces, and what it is read as
record Front (base : Base) (names : List (List ℕ)) : Type 0 where
  piece : List ℕ
  pieces : List (List ℕ)
  shape : base_pieces base ++ names ≡ piece ∷ pieces
  some : is_nothing (join_with_byte 47 (base_pieces base ++ names)) ≡ false
  reads : (children : Bool) → read_front (join_with_byte 47 (base_pieces base ++ names)) children ≡ Ok (call_of base names children)

some_pieces : (piece : List ℕ) (pieces : List (List ℕ)) → list_all is_free (piece ∷ pieces) ≡ true → is_nothing piece ≡ false → is_nothing (join_with_byte 47 (piece ∷ pieces)) ≡ false
some_pieces piece pieces free h = some_joined (join_with_byte 47 (piece ∷ pieces)) piece pieces (split_joined piece pieces free) h

up_free : (n : ℕ) (names : List (List ℕ)) → list_all (is_written_name false) names ≡ true → list_all is_free (climb n ++ names) ≡ true
up_free n names named = list_all-append is_free (climb n) names ∙ and_from _ _ (climb_free n) (names_free names named)

front_of_names : (name : List ℕ) (names : List (List ℕ)) → Names (name ∷ names) → Front Below (name ∷ names)
front_of_names name names h =
    let both = and_parts (is_written_name false name) (list_all (is_written_name false) names) h.named in
    record {
      piece = name;
      pieces = names;
      shape = refl;
      some = some_pieces name names (names_free (name ∷ names) h.named) (something name (written name both.0).some);
      reads = λ children. front_below name names children h;
    }

front_of_up : (n : ℕ) (names : List (List ℕ)) → is_base (Up (suc n)) ≡ true → Names names → Front (Up (suc n)) names
front_of_up n names based h = record {
  piece = codes "..";
  pieces = climb n ++ names;
  shape = refl;
  some = some_pieces (codes "..") (climb n ++ names) (up_free (suc n) names h.named) refl;
  reads = λ children. front_up n names children based h;
}

front_of_root : (name : List ℕ) (names : List (List ℕ)) → Names (name ∷ names) → Front Root (name ∷ names)
front_of_root name names h = record {
  piece = [];
  pieces = name ∷ names;
  shape = refl;
  some = refl;
  reads = λ children. front_root name names children h;
}

all_free : (base : Base) (names : List (List ℕ)) → Names names → list_all is_free (base_pieces base ++ names) ≡ true
all_free base names h = list_all-append is_free (base_pieces base) names ∙ and_from _ _ (base_free base) (names_free names h.named)

all_other : (base : Base) (names : List (List ℕ)) → Names names → list_all is_other (base_pieces base ++ names) ≡ true
all_other base names h = list_all-append is_other (base_pieces base) names ∙ and_from _ _ (base_other base) (names_other names h.named)

-- a call of one ruleset
back_one : (base : Base) (names : List (List ℕ)) → Names names → Front base names → read_call (join_with_byte 47 (base_pieces base ++ (names ++ []))) ≡ Ok (call_of base names false)
back_one base names h front =
    let split : slice_split is_slash (join_with_byte 47 (base_pieces base ++ names)) ≡ base_pieces base ++ names =
    ap (λ pieces. slice_split is_slash (join_with_byte 47 pieces)) front.shape
    ∙ split_joined front.piece front.pieces (ap (list_all is_free) (sym front.shape) ∙ all_free base names h)
    ∙ sym front.shape in
    ap (λ rest. read_call (join_with_byte 47 (base_pieces base ++ rest))) (append-nil names)
    ∙ plain_call (join_with_byte 47 (base_pieces base ++ names)) (base_pieces base ++ names) split (all_other base names h)
    ∙ front.reads false

-- a call of the rulesets right below
back_children : (base : Base) (names : List (List ℕ)) → Names names → Front base names → read_call (join_with_byte 47 (base_pieces base ++ (names ++ codes "*" ∷ []))) ≡ Ok (call_of base names true)
back_children base names h front =
    let text : join_with_byte 47 (base_pieces base ++ (names ++ codes "*" ∷ [])) ≡ join_with_byte 47 (base_pieces base ++ names) ++ codes "/*" =
    ap (join_with_byte 47) (sym (append_assoc (base_pieces base) names (codes "*" ∷ [])))
    ∙ ap (λ pieces. join_with_byte 47 (pieces ++ codes "*" ∷ [])) front.shape
    ∙ joined_more front.piece front.pieces (codes "*")
    ∙ ap (λ pieces. join_with_byte 47 pieces ++ codes "/*") (sym front.shape) in
    ap read_call text ∙ below_call (join_with_byte 47 (base_pieces base ++ names)) front.some ∙ front.reads true

back_by : (children : Bool) (base : Base) (names : List (List ℕ)) → Names names → Front base names → read_call (join_with_byte 47 (base_pieces base ++ (names ++ last_pieces children))) ≡ Ok (call_of base names children)
back_by true base names h front = back_children base names h front
back_by false base names h front = back_one base names h front

back : (base : Base) (names : List (List ℕ)) (children : Bool) → is_base base ≡ true → is_own base names children ≡ false → Names names → read_call (call_text (call_of base names children)) ≡ Ok (call_of base names children)
unfolding call_text read_call read_front read_root
back Below [] true based said h = refl
back Below [] false based said h = cc
back Below (name ∷ names) children based said h = back_by children Below (name ∷ names) h (front_of_names name names h)
back (Up zero) names children based said h = cc
back (Up (suc n)) names children based said h = back_by children (Up (suc n)) names h (front_of_up n names based h)
back Root [] true based said h = refl
back Root [] false based said h = refl
back Root (name ∷ names) children based said h = back_by children Root (name ∷ names) h (front_of_root name names h)

pub read_back : (call : Call) → IsCall call → read_call (call_text call) ≡ Ok call
read_back call h = back call.base call.path call.children h.based h.said (record { few = h.few; named = h.named })
