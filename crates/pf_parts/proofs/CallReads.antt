-- What is known while the text of a call is read.
use Rattle.std.proofs.Common.{◌≡◌, ℕ, zero, suc, ◌+◌, ◌*◌, ◌<◌, ◌≤◌, ◌^◌, Bool, true, false, not, cond, nat_lt, Option, Some, None, Ok, Err, List, [], ◌∷◌, ◌++◌, length, take, drop, codes, refl, sym, ap, ◌∙◌, subst, ⊎_elim, ◌⊎◌, inl, inr, arith}
use Rattle.std.specs.List.{onto_first, position, position_or_len, slice_split}
use Rattle.std.specs.Option.{option_or, option_map}
use Rattle.std.specs.Str.{bytes_eq}
use Rattle.std.proofs.lemmas.Bool.{cond-false, ltb-true}
use Rattle.std.proofs.lemmas.List.{take-append-drop}
use Rattle.std.proofs.lemmas.Slice.Eq.{bytes_eq-Decides}
use Rattle.pf_base.specs.declared.path_fault.PathFault.{PathFault}
use Rattle.pf_base.specs.declared.path_fault.PathFault.TheVariants.{Empty, BadByte, Reserved, TooLong, TooDeep}
use Rattle.pf_base.specs.Name.{is_plain_byte}
use Rattle.pf_base.specs.Path.{bad_byte, is_dots, is_reserved, is_slash, name_fault, names_fault, path_of_names, read_path}
use Rattle.pf_base.specs.Text.{is_nothing}
use Rattle.pf_parts.specs.CallReading.{Fits, shifted}
use Rattle.pf_parts.specs.CallText.{base_up, call_from, climb, path_at, read_pieces, ups}

-- a first name without a byte
pub path_of_main : (start : ℕ) (text : List ℕ) → bytes_eq text (codes "/") ≡ true → path_at start (slice_split is_slash text) ≡ Err Empty
unfolding path_of_names name_fault
path_of_main start text h =
    subst (λ t. path_at start (slice_split is_slash t) ≡ Err Empty) (sym ((bytes_eq-Decides text (codes "/")).0 h)) refl

-- faults of a name at another place
shift_or : (d : ℕ) (a b : Option PathFault) → option_map (shifted d) (option_or a b) ≡ option_or (option_map (shifted d) a) (option_map (shifted d) b)
shift_or d None b = refl
shift_or d (Some e) b = refl

shift_place : (d s : ℕ) (place : Option ℕ) → option_map (λ i. BadByte (d + s + i)) place ≡ option_map (shifted d) (option_map (λ i. BadByte (s + i)) place)
shift_place d s None = refl
shift_place d s (Some i) = let e : d + s + i ≡ d + (s + i) = omega arith in ap (λ k. Some (BadByte k)) e

shift_dots : (d s : ℕ) (dots : Bool) (place : Option ℕ) → cond dots (Some (BadByte (d + s))) (option_map (λ i. BadByte (d + s + i)) place) ≡ option_map (shifted d) (cond dots (Some (BadByte s)) (option_map (λ i. BadByte (s + i)) place))
shift_dots d s true place = refl
shift_dots d s false place = shift_place d s place

shift_cond : (d : ℕ) (b : Bool) (e : PathFault) → shifted d e ≡ e → cond b (Some e) None ≡ option_map (shifted d) (cond b (Some e) None)
shift_cond d true e h = ap Some (sym h)
shift_cond d false e h = refl

shift_name : (d s : ℕ) (name : List ℕ) → name_fault false (d + s) name ≡ option_map (shifted d) (name_fault false s name)
unfolding name_fault bad_byte
shift_name d s name =
    let place = position (λ byte. not (is_plain_byte byte)) name in
    let empty = shift_cond d (is_nothing name) Empty refl in
    let bad = shift_dots d s (is_dots name) place in
    let reserved = shift_cond d (is_reserved name) Reserved refl in
    let long = shift_cond d (nat_lt 63 (length name)) (TooLong (length name)) refl in
    sym (shift_or d _ _
    ∙ (λ i. option_or (sym empty i) (shift_or d (cond (is_dots name) (Some (BadByte s)) (option_map (λ i. BadByte (s + i)) place)) (option_or (cond (is_reserved name) (Some Reserved) None) (cond (nat_lt 63 (length name)) (Some (TooLong (length name))) None)) i))
    ∙ (λ i. option_or (cond (is_nothing name) (Some Empty) None) (option_or (sym bad i) (shift_or d (cond (is_reserved name) (Some Reserved) None) (cond (nat_lt 63 (length name)) (Some (TooLong (length name))) None) i)))
    ∙ (λ i. option_or (cond (is_nothing name) (Some Empty) None) (option_or (cond (is_dots name) (Some (BadByte (d + s))) (option_map (λ i. BadByte (d + s + i)) place)) (option_or (sym reserved i) (sym long i)))))

shift_names : (d s : ℕ) (names : List (List ℕ)) → names_fault false (d + s) names ≡ option_map (shifted d) (names_fault false s names)
shift_names d s [] = refl
shift_names d s (name ∷ names) =
    let e : d + s + length name + 1 ≡ d + (s + length name + 1) = omega arith in
    (λ i. option_or (shift_name d s name i) (names_fault false (e i) names))
    ∙ ap (option_or (option_map (shifted d) (name_fault false s name))) (shift_names d (s + length name + 1) names)
    ∙ sym (shift_or d (name_fault false s name) (names_fault false (s + length name + 1) names))

-- what is read of names alone, read at a place
record Moved (start : ℕ) (names : List (List ℕ)) (fault : Option PathFault) : Type 0 where
  good : (path : List (List ℕ)) → path_of_names fault names ≡ Ok path → path_of_names (option_map (shifted start) fault) names ≡ Ok path
  bad : (e : PathFault) → path_of_names fault names ≡ Err e → path_of_names (option_map (shifted start) fault) names ≡ Err (shifted start e)

deep_bad : (start : ℕ) (deep : Bool) (names : List (List ℕ)) (e : PathFault) → cond deep (Err (TooDeep (length names))) (Ok names) ≡ Err e → cond deep (Err (TooDeep (length names))) (Ok names) ≡ Err (shifted start e)
deep_bad start true names e h = let same : TooDeep (length names) ≡ e = cc in ap (λ x. Err (shifted start x)) same
deep_bad start false names e h = cc

moved : (start : ℕ) (names : List (List ℕ)) (fault : Option PathFault) → Moved start names fault
unfolding path_of_names
moved start names None = record { good = λ path h. h; bad = λ e h. deep_bad start (nat_lt 8 (length names)) names e h }
moved start names (Some f) = record { good = λ path h. cc; bad = λ e h. let same : f ≡ e = cc in ap (λ x. Err (shifted start x)) same }

names_read : (text : List ℕ) → bytes_eq text (codes "/") ≡ false → read_path false text ≡ path_at 0 (slice_split is_slash text)
unfolding read_path
names_read text h = cond-false _ _ _ h

at_start : (start : ℕ) (text : List ℕ) → path_at start (slice_split is_slash text) ≡ path_of_names (option_map (shifted start) (names_fault false 0 (slice_split is_slash text))) (slice_split is_slash text)
at_start start text =
    let e : start ≡ start + 0 = omega arith in
    ap (λ fault. path_of_names fault (slice_split is_slash text)) (ap (λ n. names_fault false n (slice_split is_slash text)) e ∙ shift_names start 0 (slice_split is_slash text))

pub path_behind : (start : ℕ) (text : List ℕ) (path : List (List ℕ)) → bytes_eq text (codes "/") ≡ false → Ok path ≡ read_path false text → Ok path ≡ path_at start (slice_split is_slash text)
path_behind start text path h read =
    sym (at_start start text ∙ (moved start (slice_split is_slash text) (names_fault false 0 (slice_split is_slash text))).good path (sym (names_read text h) ∙ sym read))

pub fault_behind : (start : ℕ) (text : List ℕ) (fault : PathFault) → bytes_eq text (codes "/") ≡ false → Err fault ≡ read_path false text → Err (shifted start fault) ≡ path_at start (slice_split is_slash text)
fault_behind start text fault h read =
    sym (at_start start text ∙ (moved start (slice_split is_slash text) (names_fault false 0 (slice_split is_slash text))).bad fault (sym (names_read text h) ∙ sym read))

-- the places of faults lie within the text
abbrev total : List (List ℕ) → ℕ
total [] = 0
total (name ∷ names) = length name + 1 + total names

total_onto : (byte : ℕ) (bytes : List ℕ) → total (onto_first byte (slice_split is_slash bytes)) ≡ 1 + total (slice_split is_slash bytes)
total_onto byte bytes = onto (slice_split is_slash bytes) (some bytes)
  where
    onto : (parts : List (List ℕ)) → 1 ≤ length parts → total (onto_first byte parts) ≡ 1 + total parts
    onto [] h = absurd (omega arith)
    onto (part ∷ parts) h = omega arith

    some_onto : (b : ℕ) (parts : List (List ℕ)) → 1 ≤ length (onto_first b parts)
    some_onto b [] = omega arith
    some_onto b (part ∷ parts) = omega arith

    some_cond : (b : Bool) (one other : List (List ℕ)) → 1 ≤ length one → 1 ≤ length other → 1 ≤ length (cond b one other)
    some_cond true one other h k = h
    some_cond false one other h k = k

    some : (bs : List ℕ) → 1 ≤ length (slice_split is_slash bs)
    some [] = omega arith
    some (b ∷ bs) = some_cond (is_slash b) ([] ∷ slice_split is_slash bs) (onto_first b (slice_split is_slash bs)) (omega arith) (some_onto b (slice_split is_slash bs))

total_split : (text : List ℕ) → total (slice_split is_slash text) ≡ length text + 1
total_split [] = refl
total_split (byte ∷ bytes) = split (is_slash byte) (total_split bytes)
  where
    split : (b : Bool) → total (slice_split is_slash bytes) ≡ length bytes + 1 → total (cond b ([] ∷ slice_split is_slash bytes) (onto_first byte (slice_split is_slash bytes))) ≡ suc (length bytes) + 1
    split true e = omega arith
    split false e = let f = total_onto byte bytes in omega arith

or_some : (a b : Option PathFault) (e : PathFault) → option_or a b ≡ Some e → (a ≡ Some e) ⊎ (b ≡ Some e)
or_some None b e h = inr h
or_some (Some x) b e h = inl h

place_within : (name : List ℕ) (i : ℕ) → position (λ byte. not (is_plain_byte byte)) name ≡ Some i → i < length name
place_within name i h = inside (nat_lt (position_or_len (λ byte. not (is_plain_byte byte)) name) (length name)) refl h
  where
    inside : (b : Bool) → nat_lt (position_or_len (λ byte. not (is_plain_byte byte)) name) (length name) ≡ b → cond b (Some (position_or_len (λ byte. not (is_plain_byte byte)) name)) None ≡ Some i → i < length name
    inside true lt e = let same : position_or_len (λ byte. not (is_plain_byte byte)) name ≡ i = cc in subst (λ k. k < length name) same (ltb-true _ _ lt)
    inside false lt e = cc

bad_within : (s place : ℕ) (name : List ℕ) → bad_byte s name ≡ Some (BadByte place) → place ≤ s + length name
unfolding bad_byte
bad_within s place name h = by_dots (is_dots name) h
  where
    at : (o : Option ℕ) → position (λ byte. not (is_plain_byte byte)) name ≡ o → option_map (λ i. BadByte (s + i)) o ≡ Some (BadByte place) → place ≤ s + length name
    at None is e = cc
    at (Some i) is e = let same : s + i ≡ place = cc in let inside = place_within name i is in omega arith

    by_dots : (dots : Bool) → cond dots (Some (BadByte s)) (option_map (λ i. BadByte (s + i)) (position (λ byte. not (is_plain_byte byte)) name)) ≡ Some (BadByte place) → place ≤ s + length name
    by_dots true e = let same : s ≡ place = cc in omega arith
    by_dots false e = at (position (λ byte. not (is_plain_byte byte)) name) refl e

-- of four trials only the second can tell this fault
second_of : (empty reserved long : Bool) (bad : Option PathFault) (n place : ℕ) → option_or (cond empty (Some Empty) None) (option_or bad (option_or (cond reserved (Some Reserved) None) (cond long (Some (TooLong n)) None))) ≡ Some (BadByte place) → bad ≡ Some (BadByte place)
second_of true reserved long bad n place h = cc
second_of false reserved long (Some e) n place h = h
second_of false true long None n place h = cc
second_of false false true None n place h = cc
second_of false false false None n place h = cc

name_within : (s place : ℕ) (name : List ℕ) → name_fault false s name ≡ Some (BadByte place) → place ≤ s + length name
unfolding name_fault
name_within s place name h =
    bad_within s place name (second_of (is_nothing name) (is_reserved name) (nat_lt 63 (length name)) (bad_byte s name) (length name) place h)

names_within : (s place : ℕ) (names : List (List ℕ)) → names_fault false s names ≡ Some (BadByte place) → place < s + total names
names_within s place [] h = cc
names_within s place (name ∷ names) h =
    ⊎_elim (λ a. let e = name_within s place name a in omega arith)
    (λ b. let e = names_within (s + length name + 1) place names b in omega arith)
    (or_some (name_fault false s name) (names_fault false (s + length name + 1) names) (BadByte place) h)

deep_or : (deep : Bool) (names : List (List ℕ)) (place : ℕ) → cond deep (Err (TooDeep (length names))) (Ok names) ≡ Err (BadByte place) → ⊥
deep_or true names place h = cc
deep_or false names place h = cc

bad_of : (fault : Option PathFault) (names : List (List ℕ)) (place : ℕ) → path_of_names fault names ≡ Err (BadByte place) → fault ≡ Some (BadByte place)
unfolding path_of_names
bad_of None names place h = absurd (deep_or (nat_lt 8 (length names)) names place h)
bad_of (Some e) names place h = let same : e ≡ BadByte place = cc in ap Some same

pub fault_fits : (start : ℕ) (text : List ℕ) (fault : PathFault) → start + length text < 2 ^ 64 → bytes_eq text (codes "/") ≡ false → Err fault ≡ read_path false text → Fits start fault
fault_fits start text Empty room h read = tt
fault_fits start text (BadByte place) room h read =
    let found = bad_of (names_fault false 0 (slice_split is_slash text)) (slice_split is_slash text) place (sym (names_read text h) ∙ sym read) in
    let within = names_within 0 place (slice_split is_slash text) found in
    let all = total_split text in
    omega arith
fault_fits start text Reserved room h read = tt
fault_fits start text (TooLong n) room h read = tt
fault_fits start text (TooDeep n) room h read = tt

-- `..` at the front of pieces
ups_climb : (n : ℕ) (pieces : List (List ℕ)) → ups (climb n ++ pieces) ≡ n + ups pieces
ups_climb zero pieces = omega arith
ups_climb (suc n) pieces = let e = ups_climb n pieces in omega arith

drop_climb : (n : ℕ) (pieces : List (List ℕ)) → drop n (climb n ++ pieces) ≡ pieces
drop_climb zero pieces = refl
drop_climb (suc n) pieces = drop_climb n pieces

climb_more : (n : ℕ) (pieces : List (List ℕ)) → climb (suc n) ++ pieces ≡ climb n ++ codes ".." ∷ pieces
climb_more zero pieces = refl
climb_more (suc n) pieces = ap (λ rest. codes ".." ∷ rest) (climb_more n pieces)

pub pieces_read : (pieces rest : List (List ℕ)) (n : ℕ) (children : Bool) → pieces ≡ climb n ++ rest → ups rest ≡ 0 → read_pieces pieces children ≡ call_from (path_at (3 * n) rest) (base_up n) children
unfolding read_pieces
pieces_read pieces rest n children is last =
    let counted : ups pieces ≡ n = let e = ap ups is in let f = ups_climb n rest in omega arith in
    let left : drop (ups pieces) pieces ≡ rest = (λ i. drop (counted i) (is i)) ∙ drop_climb n rest in
    λ i. call_from (path_at (3 * counted i) (left i)) (base_up (counted i)) children

-- one `..` more
pub up_more : (text rest behind : List ℕ) (n : ℕ) → slice_split is_slash text ≡ climb n ++ slice_split is_slash rest → bytes_eq (take 3 rest) (codes "../") ≡ true → behind ≡ drop 3 rest → slice_split is_slash text ≡ climb (n + 1) ++ slice_split is_slash behind
up_more text rest behind n so front is =
    let begins : take 3 rest ≡ codes "../" = (bytes_eq-Decides (take 3 rest) (codes "../")).0 front in
    let whole : rest ≡ codes "../" ++ behind = sym (take-append-drop 3 rest) ∙ (λ i. begins i ++ sym is i) in
    let e : suc n ≡ n + 1 = omega arith in
    so ∙ ap (λ t. climb n ++ slice_split is_slash t) whole ∙ sym (climb_more n (slice_split is_slash behind)) ∙ ap (λ k. climb k ++ slice_split is_slash behind) e

-- a last `..`
pub up_last : (text rest : List ℕ) (n : ℕ) → slice_split is_slash text ≡ climb n ++ slice_split is_slash rest → bytes_eq rest (codes "..") ≡ true → slice_split is_slash text ≡ climb (n + 1) ++ []
up_last text rest n so last =
    let whole : rest ≡ codes ".." = (bytes_eq-Decides rest (codes "..")).0 last in
    let e : suc n ≡ n + 1 = omega arith in
    so ∙ ap (λ t. climb n ++ slice_split is_slash t) whole ∙ sym (climb_more n []) ∙ ap (λ k. climb k ++ []) e
