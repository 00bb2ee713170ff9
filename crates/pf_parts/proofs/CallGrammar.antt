-- What is read as a call is a text of the call.
use Rattle.std.proofs.Common.{◌≡◌, ℕ, zero, suc, ◌+◌, ◌-◌, ◌*◌, ◌<◌, ◌≤◌, Bool, true, false, not, ◌==◌, cond, nat_lt, Option, Some, None, Result, Ok, Err, List, [], ◌∷◌, ◌++◌, length, take, drop, codes, refl, sym, ap, ◌∙◌, subst, ⊎_elim, ◌⊎◌, inl, inr, ◌↔◌, append_assoc, arith}
use Rattle.std.specs.List.{join_with_byte, list_all, position, position_or_len, prefix_len, slice_split}
use Rattle.std.specs.Option.{option_map, option_or}
use Rattle.std.specs.Str.{bytes_eq}
use Rattle.std.proofs.lemmas.Bool.{and_from, cases_Bool, cond-false, cond-true, eqb-true, false≢true, le-leb, lt-ltb, ltb-false, ne_eqb}
use Rattle.std.proofs.lemmas.List.{append-nil, take-append-drop}
use Rattle.std.proofs.lemmas.List.Splits.{join_with_byte-slice_split}
use Rattle.std.proofs.lemmas.Slice.Eq.{bytes_eq-Decides}
use Rattle.pf_base.specs.declared.path_fault.PathFault.{PathFault}
use Rattle.pf_base.specs.declared.path_fault.PathFault.TheVariants.{BadByte, TooDeep}
use Rattle.pf_base.specs.Name.{is_plain_byte}
use Rattle.pf_base.specs.Path.{bad_byte, is_dots, is_path_name, is_slash, is_written_name, name_fault, names_fault, path_of_names}
use Rattle.pf_base.specs.Text.{is_nothing}
use Rattle.pf_parts.specs.declared.call.Base.{Base}
use Rattle.pf_parts.specs.declared.call.Base.TheVariants.{Below, Root, Up}
use Rattle.pf_parts.specs.declared.call.Call.{Call}
use Rattle.pf_parts.specs.CallText.{IsCallText, base_pieces, base_up, call_from, call_of, call_text, climb, ends_below, is_base, is_main, is_own, path_at, read_call, read_front, read_pieces, read_root, ups}
use Rattle.pf_parts.proofs.CallBack.{joined_more, read_back, some_parts}

-- a name without a fault may stand in a call
no_or : {A : Type 0} (a b : Option A) → option_or a b ≡ None → (a ≡ None) × (b ≡ None)
no_or None b h = (refl, h)
no_or (Some x) b h = cc

no_some : (b : Bool) (e : PathFault) → cond b (Some e) None ≡ None → b ≡ false
no_some true e h = cc
no_some false e h = refl

no_bad : (dots : Bool) (place : Option ℕ) (fault : PathFault) (at : ℕ → PathFault) → cond dots (Some fault) (option_map at place) ≡ None → (dots ≡ false) × (place ≡ None)
no_bad true place fault at h = cc
no_bad false None fault at h = (refl, refl)
no_bad false (Some i) fault at h = cc

no_index : (b : Bool) (n : ℕ) → cond b (Some n) None ≡ None → b ≡ false
no_index true n h = cc
no_index false n h = refl

all_prefix : (p : ℕ → Bool) (xs : List ℕ) → length xs ≤ prefix_len (λ x. not (not (p x))) xs → list_all p xs ≡ true
all_prefix p [] h = refl
all_prefix p (x ∷ xs) h =
    ⊎_elim
    (λ yes.
    let e : prefix_len (λ y. not (not (p y))) (x ∷ xs) ≡ 1 + prefix_len (λ y. not (not (p y))) xs = cond-true _ _ _ (ap (λ b. not (not b)) yes) in
    and_from _ _ yes (all_prefix p xs (omega arith)))
    (λ no.
    let e : prefix_len (λ y. not (not (p y))) (x ∷ xs) ≡ 0 = cond-false _ _ _ (ap (λ b. not (not b)) no) in
    absurd (omega arith))
    (cases_Bool (p x))

plain_of : (name : List ℕ) → position (λ byte. not (is_plain_byte byte)) name ≡ None → list_all is_plain_byte name ≡ true
plain_of name h =
    all_prefix is_plain_byte name (ltb-false (position_or_len (λ byte. not (is_plain_byte byte)) name) (length name) (no_index _ _ h))

some_length : (text : List ℕ) → is_nothing text ≡ false → 0 < length text
some_length [] h = absurd (false≢true (sym h))
some_length (byte ∷ text) h = omega arith

written_of : (start : ℕ) (name : List ℕ) → name_fault false start name ≡ None → is_written_name false name ≡ true
unfolding name_fault bad_byte is_written_name is_path_name
written_of start name h =
    let a = no_or _ _ h in
    let b = no_or _ _ a.1 in
    let c = no_or _ _ b.1 in
    let some = some_length name (no_some _ _ a.0) in
    let good = no_bad (is_dots name) (position (λ byte. not (is_plain_byte byte)) name) (BadByte start) (λ i. BadByte (start + i)) b.0 in
    let few : length name ≤ 63 = ltb-false 63 (length name) (no_some _ _ c.1) in
    and_from _ _
    (and_from _ _ (and_from _ _ (lt-ltb 0 (length name) some) (le-leb (length name) 63 few)) (and_from _ _ (plain_of name good.1) (ap not good.0)))
    (ap not (no_some _ _ c.0))

all_written : (start : ℕ) (names : List (List ℕ)) → names_fault false start names ≡ None → list_all (is_written_name false) names ≡ true
all_written start [] h = refl
all_written start (name ∷ names) h =
    let both = no_or (name_fault false start name) (names_fault false (start + length name + 1) names) h in
    and_from _ _ (written_of start name both.0) (all_written (start + length name + 1) names both.1)

-- names that were read
record NamesRead (pieces names : List (List ℕ)) : Type 0 where
  same : pieces ≡ names
  few : length names ≤ 8
  named : list_all (is_written_name false) names ≡ true

few_kept : (deep : Bool) (all names : List (List ℕ)) → cond deep (Err (TooDeep (length all))) (Ok all) ≡ Ok names → (deep ≡ false) × (all ≡ names)
few_kept true all names h = cc
few_kept false all names h = (refl, cc)

kept : (fault : Option PathFault) (all names : List (List ℕ)) → path_of_names fault all ≡ Ok names → (fault ≡ None) × ((nat_lt 8 (length all) ≡ false) × (all ≡ names))
unfolding path_of_names
kept None all names h = (refl, few_kept (nat_lt 8 (length all)) all names h)
kept (Some e) all names h = cc

names_read : (start : ℕ) (pieces names : List (List ℕ)) → path_at start pieces ≡ Ok names → NamesRead pieces names
names_read start pieces names h =
    let k = kept (names_fault false start pieces) pieces names h in
    subst (NamesRead pieces) k.1.1 (record { same = refl; few = ltb-false 8 (length pieces) k.1.0; named = all_written start pieces k.0 })

-- a call that was read
record CallRead (path : Result (List (List ℕ)) PathFault) (base : Result Base PathFault) (children : Bool) (call : Call) : Type 0 where
  names : List (List ℕ)
  at : Base
  path_is : path ≡ Ok names
  base_is : base ≡ Ok at
  same : call_of at names children ≡ call

call_read : (path : Result (List (List ℕ)) PathFault) (base : Result Base PathFault) (children : Bool) (call : Call) → call_from path base children ≡ Ok call → CallRead path base children call
call_read (Err fault) base children call h = cc
call_read (Ok names) (Err fault) children call h = cc
call_read (Ok names) (Ok at) children call h = record { names = names; at = at; path_is = refl; base_is = refl; same = cc }

few_ups : (deep : Bool) (n : ℕ) (base : Base) → cond deep (Err (TooDeep n)) (Ok (Up n)) ≡ Ok base → (deep ≡ false) × (Up n ≡ base)
few_ups true n base h = cc
few_ups false n base h = (refl, cc)

base_read : (n : ℕ) (base : Base) → base_up n ≡ Ok base → (is_base base ≡ true) × (base_pieces base ≡ climb n)
base_read zero base h = let e : Below ≡ base = cc in subst (λ b. (is_base b ≡ true) × (base_pieces b ≡ climb zero)) e (refl, refl)
base_read (suc n) base h =
    let some : (suc n == 0) ≡ false = ne_eqb (suc n) 0 (λ e. let f = e in omega arith) in
    let up = few_ups (nat_lt 8 (suc n)) (suc n) base (sym (cond-false _ _ _ some) ∙ h) in
    let few : suc n ≤ 8 = ltb-false 8 (suc n) up.0 in
    subst (λ b. (is_base b ≡ true) × (base_pieces b ≡ climb (suc n))) up.1 (and_from _ _ (le-leb 1 (suc n) (omega arith)) (le-leb (suc n) 8 few), refl)

climb_ups : (pieces : List (List ℕ)) → climb (ups pieces) ++ drop (ups pieces) pieces ≡ pieces
climb_ups [] = refl
climb_ups (piece ∷ pieces) =
    ⊎_elim
    (λ yes.
    let counted : ups (piece ∷ pieces) ≡ suc (ups pieces) = cond-true _ _ _ yes in
    ap (λ n. climb n ++ drop n (piece ∷ pieces)) counted
    ∙ (λ i. sym ((bytes_eq-Decides piece (codes "..")).0 yes) i ∷ climb_ups pieces i))
    (λ no. let counted : ups (piece ∷ pieces) ≡ 0 = cond-false _ _ _ no in ap (λ n. climb n ++ drop n (piece ∷ pieces)) counted)
    (cases_Bool (bytes_eq piece (codes "..")))

-- what was read before a `/*`, or of a whole text
record FrontRead (front : List ℕ) (children : Bool) (call : Call) : Type 0 where
  same : call.children ≡ children
  based : is_base call.base ≡ true
  few : length call.path ≤ 8
  named : list_all (is_written_name false) call.path ≡ true
  some : is_nothing front ≡ false
  spelled : (front ≡ join_with_byte 47 (base_pieces call.base ++ call.path)) ⊎ ((front ≡ codes "/") × ((call.base ≡ Root) × (call.path ≡ [])))

pieces_call : (front : List ℕ) (children : Bool) (call : Call) → is_nothing front ≡ false → read_pieces (slice_split is_slash front) children ≡ Ok call → FrontRead front children call
unfolding read_pieces
pieces_call front children call some h =
    let pieces = slice_split is_slash front in
    let r = call_read (path_at (3 * ups pieces) (drop (ups pieces) pieces)) (base_up (ups pieces)) children call h in
    let n = names_read (3 * ups pieces) (drop (ups pieces) pieces) r.names r.path_is in
    let b = base_read (ups pieces) r.at r.base_is in
    subst (FrontRead front children) r.same (record {
      same = refl;
      based = b.0;
      few = n.few;
      named = n.named;
      some = some;
      spelled = inl (sym (join_with_byte-slice_split 47 front) ∙ ap (join_with_byte 47) (sym (climb_ups pieces)) ∙ (λ i. join_with_byte 47 (sym b.1 i ++ n.same i)));
    })

root_call : (rest : List ℕ) (children : Bool) (call : Call) → read_root rest children ≡ Ok call → FrontRead (47 ∷ rest) children call
unfolding read_root
root_call [] children call h = let e : call_of Root [] children ≡ call = cc in
    subst (FrontRead (47 ∷ []) children) e (record { same = refl; based = refl; few = omega arith; named = refl; some = refl; spelled = inr (refl, (refl, refl)) })
root_call (byte ∷ rest) children call h =
    let text = byte ∷ rest in
    let r = call_read (path_at 1 (slice_split is_slash text)) (Ok Root) children call h in
    let n = names_read 1 (slice_split is_slash text) r.names r.path_is in
    let root : Root ≡ r.at = let e = r.base_is in cc in
    subst (FrontRead (47 ∷ text) children) r.same (subst (λ b. FrontRead (47 ∷ text) children (call_of b r.names children)) root (record {
      same = refl;
      based = refl;
      few = n.few;
      named = n.named;
      some = refl;
      spelled = inl (ap (λ t. 47 ∷ t) (sym (join_with_byte-slice_split 47 text)) ∙ root_joined (slice_split is_slash text) (some_parts text) ∙ ap (λ names. join_with_byte 47 ([] ∷ names)) n.same);
    }))
  where
    root_joined : (parts : List (List ℕ)) → 1 ≤ length parts → 47 ∷ join_with_byte 47 parts ≡ join_with_byte 47 ([] ∷ parts)
    root_joined [] k = absurd (omega arith)
    root_joined (part ∷ parts) k = refl

no_front : (children : Bool) (call : Call) → read_front [] children ≡ Ok call → ⊥
unfolding read_front read_pieces path_of_names name_fault
no_front children call h = cc

front_read : (front : List ℕ) (children : Bool) (call : Call) → read_front front children ≡ Ok call → FrontRead front children call
unfolding read_front
front_read [] children call h = absurd (no_front children call h)
front_read (byte ∷ rest) children call h =
    ⊎_elim
    (λ slash. subst (λ b. FrontRead (b ∷ rest) children call) (sym (eqb-true byte 47 slash)) (root_call rest children call (sym (cond-true _ _ _ slash) ∙ h)))
    (λ other. pieces_call (byte ∷ rest) children call refl (sym (cond-false _ _ _ other) ∙ h))
    (cases_Bool (is_slash byte))

-- of a whole text
whole_said : (base : Base) (names : List (List ℕ)) → is_nothing (join_with_byte 47 (base_pieces base ++ names)) ≡ false → (is_main base names false ≡ false) × (is_own base names false ≡ false)
whole_said Below [] h = cc
whole_said Below (name ∷ names) h = (refl, refl)
whole_said (Up n) names h = (refl, refl)
whole_said Root [] h = cc
whole_said Root (name ∷ names) h = (refl, refl)

whole_text : (text : List ℕ) (base : Base) (names : List (List ℕ)) (children : Bool) → children ≡ false → FrontRead text false (call_of base names children) → IsCallText (call_of base names children) text
unfolding call_text
whole_text text base names true is f = cc
whole_text text base names false is f =
    ⊎_elim
    (λ spelled.
    let said = whole_said base names (sym (ap is_nothing spelled) ∙ f.some) in
    record {
      sayable = record { based = f.based; few = f.few; named = f.named; said = said.1 };
      written = inl (spelled ∙ ap (λ rest. join_with_byte 47 (base_pieces base ++ rest)) (sym (append-nil names)) ∙ sym (cond-false _ _ _ said.0));
    })
    (λ main. subst (λ b. IsCallText (call_of b names false) text) (sym main.1.0) (subst (λ ns. IsCallText (call_of Root ns false) text) (sym main.1.1) (record {
      sayable = record { based = refl; few = omega arith; named = refl; said = refl };
      written = inl main.0;
    })))
    f.spelled

-- of a text with `/*` behind it
below_said : (base : Base) (names : List (List ℕ)) → (is_main base names true ≡ false) × (is_own base names true ≡ false)
below_said Below [] = (refl, refl)
below_said Below (name ∷ names) = (refl, refl)
below_said (Up n) names = (refl, refl)
below_said Root [] = (refl, refl)
below_said Root (name ∷ names) = (refl, refl)

some_joined_more : (pieces : List (List ℕ)) → is_nothing (join_with_byte 47 pieces) ≡ false → join_with_byte 47 pieces ++ codes "/*" ≡ join_with_byte 47 (pieces ++ codes "*" ∷ [])
some_joined_more [] h = cc
some_joined_more (piece ∷ pieces) h = sym (joined_more piece pieces (codes "*"))

below_text : (front : List ℕ) (base : Base) (names : List (List ℕ)) (children : Bool) → children ≡ true → FrontRead front true (call_of base names children) → IsCallText (call_of base names children) (front ++ codes "/*")
unfolding call_text
below_text front base names false is f = cc
below_text front base names true is f =
    ⊎_elim
    (λ spelled.
    let said = below_said base names in
    record {
      sayable = record { based = f.based; few = f.few; named = f.named; said = said.1 };
      written = inl (ap (λ t. t ++ codes "/*") spelled ∙ some_joined_more (base_pieces base ++ names) (sym (ap is_nothing spelled) ∙ f.some) ∙ ap (join_with_byte 47) (append_assoc (base_pieces base) names (codes "*" ∷ [])) ∙ sym (cond-false _ _ _ said.0));
    })
    (λ main. subst (λ b. IsCallText (call_of b names true) (front ++ codes "/*")) (sym main.1.0) (subst (λ ns. IsCallText (call_of Root ns true) (front ++ codes "/*")) (sym main.1.1) (record {
      sayable = record { based = refl; few = omega arith; named = refl; said = refl };
      written = inr (refl, ap (λ t. t ++ codes "/*") main.0);
    })))
    f.spelled

text_of : (text : List ℕ) (call : Call) → read_call text ≡ Ok call → IsCallText call text
unfolding read_call call_text
text_of text call h =
    ⊎_elim
    (λ star.
    let e : call_of Below [] true ≡ call = let f = sym (cond-true _ _ _ star) ∙ h in cc in
    subst (λ c. IsCallText c text) e (record {
      sayable = record { based = refl; few = omega arith; named = refl; said = refl };
      written = inl ((bytes_eq-Decides text (codes "*")).0 star);
    }))
    (λ one. ⊎_elim
    (λ main.
    let e : call_of Root [] true ≡ call = let f = sym (cond-true _ _ _ main) ∙ (sym (cond-false _ _ _ one) ∙ h) in cc in
    subst (λ c. IsCallText c text) e (record {
      sayable = record { based = refl; few = omega arith; named = refl; said = refl };
      written = inl ((bytes_eq-Decides text (codes "/*")).0 main);
    }))
    (λ two. ⊎_elim
    (λ ends.
    let k = length text - 2 in
    let whole : take k text ++ codes "/*" ≡ text = ap (λ t. take k text ++ t) (sym ((bytes_eq-Decides (drop k text) (codes "/*")).0 ends)) ∙ take-append-drop k text in
    let f = front_read (take k text) true call (sym (cond-true _ _ _ ends) ∙ (sym (cond-false _ _ _ two) ∙ (sym (cond-false _ _ _ one) ∙ h))) in
    subst (IsCallText call) whole (below_text (take k text) call.base call.path call.children f.same f))
    (λ plain.
    let f = front_read text false call (sym (cond-false _ _ _ plain) ∙ (sym (cond-false _ _ _ two) ∙ (sym (cond-false _ _ _ one) ∙ h))) in
    whole_text text call.base call.path call.children f.same f)
    (cases_Bool (ends_below text)))
    (cases_Bool (bytes_eq text (codes "/*"))))
    (cases_Bool (bytes_eq text (codes "*")))

-- and such a text is read as the call
main_children : read_call (codes "//*") ≡ Ok (call_of Root [] true)
unfolding read_call read_front read_root
main_children = refl

read_of : (text : List ℕ) (call : Call) → IsCallText call text → read_call text ≡ Ok call
read_of text call t =
    ⊎_elim
    (λ spelled. ap read_call spelled ∙ read_back call t.sayable)
    (λ main. ap read_call main.1 ∙ main_children ∙ ap Ok (sym main.0))
    t.written

pub grammar_exact : (text : List ℕ) (r : Result Call PathFault) → r ≡ read_call text → (call : Call) → (r ≡ Ok call) ↔ IsCallText call text
grammar_exact text r is call = (λ h. text_of text call (sym is ∙ h), λ t. is ∙ read_of text call t)
