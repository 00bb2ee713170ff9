-- What is known while the text of a path is read.
use Rattle.std.proofs.Common.{◌≡◌, ℕ, ◌+◌, ◌-◌, ◌<◌, ◌≤◌, Bool, true, false, not, cond, nat_lt, Option, Some, None, Ok, Err, List, [], ◌∷◌, ◌++◌, length, take, drop, refl, sym, ap, ◌∙◌, ⊎_elim, append_assoc, arith}
use Rattle.std.specs.List.{list_all, slice_split, position}
use Rattle.std.specs.Option.{option_or, option_map}
use Rattle.std.proofs.lemmas.Bool.{and_parts, and_from, cases_lt, cond-true, lt-ltb}
use Rattle.std.proofs.lemmas.List.{append-nil, length-take, length-take-le, take-append-le, take_all, take-take}
use Rattle.pf_base.specs.declared.path_fault.PathFault.{PathFault}
use Rattle.pf_base.specs.declared.path_fault.PathFault.TheVariants.{BadByte, TooDeep}
use Rattle.pf_base.specs.Name.{is_plain_byte}
use Rattle.pf_base.specs.Path.{is_slash, is_dots, is_path_name, bad_byte, name_fault, names_fault, path_of_names, checked_name, names_behind, bytes_behind}
use Rattle.pf_base.specs.CutLaws.{IsFirst, none_of_position, split_at_first}

pub or_none : {A : Type 0} (a b : Option A) → option_or a b ≡ None → (a ≡ None) × (b ≡ None)
or_none None b h = (refl, h)
or_none (Some x) b h = cc

all_not_not : (p : ℕ → Bool) (xs : List ℕ) → list_all (λ x. not (not (p x))) xs ≡ true → list_all p xs ≡ true
all_not_not p [] h = refl
all_not_not p (x ∷ xs) h =
    let both = and_parts (not (not (p x))) (list_all (λ y. not (not (p y))) xs) h in
    and_from (p x) (list_all p xs) (not_not (p x) both.0) (all_not_not p xs both.1)
  where
    not_not : (b : Bool) → not (not b) ≡ true → b ≡ true
    not_not true h = refl
    not_not false h = h

no_bad : (dots : Bool) (place : Option ℕ) (fault : PathFault) (at : ℕ → PathFault) → cond dots (Some fault) (option_map at place) ≡ None → (dots ≡ false) × (place ≡ None)
no_bad true place fault at h = cc
no_bad false None fault at h = (refl, refl)
no_bad false (Some i) fault at h = cc

-- a name without a fault may stand in a path
pub named_without_fault : (any : Bool) (start : ℕ) (name : List ℕ) → name_fault any start name ≡ None → is_path_name name ≡ true
unfolding name_fault bad_byte is_path_name
named_without_fault any start name h =
    let rest = (or_none _ _ h).1 in
    let good = no_bad (is_dots name) (position (λ byte. not (is_plain_byte byte)) name) (BadByte start) (λ i. BadByte (start + i)) (or_none _ _ rest).0 in
    let bytes = all_not_not is_plain_byte name (none_of_position (λ byte. not (is_plain_byte byte)) name good.1) in
    and_from _ _ bytes (ap not good.0)

-- and has a byte
pub some_without_fault : (any : Bool) (start : ℕ) (name : List ℕ) → name_fault any start name ≡ None → 0 < length name
unfolding name_fault
some_without_fault any start [] h = cc
some_without_fault any start (byte ∷ bytes) h = omega arith

pub ok_of_checked : (fault : Option PathFault) (name kept : List ℕ) → Ok kept ≡ checked_name fault name → (fault ≡ None) × (kept ≡ name)
ok_of_checked None name kept h = (refl, cc)
ok_of_checked (Some e) name kept h = cc

pub err_of_checked : (fault : Option PathFault) (name : List ℕ) (e : PathFault) → Err e ≡ checked_name fault name → fault ≡ Some e
err_of_checked None name e h = cc
err_of_checked (Some e') name e h = cc

-- a text is cut at its first `/`
pub cuts_name : (text : List ℕ) (i y : ℕ) → IsFirst is_slash text i y → slice_split is_slash text ≡ take i text ∷ slice_split is_slash (drop (i + 1) text)
cuts_name text i y first = ap (slice_split is_slash) first.joined ∙ split_at_first is_slash (take i text) y (drop (i + 1) text) first.before first.passes

-- the names that were read and what is left of the text have the faults, the number and the first names of all
pub record ReadSoFar (any : Bool) (text : List ℕ) (path : List (List ℕ)) (count : ℕ) (next : Option (List ℕ)) : Type 0 where
  pub faults : names_fault any 0 (slice_split is_slash text) ≡ names_fault any (length text + 1 - bytes_behind next) (names_behind next)
  pub counted : length (slice_split is_slash text) ≡ count + length (names_behind next)
  pub kept : take 8 (slice_split is_slash text) ≡ take 8 (path ++ names_behind next)
  pub few : length path ≤ 8
  pub fits : count + bytes_behind next ≤ length text + 1

take_front : (n : ℕ) (xs ys : List (List ℕ)) → take n (xs ++ ys) ≡ take n (take n xs ++ ys)
take_front n xs ys =
    ⊎_elim
    (λ short. ap (λ zs. take n (zs ++ ys)) (sym (take_all n xs (omega arith))))
    (λ long. take-append-le n xs ys long ∙ sym (take-append-le n (take n xs) ys (omega (arith, length-take-le n xs long)) ∙ take-take n n xs (omega arith)))
    (cases_lt (length xs) n)

faults_more : (any : Bool) (s t : ℕ) (first : List ℕ) (behind : List (List ℕ)) → name_fault any s first ≡ None → s + length first + 1 ≡ t → names_fault any s (first ∷ behind) ≡ names_fault any t behind
faults_more any s t first behind none at = rw none (ap (λ n. names_fault any n behind) at)

-- a name without a fault is one more
pub read_more : (any : Bool) (text : List ℕ) (path : List (List ℕ)) (count : ℕ) (rest first : List ℕ) (others : Option (List ℕ)) → ReadSoFar any text path count (Some rest) → slice_split is_slash rest ≡ first ∷ names_behind others → length rest ≡ length first + bytes_behind others → name_fault any (length text - length rest) first ≡ None → ReadSoFar any text (take 8 (path ++ first ∷ [])) (count + 1) others
read_more any text path count rest first others so names bytes none =
    let some = some_without_fault any _ first none in
    let fits = so.fits in
    let counted = so.counted in
    record {
      faults =
          so.faults
          ∙ (let start : length text + 1 - (length rest + 1) ≡ length text - length rest = omega arith in
          rw (start, names) (faults_more any (length text - length rest) (length text + 1 - bytes_behind others) first (names_behind others) none (omega arith)));
      counted = let e = ap length names in omega arith;
      kept =
          so.kept
          ∙ ap (λ zs. take 8 (path ++ zs)) names
          ∙ ap (take 8) (sym (append_assoc path (first ∷ []) (names_behind others)))
          ∙ take_front 8 (path ++ first ∷ []) (names_behind others);
      few = omega (arith, length-take 8 (path ++ first ∷ []));
      fits = omega arith;
    }

-- at a fault the text has that fault
pub read_fault : (any : Bool) (text : List ℕ) (path : List (List ℕ)) (count : ℕ) (rest first : List ℕ) (others : Option (List ℕ)) (e : PathFault) → ReadSoFar any text path count (Some rest) → slice_split is_slash rest ≡ first ∷ names_behind others → name_fault any (length text - length rest) first ≡ Some e → Err e ≡ path_of_names (names_fault any 0 (slice_split is_slash text)) (slice_split is_slash text)
unfolding path_of_names
read_fault any text path count rest first others e so names fault =
    let start : length text + 1 - (length rest + 1) ≡ length text - length rest = omega arith in
    let all : names_fault any 0 (slice_split is_slash text) ≡ Some e = so.faults ∙ rw (start, names) (rw fault refl) in
    rw all refl

-- at the text's end all names are read
pub read_end : (any : Bool) (text : List ℕ) (path : List (List ℕ)) (count : ℕ) → ReadSoFar any text path count None → path_of_names (names_fault any 0 (slice_split is_slash text)) (slice_split is_slash text) ≡ cond (nat_lt 8 count) (Err (TooDeep count)) (Ok path)
unfolding path_of_names
read_end any text path count so =
    let none : names_fault any 0 (slice_split is_slash text) ≡ None = so.faults in
    let counted : length (slice_split is_slash text) ≡ count = omega (arith, so.counted) in
    rw (none, counted)
    (⊎_elim
    (λ deep. cond-true _ _ _ (lt-ltb 8 count deep) ∙ sym (cond-true _ _ _ (lt-ltb 8 count deep)))
    (λ room. ap (λ names. cond (nat_lt 8 count) (Err (TooDeep count)) (Ok names)) (all_kept room))
    (cases_lt 8 count))
  where
    all_kept : count ≤ 8 → slice_split is_slash text ≡ path
    all_kept room =
        sym (take_all 8 (slice_split is_slash text) (omega (arith, so.counted)))
        ∙ so.kept
        ∙ ap (take 8) (append-nil path)
        ∙ take_all 8 path so.few
