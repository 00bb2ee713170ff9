-- What a node has at its own path and at paths in its children, and what a change makes of it.
use Rattle.std.proofs.Common.{◌≡◌, ℕ, Bool, true, false, cond, not, if◌then◌else◌, ◌&&◌, ◌||◌, List, [], ◌∷◌, length, Option, Some, None, is_some, Result, Ok, Err, OnOk, refl, sym, ap, subst, ◌∙◌, arith}
use mathlib.Core.Bool.{true≢false}
use Rattle.std.specs.declared.cmp.Ordering.TheVariants.{Less, Equal, Greater}
use Rattle.std.specs.declared.cmp.Ordering.{Ordering}
use Rattle.std.specs.Ordering.{eq_by_cmp, is_eq, ordering_then}
use Rattle.std.specs.Cmp.{Equal-is, eq_by_cmp_equiv}
use Rattle.std.specs.List.Sorted.{IsStrictlySortedBy}
use Rattle.std.specs.Map.{lookup, keys_of}
use Rattle.std.specs.Option.{option_and_then, option_map_or}
use Rattle.std.specs.BTreeMap.{BTreeMap, WritesThrough, is_at}
use Rattle.std.specs.Str.{bytes_eq}
use Rattle.std.proofs.lemmas.Slice.Eq.{bytes_eq-Decides}
use Rattle.std.proofs.lemmas.Map.Text.{is_eq-slice_cmp}
use Rattle.std.specs.FinMap as fin
use Rattle.std.specs.FinMap.{FinMap}
use Rattle.pf_tree.specs.Order.{name_cmp, path_cmp}
use Rattle.pf_tree.specs.Grown.{grown}
use Rattle.pf_tree.specs.GrownLaws.{grown_below, grown_own, name_same, name_total, path_same, path_total, same_everywhere}
use Rattle.pf_tree.specs.Meaning.{Planted, is_prepared, planted, put_payload, shown}
use Rattle.pf_base.specs.Path.{is_reserved}
use Rattle.pf_tree.specs.Paths.{begins, is_nameless_below, name_behind}

-- the children of a node by their names, as a look-up has them
abbrev pub child_at : {B : Type 0} → List (List ℕ × B) → List ℕ → Option B
child_at children name = lookup (is_at (name_cmp name)) children

module _ {P B : Type 0} (is_blank : P → Bool) (meaning : B → Planted P) where
  pub payloads_own : (payload : P) (children : List (List ℕ × B)) → fin.get (planted is_blank meaning payload children).payloads [] ≡ shown is_blank payload
  payloads_own payload children = grown_own (λ child. (meaning child).payloads) (shown is_blank payload) children

  pub payloads_below : (payload : P) (children : List (List ℕ × B)) → IsStrictlySortedBy name_cmp (keys_of children) → (first : List ℕ) (rest : List (List ℕ)) → fin.get (planted is_blank meaning payload children).payloads (first ∷ rest) ≡ option_and_then (λ child. fin.get (meaning child).payloads rest) (child_at children first)
  payloads_below payload children h first rest = grown_below (λ child. (meaning child).payloads) (shown is_blank payload) children h first rest

  pub prepared_own : (payload : P) (children : List (List ℕ × B)) → fin.get (planted is_blank meaning payload children).prepared [] ≡ Some tt
  prepared_own payload children = grown_own (λ child. (meaning child).prepared) (Some tt) children

  pub prepared_below : (payload : P) (children : List (List ℕ × B)) → IsStrictlySortedBy name_cmp (keys_of children) → (first : List ℕ) (rest : List (List ℕ)) → fin.get (planted is_blank meaning payload children).prepared (first ∷ rest) ≡ option_and_then (λ child. fin.get (meaning child).prepared rest) (child_at children first)
  prepared_below payload children h first rest = grown_below (λ child. (meaning child).prepared) (Some tt) children h first rest

  -- a node is one with the look-ups of its children
  module _ (payload : P) (children : List (List ℕ × B)) (node : Planted P) (is : planted is_blank meaning payload children ≡ node) where
    pub own_blank : is_blank payload ≡ true → fin.get node.payloads [] ≡ None
    own_blank blank = subst (λ (n : Planted P). fin.get n.payloads [] ≡ None) is (payloads_own payload children ∙ rw blank refl)

    pub own_shown : is_blank payload ≡ false → fin.get node.payloads [] ≡ Some payload
    own_shown full = subst (λ (n : Planted P). fin.get n.payloads [] ≡ Some payload) is (payloads_own payload children ∙ rw full refl)

    module _ (sorted : IsStrictlySortedBy name_cmp (keys_of children)) (first : List ℕ) (rest : List (List ℕ)) where
      pub get_missing : child_at children first ≡ None → fin.get node.payloads (first ∷ rest) ≡ None
      get_missing none = subst (λ (n : Planted P). fin.get n.payloads (first ∷ rest) ≡ None) is (payloads_below payload children sorted first rest ∙ rw none refl)

      pub get_found : (child : B) → child_at children first ≡ Some child → fin.get node.payloads (first ∷ rest) ≡ fin.get (meaning child).payloads rest
      get_found child some = subst (λ (n : Planted P). fin.get n.payloads (first ∷ rest) ≡ fin.get (meaning child).payloads rest) is (payloads_below payload children sorted first rest ∙ rw some refl)

      pub prepared_missing : child_at children first ≡ None → is_prepared node (first ∷ rest) ≡ false
      prepared_missing none = subst (λ (n : Planted P). is_prepared n (first ∷ rest) ≡ false) is (ap is_some (prepared_below payload children sorted first rest ∙ ap (λ o. option_and_then (λ child. fin.get (meaning child).prepared rest) o) none))

      pub prepared_found : (child : B) → child_at children first ≡ Some child → fin.get node.prepared (first ∷ rest) ≡ fin.get (meaning child).prepared rest
      prepared_found child some = subst (λ (n : Planted P). fin.get n.prepared (first ∷ rest) ≡ fin.get (meaning child).prepared rest) is (prepared_below payload children sorted first rest ∙ rw some refl)

-- ---- one child that has changed

pub is_true_eq : (a b : List ℕ) → eq_by_cmp name_cmp a b ≡ true → a ≡ b
is_true_eq a b h = name_same a b ((Equal-is (name_cmp a b)).0 h)

-- names compare alike from either side
turned : (a b : List ℕ) → eq_by_cmp name_cmp a b ≡ eq_by_cmp name_cmp b a
turned a b = (eq_by_cmp_equiv name_total).symm a b

is_eq-then : (a b : Ordering) → is_eq (ordering_then a b) ≡ (is_eq a && is_eq b)
is_eq-then Less b = refl
is_eq-then Equal b = refl
is_eq-then Greater b = refl

-- what stands at a path after a payload is put at another
pub put_found : {P : Type 0} (payloads : FinMap path_cmp P) (path : List (List ℕ)) (x : Option P) (q : List (List ℕ)) → fin.get (put_payload payloads path x) q ≡ cond (eq_by_cmp path_cmp q path) x (fin.get payloads q)
put_found payloads path None q = fin.get-remove path_total payloads path q
put_found payloads path (Some x) q = fin.get-insert path_total payloads path x q

-- new has a child at a name, and else what the children have
abbrev pub PutsChild : {B : Type 0} → List (List ℕ × B) → List (List ℕ × B) → List ℕ → B → Type 0
PutsChild children new first child = (q : List ℕ) → child_at new q ≡ cond (is_at (name_cmp first) q) (Some child) (child_at children q)

module _ {X B : Type 0} (map_of : B → FinMap path_cmp X) (own : Option X) (children new : List (List ℕ × B)) (sorted : IsStrictlySortedBy name_cmp (keys_of children)) (new_sorted : IsStrictlySortedBy name_cmp (keys_of new)) (first : List ℕ) (after : B) (puts : PutsChild children new first after) where
  -- at and below the child stands what it has now, and elsewhere what stood there
  pub changed : (name : List ℕ) (q : List (List ℕ)) → fin.get (grown map_of own new) (name ∷ q) ≡ cond (eq_by_cmp name_cmp first name) (fin.get (map_of after) q) (fin.get (grown map_of own children) (name ∷ q))
  changed name q =
      grown_below map_of own new new_sorted name q
      ∙ ap (option_and_then (λ c. fin.get (map_of c) q)) (puts name)
      ∙ elim (eq_by_cmp name_cmp first name) as (λ b. option_and_then (λ c. fin.get (map_of c) q) (cond b (Some after) (child_at children name)) ≡ cond b (fin.get (map_of after) q) (option_and_then (λ c. fin.get (map_of c) q) (child_at children name))) [ true ↦ refl | false ↦ refl ]
      ∙ ap (cond (eq_by_cmp name_cmp first name) (fin.get (map_of after) q)) (sym (grown_below map_of own children sorted name q))

  pub changed_own : fin.get (grown map_of own new) [] ≡ fin.get (grown map_of own children) []
  changed_own = grown_own map_of own new ∙ sym (grown_own map_of own children)

  -- a child that has at each path what stood there changes nothing
  pub unchanged_child : ((q : List (List ℕ)) → fin.get (map_of after) q ≡ option_and_then (λ c. fin.get (map_of c) q) (child_at children first)) → grown map_of own new ≡ grown map_of own children
  unchanged_child same = same_everywhere (grown map_of own new) (grown map_of own children) changed_own (λ name q. changed name q ∙ each name q (eq_by_cmp name_cmp first name) refl) where
    each : (name : List ℕ) (q : List (List ℕ)) (b : Bool) → eq_by_cmp name_cmp first name ≡ b → cond b (fin.get (map_of after) q) (fin.get (grown map_of own children) (name ∷ q)) ≡ fin.get (grown map_of own children) (name ∷ q)
    each name q false e = refl
    each name q true e = same q ∙ ap (λ n. option_and_then (λ c. fin.get (map_of c) q) (child_at children n)) (is_true_eq first name e) ∙ sym (grown_below map_of own children sorted name q)

  -- a payload put in a child is put at the path that its name begins
  pub put_child : (before : B) → child_at children first ≡ Some before → (rest : List (List ℕ)) (x : Option X) → map_of after ≡ put_payload (map_of before) rest x → grown map_of own new ≡ put_payload (grown map_of own children) (first ∷ rest) x
  put_child before found rest x is = same_everywhere (grown map_of own new) (put_payload (grown map_of own children) (first ∷ rest) x) here below where
    here : fin.get (grown map_of own new) [] ≡ fin.get (put_payload (grown map_of own children) (first ∷ rest) x) []
    here = changed_own ∙ sym (put_found (grown map_of own children) (first ∷ rest) x [])

    each : (name : List ℕ) (q : List (List ℕ)) (b : Bool) → eq_by_cmp name_cmp first name ≡ b → cond b (fin.get (map_of after) q) (fin.get (grown map_of own children) (name ∷ q)) ≡ cond (b && eq_by_cmp path_cmp q rest) x (fin.get (grown map_of own children) (name ∷ q))
    each name q false e = refl
    each name q true e =
        ap (λ m. fin.get m q) is ∙ put_found (map_of before) rest x q
        ∙ ap (cond (eq_by_cmp path_cmp q rest) x) (sym (grown_below map_of own children sorted name q ∙ ap (λ n. option_and_then (λ c. fin.get (map_of c) q) (child_at children n)) (sym (is_true_eq first name e)) ∙ ap (option_and_then (λ c. fin.get (map_of c) q)) found))

    below : (name : List ℕ) (q : List (List ℕ)) → fin.get (grown map_of own new) (name ∷ q) ≡ fin.get (put_payload (grown map_of own children) (first ∷ rest) x) (name ∷ q)
    below name q =
        changed name q ∙ each name q (eq_by_cmp name_cmp first name) refl
        ∙ ap (λ b. cond (b && eq_by_cmp path_cmp q rest) x (fin.get (grown map_of own children) (name ∷ q))) (turned first name)
        ∙ ap (λ b. cond b x (fin.get (grown map_of own children) (name ∷ q))) (sym (is_eq-then (name_cmp name first) (path_cmp q rest)))
        ∙ sym (put_found (grown map_of own children) (first ∷ rest) x (name ∷ q))

-- a payload put at the node itself
pub put_own : {X B : Type 0} (map_of : B → FinMap path_cmp X) (old new : Option X) (children : List (List ℕ × B)) → IsStrictlySortedBy name_cmp (keys_of children) → grown map_of new children ≡ put_payload (grown map_of old children) [] new
put_own map_of old new children sorted =
    same_everywhere (grown map_of new children) (put_payload (grown map_of old children) [] new)
    (grown_own map_of new children ∙ sym (put_found (grown map_of old children) [] new []))
    (λ name q. grown_below map_of new children sorted name q ∙ sym (grown_below map_of old children sorted name q) ∙ sym (put_found (grown map_of old children) [] new (name ∷ q)))

none_sorted : IsStrictlySortedBy name_cmp []
unfolding IsStrictlySortedBy
none_sorted = tt

-- a node without children is prepared itself, and no other path is
pub fresh_prepared : {P B : Type 0} (is_blank : P → Bool) (meaning : B → Planted P) (payload : P) (children : List (List ℕ × B)) → children ≡ [] → (at : List (List ℕ)) → is_prepared (planted is_blank meaning payload children) at ≡ begins [] at
fresh_prepared is_blank meaning payload children none at = rw none (each at) where
  each : (q : List (List ℕ)) → is_prepared (planted is_blank meaning payload []) q ≡ begins [] q
  each [] = ap is_some (prepared_own is_blank meaning payload [])
  each (first ∷ rest) = ap is_some (prepared_below is_blank meaning payload [] none_sorted first rest)

-- ---- a node that grows

-- what is found in the child of a name, where there is one
abbrev pub found_in : {X B : Type 0} → (B → FinMap path_cmp X) → Option B → List (List ℕ) → Option X
found_in map_of child q = option_and_then (λ c. fin.get (map_of c) q) child

pub same_bytes : (xs : List ℕ) → bytes_eq xs xs ≡ true
same_bytes xs = (bytes_eq-Decides xs xs).1 refl

module _ {P B : Type 0} (is_blank : P → Bool) (meaning : B → Planted P) (payload : P) (children new : List (List ℕ × B)) (sorted : IsStrictlySortedBy name_cmp (keys_of children)) (new_sorted : IsStrictlySortedBy name_cmp (keys_of new)) (first : List ℕ) (rest : List (List ℕ)) (after : B) (puts : PutsChild children new first after) where
  prepared_now : (name : List ℕ) (q : List (List ℕ)) → is_prepared (planted is_blank meaning payload new) (name ∷ q) ≡ cond (eq_by_cmp name_cmp first name) (is_prepared (meaning after) q) (is_prepared (planted is_blank meaning payload children) (name ∷ q))
  prepared_now name q =
      ap is_some (changed (λ child. (meaning child).prepared) (Some tt) children new sorted new_sorted first after puts name q)
      ∙ elim (eq_by_cmp name_cmp first name) as (λ b. is_some (cond b (fin.get (meaning after).prepared q) (fin.get (planted is_blank meaning payload children).prepared (name ∷ q))) ≡ cond b (is_prepared (meaning after) q) (is_prepared (planted is_blank meaning payload children) (name ∷ q))) [ true ↦ refl | false ↦ refl ]

  -- what was prepared in the child of this name
  was_prepared : (name : List ℕ) (q : List (List ℕ)) → eq_by_cmp name_cmp first name ≡ true → is_prepared (planted is_blank meaning payload children) (name ∷ q) ≡ is_some (found_in (λ child. (meaning child).prepared) (child_at children first) q)
  was_prepared name q e = ap is_some (prepared_below is_blank meaning payload children sorted name q) ∙ ap (λ n. is_some (found_in (λ child. (meaning child).prepared) (child_at children n) q)) (sym (is_true_eq first name e))

  pub grows_payloads : ((q : List (List ℕ)) → fin.get (meaning after).payloads q ≡ found_in (λ child. (meaning child).payloads) (child_at children first) q) → (planted is_blank meaning payload new).payloads ≡ (planted is_blank meaning payload children).payloads
  grows_payloads same = unchanged_child (λ child. (meaning child).payloads) (shown is_blank payload) children new sorted new_sorted first after puts same

  pub grows_kept : ((q : List (List ℕ)) → is_some (found_in (λ child. (meaning child).prepared) (child_at children first) q) ≡ true → is_prepared (meaning after) q ≡ true) → (at : List (List ℕ)) → is_prepared (planted is_blank meaning payload children) at ≡ true → is_prepared (planted is_blank meaning payload new) at ≡ true
  grows_kept kept [] h = ap is_some (prepared_own is_blank meaning payload new)
  grows_kept kept (name ∷ q) h = prepared_now name q ∙ each (eq_by_cmp name_cmp first name) refl where
    each : (b : Bool) → eq_by_cmp name_cmp first name ≡ b → cond b (is_prepared (meaning after) q) (is_prepared (planted is_blank meaning payload children) (name ∷ q)) ≡ true
    each true e = kept q (sym (was_prepared name q e) ∙ h)
    each false e = h

  pub grows_within : ((q : List (List ℕ)) → is_prepared (meaning after) q ≡ true → (is_some (found_in (λ child. (meaning child).prepared) (child_at children first) q) || begins rest q) ≡ true) → (at : List (List ℕ)) → is_prepared (planted is_blank meaning payload new) at ≡ true → (is_prepared (planted is_blank meaning payload children) at || begins (first ∷ rest) at) ≡ true
  grows_within within [] h = rw (ap is_some (prepared_own is_blank meaning payload children)) refl
  grows_within within (name ∷ q) h = each (eq_by_cmp name_cmp first name) refl (sym (prepared_now name q) ∙ h) where
    each : (b : Bool) → eq_by_cmp name_cmp first name ≡ b → cond b (is_prepared (meaning after) q) (is_prepared (planted is_blank meaning payload children) (name ∷ q)) ≡ true → (is_prepared (planted is_blank meaning payload children) (name ∷ q) || (bytes_eq first name && begins rest q)) ≡ true
    each true e now = rw (was_prepared name q e, sym (is_eq-slice_cmp first name) ∙ e) (within q now)
    each false e now = rw now refl

  pub grows_ok : is_prepared (meaning after) rest ≡ true → is_prepared (planted is_blank meaning payload new) (first ∷ rest) ≡ true
  grows_ok ok = prepared_now first rest ∙ rw (is_eq-slice_cmp first first ∙ same_bytes first) ok

  -- a node that had nothing, with one child that has nothing
  pub branch_payloads : (planted is_blank meaning payload children).payloads ≡ fin.empty → (meaning after).payloads ≡ fin.empty → (planted is_blank meaning payload new).payloads ≡ fin.empty
  branch_payloads none child =
      same_everywhere (planted is_blank meaning payload new).payloads fin.empty
      (changed_own (λ c. (meaning c).payloads) (shown is_blank payload) children new sorted new_sorted first after puts ∙ ap (λ m. fin.get m []) none)
      (λ name q. changed (λ c. (meaning c).payloads) (shown is_blank payload) children new sorted new_sorted first after puts name q ∙ each name q (eq_by_cmp name_cmp first name)) where
        each : (name : List ℕ) (q : List (List ℕ)) (b : Bool) → cond b (fin.get (meaning after).payloads q) (fin.get (planted is_blank meaning payload children).payloads (name ∷ q)) ≡ fin.get (fin.empty {R = path_cmp}) (name ∷ q)
        each name q true = ap (λ m. fin.get m q) child ∙ fin.get-empty path_cmp q ∙ sym (fin.get-empty path_cmp (name ∷ q))
        each name q false = ap (λ m. fin.get m (name ∷ q)) none

  pub branch_prepared : ((at : List (List ℕ)) → is_prepared (planted is_blank meaning payload children) at ≡ begins [] at) → ((at : List (List ℕ)) → is_prepared (meaning after) at ≡ begins rest at) → (at : List (List ℕ)) → is_prepared (planted is_blank meaning payload new) at ≡ begins (first ∷ rest) at
  branch_prepared none child [] = ap is_some (prepared_own is_blank meaning payload new)
  branch_prepared none child (name ∷ q) = prepared_now name q ∙ ap (cond (eq_by_cmp name_cmp first name) (is_prepared (meaning after) q)) (none (name ∷ q)) ∙ each (eq_by_cmp name_cmp first name) refl where
    each : (b : Bool) → eq_by_cmp name_cmp first name ≡ b → cond b (is_prepared (meaning after) q) false ≡ (bytes_eq first name && begins rest q)
    each true e = rw (sym (is_eq-slice_cmp first name) ∙ e) (child q)
    each false e = rw (sym (is_eq-slice_cmp first name) ∙ e) refl

-- ---- the same of a node whose meaning and names are given

-- what a write through the look-up of a name leaves
pub puts_from_write : {B : Type 0} (children new : BTreeMap (List ℕ) B) (first : List ℕ) (before after : B) → Some before ≡ child_at children.entries first → WritesThrough name_cmp (name_cmp first) children after new → PutsChild children.entries new.entries first after
puts_from_write children new first before after found written = (written.3 (subst (λ o. is_some o ≡ true) found refl)).0

module _ {P B : Type 0} (is_blank : P → Bool) (meaning : B → Planted P) (payload : P) (children new : List (List ℕ × B)) (node : Planted P) (is : planted is_blank meaning payload children ≡ node) (sorted : IsStrictlySortedBy name_cmp (keys_of children)) (new_sorted : IsStrictlySortedBy name_cmp (keys_of new)) (names : List (List ℕ)) (first : List ℕ) (rest : List (List ℕ)) (named : names ≡ first ∷ rest) (after : B) (puts : PutsChild children new first after) where
  pub step_payloads : ((q : List (List ℕ)) → fin.get (meaning after).payloads q ≡ found_in (λ child. (meaning child).payloads) (child_at children first) q) → (planted is_blank meaning payload new).payloads ≡ node.payloads
  step_payloads same = grows_payloads is_blank meaning payload children new sorted new_sorted first rest after puts same ∙ ap (λ n. n.payloads) is

  pub step_kept : ((q : List (List ℕ)) → is_some (found_in (λ child. (meaning child).prepared) (child_at children first) q) ≡ true → is_prepared (meaning after) q ≡ true) → (at : List (List ℕ)) → is_prepared node at ≡ true → is_prepared (planted is_blank meaning payload new) at ≡ true
  step_kept kept = subst (λ (n : Planted P). (at : List (List ℕ)) → is_prepared n at ≡ true → is_prepared (planted is_blank meaning payload new) at ≡ true) is (grows_kept is_blank meaning payload children new sorted new_sorted first rest after puts kept)

  pub step_within : ((q : List (List ℕ)) → is_prepared (meaning after) q ≡ true → (is_some (found_in (λ child. (meaning child).prepared) (child_at children first) q) || begins rest q) ≡ true) → (at : List (List ℕ)) → is_prepared (planted is_blank meaning payload new) at ≡ true → (is_prepared node at || begins names at) ≡ true
  step_within within =
      subst (λ (n : Planted P). (at : List (List ℕ)) → is_prepared (planted is_blank meaning payload new) at ≡ true → (is_prepared n at || begins names at) ≡ true) is
      (subst (λ ns. (at : List (List ℕ)) → is_prepared (planted is_blank meaning payload new) at ≡ true → (is_prepared (planted is_blank meaning payload children) at || begins ns at) ≡ true) (sym named)
      (grows_within is_blank meaning payload children new sorted new_sorted first rest after puts within))

  pub step_ok : is_prepared (meaning after) rest ≡ true → is_prepared (planted is_blank meaning payload new) names ≡ true
  step_ok ok = subst (λ ns. is_prepared (planted is_blank meaning payload new) ns ≡ true) (sym named) (grows_ok is_blank meaning payload children new sorted new_sorted first rest after puts ok)

  -- what is put in a child is put at the names that lead there
  pub step_put : (before : B) → Some before ≡ child_at children first → (x : Option P) → (meaning after).payloads ≡ put_payload (meaning before).payloads rest x → (planted is_blank meaning payload new).payloads ≡ put_payload node.payloads names x
  step_put before found x put =
      subst (λ (n : Planted P). (planted is_blank meaning payload new).payloads ≡ put_payload n.payloads names x) is
      (subst (λ ns. (planted is_blank meaning payload new).payloads ≡ put_payload (planted is_blank meaning payload children).payloads ns x) (sym named)
      (put_child (λ c. (meaning c).payloads) (shown is_blank payload) children new sorted new_sorted first after puts before (sym found) rest x put))

  -- a child that is prepared as before leaves what is prepared
  pub step_prepared : (before : B) → Some before ≡ child_at children first → (meaning after).prepared ≡ (meaning before).prepared → (planted is_blank meaning payload new).prepared ≡ node.prepared
  step_prepared before found same =
      unchanged_child (λ c. (meaning c).prepared) (Some tt) children new sorted new_sorted first after puts (λ q. ap (λ m. fin.get m q) same ∙ ap (λ c. found_in (λ c. (meaning c).prepared) c q) found)
      ∙ ap (λ n. n.prepared) is

-- the payload at names that lead to a child
pub get_through : {P B : Type 0} (is_blank : P → Bool) (meaning : B → Planted P) (payload : P) (children : List (List ℕ × B)) (node : Planted P) → planted is_blank meaning payload children ≡ node → IsStrictlySortedBy name_cmp (keys_of children) → (names : List (List ℕ)) (first : List ℕ) (rest : List (List ℕ)) → names ≡ first ∷ rest → (child : Option B) → child ≡ child_at children first → found_in (λ c. (meaning c).payloads) child rest ≡ fin.get node.payloads names
get_through {P} is_blank meaning payload children node is sorted names first rest named child found =
    ap (λ c. found_in (λ c. (meaning c).payloads) c rest) found
    ∙ sym (payloads_below is_blank meaning payload children sorted first rest)
    ∙ ap (λ (n : Planted P). fin.get n.payloads (first ∷ rest)) is
    ∙ ap (fin.get node.payloads) (sym named)

pub prepared_through : {P B : Type 0} (is_blank : P → Bool) (meaning : B → Planted P) (payload : P) (children : List (List ℕ × B)) (node : Planted P) → planted is_blank meaning payload children ≡ node → IsStrictlySortedBy name_cmp (keys_of children) → (names : List (List ℕ)) (first : List ℕ) (rest : List (List ℕ)) → names ≡ first ∷ rest → (child : Option B) → child ≡ child_at children first → is_some (found_in (λ c. (meaning c).prepared) child rest) ≡ is_prepared node names
prepared_through {P} is_blank meaning payload children node is sorted names first rest named child found =
    ap (λ c. is_some (found_in (λ c. (meaning c).prepared) c rest)) found
    ∙ ap is_some (sym (prepared_below is_blank meaning payload children sorted first rest))
    ∙ ap (λ (n : Planted P). is_prepared n (first ∷ rest)) is
    ∙ ap (λ ns. is_prepared node ns) (sym named)

-- the node itself is prepared
pub here_prepared : {P B : Type 0} (is_blank : P → Bool) (meaning : B → Planted P) (payload : P) (children : List (List ℕ × B)) (names : List (List ℕ)) → length names ≡ 0 → is_prepared (planted is_blank meaning payload children) names ≡ true
here_prepared is_blank meaning payload children [] none = ap is_some (prepared_own is_blank meaning payload children)
here_prepared is_blank meaning payload children (name ∷ names) none = absurd (omega arith)

pub no_names : (names : List (List ℕ)) → length names ≡ 0 → names ≡ []
no_names [] none = refl
no_names (name ∷ names) none = absurd (omega arith)

-- ---- small steps

pub no_child : {X B A : Type 0} (map_of : B → FinMap path_cmp X) (child : Option B) (q : List (List ℕ)) → None ≡ child → is_some (found_in map_of child q) ≡ true → A
no_child map_of None q none found = absurd (true≢false (sym found))
no_child map_of (Some c) q none found = cc

pub or_right : (a b : Bool) → b ≡ true → (a || b) ≡ true
or_right true b h = refl
or_right false b h = h

pub begins_itself : (names : List (List ℕ)) → begins names names ≡ true
begins_itself [] = refl
begins_itself (name ∷ names) = rw (same_bytes name) (begins_itself names)

pub on_ok : {T E P Q : Type 0} (r : Result T E) → (P → Q) → OnOk r P → OnOk r Q
on_ok (Ok x) f h = f h
on_ok (Err e) f h = h

-- ---- what goes below a path

-- the paths that stay
abbrev pub stays : List (List ℕ) → List (List ℕ) → Bool
stays path at = not (is_nameless_below path at)

alike : (path q x : List (List ℕ)) → path_cmp q x ≡ Equal → stays path x ≡ stays path q
alike path q x tie = ap (stays path) (sym (path_same q x tie))

pub retain_found : {X : Type 0} (m : FinMap path_cmp X) (path q : List (List ℕ)) → fin.get (fin.retain_keys m (stays path)) q ≡ cond (stays path q) (fin.get m q) None
retain_found m path q = fin.get-retain_keys m (stays path) q (alike path q)

module _ {X B : Type 0} (map_of : B → FinMap path_cmp X) (own : Option X) (children : List (List ℕ × B)) (sorted : IsStrictlySortedBy name_cmp (keys_of children)) (first : List ℕ) (rest : List (List ℕ)) where
  found_here : (name : List ℕ) (q : List (List ℕ)) → eq_by_cmp name_cmp first name ≡ true → fin.get (grown map_of own children) (name ∷ q) ≡ found_in map_of (child_at children first) q
  found_here name q e = grown_below map_of own children sorted name q ∙ ap (λ n. found_in map_of (child_at children n) q) (sym (is_true_eq first name e))

  pub retain_child : (new : List (List ℕ × B)) → IsStrictlySortedBy name_cmp (keys_of new) → (after : B) → PutsChild children new first after → (before : B) → child_at children first ≡ Some before → map_of after ≡ fin.retain_keys (map_of before) (stays rest) → grown map_of own new ≡ fin.retain_keys (grown map_of own children) (stays (first ∷ rest))
  retain_child new new_sorted after puts before found is =
      same_everywhere (grown map_of own new) (fin.retain_keys (grown map_of own children) (stays (first ∷ rest)))
      (changed_own map_of own children new sorted new_sorted first after puts ∙ sym (retain_found (grown map_of own children) (first ∷ rest) []))
      (λ name q.
      changed map_of own children new sorted new_sorted first after puts name q
      ∙ each name q (eq_by_cmp name_cmp first name) refl
      ∙ ap (λ b. cond (not (option_map_or is_reserved (if b then name_behind rest q else None) false)) (fin.get (grown map_of own children) (name ∷ q)) None) (is_eq-slice_cmp first name)
      ∙ sym (retain_found (grown map_of own children) (first ∷ rest) (name ∷ q))) where
        each : (name : List ℕ) (q : List (List ℕ)) (b : Bool) → eq_by_cmp name_cmp first name ≡ b → cond b (fin.get (map_of after) q) (fin.get (grown map_of own children) (name ∷ q)) ≡ cond (not (option_map_or is_reserved (if b then name_behind rest q else None) false)) (fin.get (grown map_of own children) (name ∷ q)) None
        each name q false e = refl
        each name q true e =
            ap (λ m. fin.get m q) is ∙ retain_found (map_of before) rest q
            ∙ ap (λ x. cond (stays rest q) x None) (sym (found_here name q e ∙ ap (λ c. found_in map_of c q) found))

  pub retain_missing : child_at children first ≡ None → grown map_of own children ≡ fin.retain_keys (grown map_of own children) (stays (first ∷ rest))
  retain_missing none =
      same_everywhere (grown map_of own children) (fin.retain_keys (grown map_of own children) (stays (first ∷ rest)))
      (sym (retain_found (grown map_of own children) (first ∷ rest) []))
      (λ name q.
      each name q (eq_by_cmp name_cmp first name) refl
      ∙ ap (λ b. cond (not (option_map_or is_reserved (if b then name_behind rest q else None) false)) (fin.get (grown map_of own children) (name ∷ q)) None) (is_eq-slice_cmp first name)
      ∙ sym (retain_found (grown map_of own children) (first ∷ rest) (name ∷ q))) where
        both_none : (b : Bool) (x : Option X) → x ≡ None → x ≡ cond b x None
        both_none true x e = refl
        both_none false x e = e

        each : (name : List ℕ) (q : List (List ℕ)) (b : Bool) → eq_by_cmp name_cmp first name ≡ b → fin.get (grown map_of own children) (name ∷ q) ≡ cond (not (option_map_or is_reserved (if b then name_behind rest q else None) false)) (fin.get (grown map_of own children) (name ∷ q)) None
        each name q false e = refl
        each name q true e = both_none (stays rest q) (fin.get (grown map_of own children) (name ∷ q)) (found_here name q e ∙ ap (λ c. found_in map_of c q) none)
