-- What adding and removing answer, and what they leave.
use Rattle.std.proofs.Common.{[], ◌∷◌, ◌++◌, take, append-nil, ◌≡◌, ℕ, ◌+◌, ◌-◌, ◌<◌, ◌≤◌, Bool, true, false, IsTrue, List, length, Option, Some, None, refl, sym, ap, ◌∙◌, arith, inl, inr}
use Rattle.std.specs.Prelude.{cond, is_some}
use mathlib.Core.Bool.{beq}
use Rattle.std.specs.Prelude.{map}
use Rattle.std.specs.List.{cons_option}
use Rattle.std.specs.FinMap.{from_entries_push}
use Rattle.std.proofs.lemmas.List.{length-take-le, get_or-take, map-append, take_more}
use Rattle.std.proofs.lemmas.List.Elements.{filter_map-append}
use Rattle.pf_table.specs.Node.{entry_of, signed, bare}
use Rattle.pf_table.specs.Table.{paired}
use Rattle.std.specs.FinMap as finite
use Rattle.std.specs.FinMap.{len-insert, len-remove, empty_of_len, get-empty, len-empty}
use Rattle.std.proofs.lemmas.Bool.{cases_lt}
use Rattle.pf_addr.specs.declared.prefix.Prefix.{Prefix}
use Rattle.pf_addr.specs.PrefixOrder.{prefix_cmp, prefix_cmp-total}
use Rattle.pf_table.specs.declared.node.Node.{Node}
use Rattle.pf_table.specs.declared.entry.Entry.{Entry}
use Rattle.pf_table.specs.Trie.{IsTrie, IsHeldAt, IsAbsent, node_at, prefix_at, listed, resigned, all_inet}
use Rattle.pf_table.specs.Table.{Signs, table_of, with_entry, without_entry, is_sign}
use Rattle.pf_table.specs.Kept.{signs_in, IsKept}
use Rattle.pf_table.proofs.Signs.{sign_in, sign_nowhere, antisymmetric, key_sign, absent_sign, signed-insert, signed-remove, resigned-IsTrie}
use Rattle.pf_table.proofs.Bools.{beq-same}

no_some : (o : Option Bool) → is_some o ≡ true → (IsTrue false → o ≡ None) × (o ≡ None → IsTrue false)
no_some None h = (λ k. cc, λ e. h)
no_some (Some n) h = (λ k. cc, λ e. cc)

some_no : (o : Option Bool) → is_some o ≡ false → (IsTrue true → o ≡ None) × (o ≡ None → IsTrue true)
some_no None h = (λ k. refl, λ e. refl)
some_no (Some n) h = (λ k. cc, λ e. refl)

module _ (m : Signs) (nodes : List Node) (at : ℕ) (e : Entry) (view : signs_in nodes ≡ m) (trie : IsTrie nodes) (held : IsHeldAt nodes e.prefix at) where
  pub held_get : finite.get m e.prefix ≡ (node_at nodes at).negated
  held_get = ap (λ (t : Signs). finite.get t e.prefix) (sym view) ∙ key_sign nodes e.prefix at trie held

  pub present_answer : is_some (node_at nodes at).negated ≡ true → (IsTrue false → finite.get m e.prefix ≡ None) × (finite.get m e.prefix ≡ None → IsTrue false)
  present_answer h = no_some (finite.get m e.prefix) (ap is_some held_get ∙ h)

  pub present_left : is_some (node_at nodes at).negated ≡ true → signs_in nodes ≡ with_entry m e
  present_left h = view ∙ sym (ap (λ (b : Bool). cond b m (finite.insert m e.prefix e.negated)) (ap is_some held_get ∙ h))

  pub fresh_answer : is_some (node_at nodes at).negated ≡ false → (IsTrue true → finite.get m e.prefix ≡ None) × (finite.get m e.prefix ≡ None → IsTrue true)
  fresh_answer h = some_no (finite.get m e.prefix) (ap is_some held_get ∙ h)

  inserted : signs_in (resigned nodes at (Some e.negated)) ≡ finite.insert m e.prefix e.negated
  inserted = signed-insert nodes e.prefix at trie held e.negated ∙ ap (λ (t : Signs). finite.insert t e.prefix e.negated) view

  pub fresh_left : is_some (node_at nodes at).negated ≡ false → signs_in (resigned nodes at (Some e.negated)) ≡ with_entry m e
  fresh_left h = inserted ∙ sym (ap (λ (b : Bool). cond b m (finite.insert m e.prefix e.negated)) (ap is_some held_get ∙ h))

  pub fresh_kept : is_some (node_at nodes at).negated ≡ false → (len : ℕ) → len ≡ finite.len m → IsKept (resigned nodes at (Some e.negated)) (len + 1)
  fresh_kept h len counted = record {
    trie = resigned-IsTrie nodes e.prefix at trie held (Some e.negated);
    counted = ap (λ (t : ℕ). t + 1) counted ∙ sym (ap (λ (t : Signs). finite.len t) inserted ∙ len-insert prefix_cmp-total m e.prefix e.negated ∙ ap (λ (b : Bool). cond b (finite.len m) (finite.len m + 1)) (ap is_some held_get ∙ h));
  }

  sign_is : (o : Option Bool) (n : Bool) → is_sign o n ≡ true → o ≡ Some n
  sign_is None n h = cc
  sign_is (Some s) n h = ap Some (beq-same s n h)

  pub removed_answer : is_sign (node_at nodes at).negated e.negated ≡ true → (IsTrue true → finite.get m e.prefix ≡ Some e.negated) × (finite.get m e.prefix ≡ Some e.negated → IsTrue true)
  removed_answer h = (λ _. held_get ∙ sign_is (node_at nodes at).negated e.negated h, λ _. refl)

  taken : signs_in (resigned nodes at None) ≡ finite.remove m e.prefix
  taken = signed-remove nodes e.prefix at trie held ∙ ap (λ (t : Signs). finite.remove t e.prefix) view

  pub removed_left : is_sign (node_at nodes at).negated e.negated ≡ true → signs_in (resigned nodes at None) ≡ without_entry m e
  removed_left h = taken ∙ sym (ap (λ (b : Bool). cond b (finite.remove m e.prefix) m) (ap (λ (t : Option Bool). is_sign t e.negated) held_get ∙ h))

  there : is_sign (node_at nodes at).negated e.negated ≡ true → is_some (finite.get m e.prefix) ≡ true
  there h = ap is_some (held_get ∙ sign_is (node_at nodes at).negated e.negated h)

  shorter_len : is_sign (node_at nodes at).negated e.negated ≡ true → finite.len (finite.remove m e.prefix) ≡ finite.len m - 1
  shorter_len h = len-remove prefix_cmp-total m e.prefix ∙ ap (λ (b : Bool). cond b (finite.len m - 1) (finite.len m)) (there h)

  pub removed_kept : is_sign (node_at nodes at).negated e.negated ≡ true → (len : ℕ) → len ≡ finite.len m → IsKept (resigned nodes at None) (len - 1)
  removed_kept h len counted = record {
    trie = resigned-IsTrie nodes e.prefix at trie held None;
    counted = ap (λ (t : ℕ). t - 1) counted ∙ sym (ap (λ (t : Signs). finite.len t) taken ∙ shorter_len h);
  }

  -- putting it back counts one more, so there was one
  pub removed_some : is_sign (node_at nodes at).negated e.negated ≡ true → 1 ≤ finite.len m
  removed_some h = elim (cases_lt 0 (finite.len m)) [
    | inl some ↦ some
    | inr none ↦
        let bare : m ≡ finite.empty = empty_of_len m (omega arith) in
        let gone : finite.get m e.prefix ≡ None = ap (λ (t : Signs). finite.get t e.prefix) bare ∙ get-empty prefix_cmp e.prefix in
        let both : ◌≡◌ {A = Option Bool} (Some e.negated) None = sym (held_get ∙ sign_is (node_at nodes at).negated e.negated h) ∙ gone in
        absurd (cc)
  ]

  pub other_answer : is_sign (node_at nodes at).negated e.negated ≡ false → (IsTrue false → finite.get m e.prefix ≡ Some e.negated) × (finite.get m e.prefix ≡ Some e.negated → IsTrue false)
  other_answer h = (λ k. cc, λ g. unsigned (node_at nodes at).negated e.negated (sym held_get ∙ g) h)
    where
      same_beq : (b : Bool) → beq b b ≡ true
      same_beq true = refl
      same_beq false = refl

      unsigned : (o : Option Bool) (n : Bool) → o ≡ Some n → is_sign o n ≡ false → IsTrue false
      unsigned o n e f = sym f ∙ ap (λ (t : Option Bool). is_sign t n) e ∙ same_beq n

  pub other_left : is_sign (node_at nodes at).negated e.negated ≡ false → m ≡ without_entry m e
  other_left h = sym (ap (λ (b : Bool). cond b (finite.remove m e.prefix) m) (ap (λ (t : Option Bool). is_sign t e.negated) held_get ∙ h))

module _ (m : Signs) (nodes : List Node) (e : Entry) (view : signs_in nodes ≡ m) (absent : IsAbsent nodes e.prefix) where
  absent_get : finite.get m e.prefix ≡ None
  absent_get = ap (λ (t : Signs). finite.get t e.prefix) (sym view) ∙ absent_sign nodes e.prefix absent

  pub absent_answer : (IsTrue false → finite.get m e.prefix ≡ Some e.negated) × (finite.get m e.prefix ≡ Some e.negated → IsTrue false)
  absent_answer = (λ k. cc, λ g. let both : ◌≡◌ {A = Option Bool} None (Some e.negated) = sym absent_get ∙ g in cc)

  pub absent_left : m ≡ without_entry m e
  absent_left = sym (ap (λ (t : Option Bool). cond (is_sign t e.negated) (finite.remove m e.prefix) m) absent_get)

-- the signs with that of one more node
abbrev pub next_signs : Signs → Prefix → Option Bool → Signs
next_signs m p None = m
next_signs m p (Some n) = finite.insert m p n

module _ (nodes : List Node) (i : ℕ) (trie : IsTrie nodes) (lt : i < length nodes) where
  one_more : listed (take (i + 1) nodes) ≡ listed (take i nodes) ++ cons_option (entry_of (node_at nodes i)) []
  one_more = ap listed (take_more nodes i (bare all_inet) lt) ∙ filter_map-append entry_of (take i nodes) (node_at nodes i ∷ [])

  not_yet : sign_in (listed (take i nodes)) (prefix_at nodes i) ≡ None
  not_yet = sign_nowhere (take i nodes) (prefix_at nodes i) (λ j lj e.
      let short : length (take i nodes) ≡ i = length-take-le i nodes (omega arith) in
      let below : j < i = omega arith in
      let same : node_at (take i nodes) j ≡ node_at nodes j = get_or-take i nodes j (bare all_inet) below in
      let one = trie.once j i (omega arith) lt (ap (λ (t : Node). t.prefix) (sym same) ∙ e) in
      absurd (omega arith))

  more_signs : (n : Option Bool) → (node_at nodes i).negated ≡ n → signs_in (take (i + 1) nodes) ≡ next_signs (signs_in (take i nodes)) (prefix_at nodes i) n
  more_signs None is = ap table_of (one_more ∙ ap (λ (t : Option Bool). listed (take i nodes) ++ cons_option (signed (prefix_at nodes i) t) []) is ∙ append-nil (listed (take i nodes)))
  more_signs (Some n) is =
      ap table_of (one_more ∙ ap (λ (t : Option Bool). listed (take i nodes) ++ cons_option (signed (prefix_at nodes i) t) []) is)
      ∙ ap (λ (t : List (Prefix × Bool)). finite.from_entries {R = prefix_cmp} t) (map-append paired (listed (take i nodes)) (record { prefix = prefix_at nodes i; negated = n } ∷ []))
      ∙ from_entries_push prefix_cmp-total antisymmetric (map paired (listed (take i nodes))) (prefix_at nodes i) n not_yet

pub signs_more : (nodes : List Node) (i : ℕ) (x : Node) → IsTrie nodes → i < length nodes → x ≡ node_at nodes i → (n : Option Bool) → x.negated ≡ n → signs_in (take (i + 1) nodes) ≡ next_signs (signs_in (take i nodes)) x.prefix n
signs_more nodes i x trie lt is n e =
    more_signs nodes i trie lt n (ap (λ (t : Node). t.negated) (sym is) ∙ e) ∙ ap (λ (t : Node). next_signs (signs_in (take i nodes)) t.prefix n) (sym is)

-- no nodes at all
pub new_kept : IsKept [] 0
new_kept = record {
  trie = record {
    roots = λ some. absurd (omega arith);
    links = λ i c b li e. absurd (omega arith);
    ways = λ i j li lj h. absurd (omega arith);
    once = λ i j li lj e. absurd (omega arith);
  };
  counted = sym (len-empty prefix_cmp Bool);
}
