-- What the nodes of the tries say of the table that they stand for.
use Rattle.std.proofs.Common.{◌≡◌, ◌≢◌, ℕ, zero, suc, ◌<◌, Bool, true, false, List, [], ◌∷◌, length, Option, Some, None, refl, sym, ap, ◌∙◌, arith, inl, inr, ◌⊎◌}
use Rattle.std.specs.Prelude.{map, cond}
use Rattle.std.specs.List.{cons_option}
use Rattle.std.specs.FinMap as finite
use Rattle.std.specs.FinMap.{get-from_entries, get-insert, get-remove, same_map, IsAntisymmetric, find}
use Rattle.std.specs.Ordering.{eq_by_cmp}
use Rattle.std.proofs.lemmas.Bool.{cases_eq}
use Rattle.pf_addr.specs.declared.prefix.Prefix.{Prefix}
use Rattle.pf_addr.specs.PrefixOrder.{prefix_cmp, prefix_cmp-total, prefix_eq-prefix_cmp, prefixes}
use Rattle.pf_addr.specs.EqualLaws.{prefixes_level}
use Rattle.pf_table.specs.declared.node.Node.{Node}
use Rattle.pf_table.specs.declared.entry.Entry.{Entry}
use Rattle.std.proofs.Common.{get_or-set_same, get_or-set_other}
use Rattle.std.proofs.Math.ListN.{length-set}
use Rattle.pf_table.specs.Node.{signed, bare, child, with_sign}
use Rattle.pf_table.specs.Trie.{IsTrie, IsHeldAt, IsAbsent, node_at, prefix_at, listed, all_inet, resigned}
use Rattle.pf_table.proofs.Same.{same-IsTrie}
use Rattle.pf_table.specs.Table.{paired}
use Rattle.pf_table.specs.Kept.{signs_in}

-- the sign of the first entry of this prefix
abbrev pub sign_in : List Entry → Prefix → Option Bool
sign_in entries q = find prefix_cmp q (map paired entries)

same_of_tie : (p q : Prefix) → eq_by_cmp prefix_cmp p q ≡ true → p ≡ q
same_of_tie p q h = (prefixes.decides p q).0 (prefix_eq-prefix_cmp p q ∙ h)

pub tie_of_same : (p q : Prefix) → p ≡ q → eq_by_cmp prefix_cmp p q ≡ true
tie_of_same p q e = sym (prefix_eq-prefix_cmp p q) ∙ (prefixes.decides p q).1 e

true_or_false : (b : Bool) → (b ≡ true) ⊎ (b ≡ false)
true_or_false true = inl refl
true_or_false false = inr refl

-- two prefixes are one, or they differ, and then the order tells them apart
pub same_or_not : (p q : Prefix) → (p ≡ q) ⊎ ((p ≢ q) × (eq_by_cmp prefix_cmp p q ≡ false))
same_or_not p q = elim (true_or_false (eq_by_cmp prefix_cmp p q)) [
  | inl t ↦ inl (same_of_tie p q t)
  | inr f ↦ inr (λ e. not_both (eq_by_cmp prefix_cmp p q) (tie_of_same p q e) f, f)
]
  where
    not_both : (b : Bool) → b ≡ true → b ≡ false → ⊥
    not_both b t f = cc

pub antisymmetric : IsAntisymmetric prefix_cmp
antisymmetric p q e = (prefixes_level p q).0 e

-- the sign in a list that begins with what a node may stand for
abbrev first_or : Option Bool → Option Bool → Option Bool
first_or None rest = rest
first_or (Some n) rest = Some n

signed_same : (x : Node) (xs : List Node) (q : Prefix) → eq_by_cmp prefix_cmp q x.prefix ≡ true → sign_in (listed (x ∷ xs)) q ≡ first_or x.negated (sign_in (listed xs) q)
signed_same x xs q t = from x.negated
  where
    from : (n : Option Bool) → find prefix_cmp q (map paired (cons_option (signed x.prefix n) (listed xs))) ≡ first_or n (sign_in (listed xs) q)
    from None = refl
    from (Some n) = ap (λ (b : Bool). cond b (Some n) (sign_in (listed xs) q)) t

signed_other : (x : Node) (xs : List Node) (q : Prefix) → eq_by_cmp prefix_cmp q x.prefix ≡ false → sign_in (listed (x ∷ xs)) q ≡ sign_in (listed xs) q
signed_other x xs q t = from x.negated
  where
    from : (n : Option Bool) → find prefix_cmp q (map paired (cons_option (signed x.prefix n) (listed xs))) ≡ sign_in (listed xs) q
    from None = refl
    from (Some n) = ap (λ (b : Bool). cond b (Some n) (sign_in (listed xs) q)) t

-- no node of a prefix has a sign, and then the list has none
pub sign_nowhere : (nodes : List Node) (q : Prefix) → ((j : ℕ) → j < length nodes → prefix_at nodes j ≡ q → (node_at nodes j).negated ≡ None) → sign_in (listed nodes) q ≡ None
sign_nowhere [] q h = refl
sign_nowhere (x ∷ xs) q h =
    let rest = sign_nowhere xs q (λ j lt e. h (suc j) (omega arith) e) in
    elim (same_or_not q x.prefix) [
      | inl same ↦ signed_same x xs q (tie_of_same q x.prefix same) ∙ ap (λ (t : Option Bool). first_or t (sign_in (listed xs) q)) (h zero (omega arith) (sym same)) ∙ rest
      | inr apart ↦ signed_other x xs q apart.1 ∙ rest
    ]

-- the one node of a prefix has its sign
pub sign_at : (nodes : List Node) (i : ℕ) (q : Prefix) → i < length nodes → prefix_at nodes i ≡ q → ((j : ℕ) → j < length nodes → prefix_at nodes j ≡ q → j ≡ i) → sign_in (listed nodes) q ≡ (node_at nodes i).negated
sign_at [] i q lt e once = absurd (omega arith)
sign_at (x ∷ xs) zero q lt e once =
    let rest = sign_nowhere xs q (λ j l same. absurd (let far = once (suc j) (omega arith) same in omega arith)) in
    signed_same x xs q (tie_of_same q x.prefix (sym e)) ∙ ap (first_or x.negated) rest ∙ first_or-none x.negated
  where
    first_or-none : (n : Option Bool) → first_or n None ≡ n
    first_or-none None = refl
    first_or-none (Some n) = refl
sign_at (x ∷ xs) (suc i) q lt e once =
    elim (same_or_not q x.prefix) [
      | inl same ↦ absurd (let far = once zero (omega arith) (sym same) in omega arith)
      | inr apart ↦ signed_other x xs q apart.1 ∙ sign_at xs i q (omega arith) e (λ j l same. let near = once (suc j) (omega arith) same in omega arith)
    ]

not_first : (x : Node) (xs : List Node) (q : Prefix) → x.prefix ≢ q → ((j : ℕ) → j < length xs → prefix_at xs j ≢ q) → (j : ℕ) → j < suc (length xs) → prefix_at (x ∷ xs) j ≢ q
not_first x xs q apart none zero lt = apart
not_first x xs q apart none (suc j) lt = none j (omega arith)

-- where a prefix has its node, or that it has none
pub located : (nodes : List Node) (q : Prefix) → ((i : ℕ) × (i < length nodes) × (prefix_at nodes i ≡ q)) ⊎ ((j : ℕ) → j < length nodes → prefix_at nodes j ≢ q)
located [] q = inr (λ j lt e. absurd (omega arith))
located (x ∷ xs) q =
    elim (same_or_not x.prefix q) [
      | inl same ↦ inl (zero, let lt : zero < suc (length xs) = omega arith in lt, same)
      | inr apart ↦ elim (located xs q) [
        | inl found ↦ inl (suc found.0, let lt = found.1 in let more : suc found.0 < suc (length xs) = omega arith in more, found.2)
        | inr none ↦ inr (not_first x xs q apart.0 none)
      ]
    ]

pub get_sign : (nodes : List Node) (q : Prefix) → finite.get (signs_in nodes) q ≡ sign_in (listed nodes) q
get_sign nodes q = get-from_entries prefix_cmp-total (map paired (listed nodes)) q

-- a node has the sign of its prefix
pub key_sign : (nodes : List Node) (key : Prefix) (at : ℕ) → IsTrie nodes → IsHeldAt nodes key at → finite.get (signs_in nodes) key ≡ (node_at nodes at).negated
key_sign nodes key at trie held =
    get_sign nodes key ∙ sign_at nodes at key held.inside held.here (λ j lt e. trie.once j at lt held.inside (e ∙ sym held.here))

pub absent_sign : (nodes : List Node) (key : Prefix) → IsAbsent nodes key → finite.get (signs_in nodes) key ≡ None
absent_sign nodes key h = get_sign nodes key ∙ sign_nowhere nodes key (λ j lt e. absurd (h.nowhere j lt e))

module _ (nodes : List Node) (key : Prefix) (at : ℕ) (trie : IsTrie nodes) (held : IsHeldAt nodes key at) (o : Option Bool) where
  new_long : length (resigned nodes at o) ≡ length nodes
  new_long = length-set nodes at (with_sign (node_at nodes at) o)

  new_here : node_at (resigned nodes at o) at ≡ with_sign (node_at nodes at) o
  new_here = get_or-set_same nodes at (with_sign (node_at nodes at) o) (bare all_inet) held.inside

  new_other : (j : ℕ) → j ≢ at → node_at (resigned nodes at o) j ≡ node_at nodes j
  new_other j ne = get_or-set_other nodes at j (with_sign (node_at nodes at) o) (bare all_inet) ne

  new_prefix : (j : ℕ) → prefix_at (resigned nodes at o) j ≡ prefix_at nodes j
  new_prefix j = elim (cases_eq j at) [
    | inl is ↦ ap (prefix_at (resigned nodes at o)) is ∙ ap (λ (t : Node). t.prefix) new_here ∙ ap (prefix_at nodes) (sym is)
    | inr ne ↦ ap (λ (t : Node). t.prefix) (new_other j ne)
  ]

  child_here : (b : Bool) → child (with_sign (node_at nodes at) o) b ≡ child (node_at nodes at) b
  child_here true = refl
  child_here false = refl

  new_child : (j : ℕ) (b : Bool) → child (node_at (resigned nodes at o) j) b ≡ child (node_at nodes j) b
  new_child j b = elim (cases_eq j at) [
    | inl is ↦ ap (λ (t : ℕ). child (node_at (resigned nodes at o) t) b) is ∙ ap (λ (t : Node). child t b) new_here ∙ child_here b ∙ ap (λ (t : ℕ). child (node_at nodes t) b) (sym is)
    | inr ne ↦ ap (λ (t : Node). child t b) (new_other j ne)
  ]

  pub resigned-IsTrie : IsTrie (resigned nodes at o)
  resigned-IsTrie = same-IsTrie nodes (resigned nodes at o) new_long new_prefix new_child trie

  sign_changed : (q : Prefix) → sign_in (listed (resigned nodes at o)) q ≡ cond (eq_by_cmp prefix_cmp q key) o (sign_in (listed nodes) q)
  sign_changed q =
      elim (located nodes q) [
        | inl found ↦
            let j = found.0 in
            let lj = found.1 in
            let is = found.2 in
            let before = sign_at nodes j q lj is (λ i lt e. trie.once i j lt lj (e ∙ sym is)) in
            let wide : j < length (resigned nodes at o) = let l = new_long in omega arith in
            let after = sign_at (resigned nodes at o) j q wide (new_prefix j ∙ is) (λ i lt e. trie.once i j (let l = new_long in omega arith) lj (sym (new_prefix i) ∙ e ∙ sym is)) in
            elim (cases_eq j at) [
              | inl here ↦
                  let tie = tie_of_same q key (sym is ∙ ap (prefix_at nodes) here ∙ held.here) in
                  after ∙ ap (λ (t : ℕ). (node_at (resigned nodes at o) t).negated) here ∙ ap (λ (t : Node). t.negated) new_here ∙ ap (λ (t : Bool). cond t o (sign_in (listed nodes) q)) (sym tie)
              | inr ne ↦ elim (same_or_not q key) [
                | inl same ↦ absurd (ne (trie.once j at lj held.inside (is ∙ same ∙ sym held.here)))
                | inr apart ↦ after ∙ ap (λ (t : Node). t.negated) (new_other j ne) ∙ sym before ∙ ap (λ (t : Bool). cond t o (sign_in (listed nodes) q)) (sym apart.1)
              ]
            ]
        | inr none ↦
            let before = sign_nowhere nodes q (λ j lt e. absurd (none j lt e)) in
            let after = sign_nowhere (resigned nodes at o) q (λ j lt e. absurd (none j (let l = new_long in omega arith) (sym (new_prefix j) ∙ e))) in
            elim (same_or_not q key) [
              | inl same ↦ absurd (none at held.inside (held.here ∙ sym same))
              | inr apart ↦ after ∙ sym before ∙ ap (λ (t : Bool). cond t o (sign_in (listed nodes) q)) (sym apart.1)
            ]
      ]

  pub get_changed : (q : Prefix) → finite.get (signs_in (resigned nodes at o)) q ≡ cond (eq_by_cmp prefix_cmp q key) o (finite.get (signs_in nodes) q)
  get_changed q = get_sign (resigned nodes at o) q ∙ sign_changed q ∙ ap (cond (eq_by_cmp prefix_cmp q key) o) (sym (get_sign nodes q))

pub signed-insert : (nodes : List Node) (key : Prefix) (at : ℕ) → IsTrie nodes → IsHeldAt nodes key at → (n : Bool) → signs_in (resigned nodes at (Some n)) ≡ finite.insert (signs_in nodes) key n
signed-insert nodes key at trie held n =
    same_map prefix_cmp-total antisymmetric _ _ (λ q. get_changed nodes key at trie held (Some n) q ∙ sym (get-insert prefix_cmp-total (signs_in nodes) key n q))

pub signed-remove : (nodes : List Node) (key : Prefix) (at : ℕ) → IsTrie nodes → IsHeldAt nodes key at → signs_in (resigned nodes at None) ≡ finite.remove (signs_in nodes) key
signed-remove nodes key at trie held =
    same_map prefix_cmp-total antisymmetric _ _ (λ q. get_changed nodes key at trie held None q ∙ sym (get-remove prefix_cmp-total (signs_in nodes) key q))
