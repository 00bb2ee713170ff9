-- The longest entry that contains an address, from the signs of the nodes.
use Rattle.std.proofs.Common.{◌≡◌, ◌≢◌, ℕ, ◌<◌, ◌≤◌, Bool, true, false, not, ◌&&◌, List, [], ◌∷◌, length, Option, Some, None, refl, sym, ap, ◌∙◌, subst, arith, inl, inr, ◌⊎◌, nat_lt}
use Rattle.std.specs.Prelude.{map, cond}
use Rattle.std.specs.FinMap as finite
use Rattle.std.specs.FinMap.{find, is_sorted, get-entries, entries_sorted}
use Rattle.std.specs.FinMap.Entries.{below_all}
use Rattle.std.specs.Ordering.{is_lt}
use Rattle.std.specs.Cmp.{tied_itself}
use Rattle.std.specs.declared.cmp.Ordering.{Ordering}
use Rattle.std.specs.declared.cmp.Ordering.TheVariants.{Equal}
use Rattle.std.specs.Option.{option_map_or}
use lib.Dec.{T}
use Rattle.std.proofs.lemmas.Bool.Decides.{nat_tests}
use Rattle.std.proofs.lemmas.Bool.{cases_lt}
use Rattle.pf_addr.specs.declared.addr.Addr.{Addr}
use Rattle.pf_addr.specs.declared.prefix.Prefix.{Prefix}
use Rattle.pf_addr.specs.Addr.{width}
use Rattle.pf_addr.specs.Prefix.{contains, whole}
use Rattle.pf_addr.specs.PrefixOrder.{prefix_cmp, prefix_cmp-total}
use Rattle.pf_table.specs.declared.node.Node.{Node}
use Rattle.pf_table.specs.declared.entry.Entry.{Entry}
use Rattle.pf_table.specs.Bits.{Covers}
use Rattle.pf_table.specs.Trie.{IsTrie, NoSign, HasSign, node_at, prefix_at, len_at}
use Rattle.pf_table.specs.Table.{Signs, entry, entries_of, narrower, narrowest, member}
use Rattle.pf_table.specs.Kept.{signs_in}
use Rattle.pf_table.proofs.Covers.{contains-covers, covers-contains, covers-joint, covers-same}
use Rattle.pf_table.proofs.Signs.{same_or_not, key_sign, absent_sign, located, tie_of_same}

-- the list has this pair
Has : List (Prefix × Bool) → Prefix → Bool → Type 0
Has [] q s = ⊥
Has (x ∷ xs) q s = ((x.0 ≡ q) × (x.1 ≡ s)) ⊎ Has xs q s

split : (b c : Bool) → T (b && c) → T b × T c
split true true h = (tt, tt)
split true false h = absurd h
split false c h = absurd h

some_of : (a b : Bool) → ◌≡◌ {A = Option Bool} (Some a) (Some b) → a ≡ b
some_of a b e = cc

has_found : (es : List (Prefix × Bool)) (q : Prefix) (s : Bool) → find prefix_cmp q es ≡ Some s → Has es q s
unfolding Has
has_found [] q s e = absurd (cc)
has_found (x ∷ xs) q s e =
    elim (same_or_not q x.0) [
      | inl same ↦ inl (sym same, some_of x.1 s (sym (ap (λ (b : Bool). cond b (Some x.1) (find prefix_cmp q xs)) (tie_of_same q x.0 same)) ∙ e))
      | inr apart ↦ inr (has_found xs q s (sym (ap (λ (b : Bool). cond b (Some x.1) (find prefix_cmp q xs)) apart.1) ∙ e))
    ]

-- what comes behind a prefix in order is another one
later : (p q : Prefix) (s : Bool) (es : List (Prefix × Bool)) → T (below_all prefix_cmp p es) → Has es q s → T (is_lt (prefix_cmp p q))
unfolding Has
later p q s [] h k = absurd k
later p q s (x ∷ xs) h (inl is) = subst (λ (t : Prefix). T (is_lt (prefix_cmp p t))) is.0 (let both = split _ _ h in both.0)
later p q s (x ∷ xs) h (inr k) = later p q s xs (let both = split _ _ h in both.1) k

not_itself : (p q : Prefix) → T (is_lt (prefix_cmp p q)) → q ≢ p
not_itself p q h e = absurd (subst (λ (t : Ordering). T (is_lt t)) (subst (λ (t : Prefix). prefix_cmp p t ≡ Equal) (sym e) (is_tied (prefix_cmp p p) (tied_itself prefix_cmp-total p))) h)
  where
    is_tied : (r : Ordering) → r ≡ Equal → r ≡ Equal
    is_tied r h = h

found_has : (es : List (Prefix × Bool)) (q : Prefix) (s : Bool) → T (is_sorted prefix_cmp es) → Has es q s → find prefix_cmp q es ≡ Some s
unfolding Has
found_has [] q s h k = absurd k
found_has (x ∷ xs) q s h (inl is) = ap (λ (b : Bool). cond b (Some x.1) (find prefix_cmp q xs)) (tie_of_same q x.0 (sym is.0)) ∙ ap Some is.1
found_has (x ∷ xs) q s h (inr k) =
    let both = split _ _ h in
    elim (same_or_not q x.0) [
      | inl same ↦ absurd (not_itself x.0 q (later x.0 q s xs both.0 k) same)
      | inr apart ↦ ap (λ (b : Bool). cond b (Some x.1) (find prefix_cmp q xs)) apart.1 ∙ found_has xs q s both.1 k
    ]

narrow_none : (es : List (Prefix × Bool)) (a : Addr) → ((q : Prefix) (s : Bool) → Has es q s → contains q a ≡ false) → narrowest (map entry es) a ≡ None
unfolding Has
narrow_none [] a h = refl
narrow_none (x ∷ xs) a h =
    ap (λ (b : Bool). cond b (Some (narrower (entry x) (narrowest (map entry xs) a))) (narrowest (map entry xs) a)) (h x.0 x.1 (inl (refl, refl)))
    ∙ narrow_none xs a (λ q s k. h q s (inr k))

-- no longer than the pair, or that pair
Under : Prefix → Bool → Entry → Type 0
Under p s e = (e.prefix.len < p.len) ⊎ (e ≡ entry (p, s))

UnderAll : List (Prefix × Bool) → Addr → Prefix → Bool → Type 0
UnderAll es a p s = (q : Prefix) (t : Bool) → Has es q t → contains q a ≡ true → Under p s (entry (q, t))

IfUnder : Prefix → Bool → Option Entry → Type 0
IfUnder p s None = Unit {0}
IfUnder p s (Some e) = Under p s e

choose : (b : Bool) (p : Prefix) (s : Bool) (e f : Entry) → Under p s e → Under p s f → Under p s (cond b f e)
choose true p s e f h k = k
choose false p s e f h k = h

under_narrower : (p : Prefix) (s : Bool) (e : Entry) (o : Option Entry) → Under p s e → IfUnder p s o → Under p s (narrower e o)
unfolding IfUnder
under_narrower p s e None h k = h
under_narrower p s e (Some f) h k = choose (nat_lt e.prefix.len f.prefix.len) p s e f h k

true_or_false : (b : Bool) → (b ≡ true) ⊎ (b ≡ false)
true_or_false true = inl refl
true_or_false false = inr refl

rest_under : (es : List (Prefix × Bool)) (a : Addr) (p : Prefix) (s : Bool) → UnderAll es a p s → IfUnder p s (narrowest (map entry es) a)
unfolding UnderAll IfUnder Has
rest_under [] a p s h = tt
rest_under (x ∷ xs) a p s h =
    let rest = rest_under xs a p s (λ q t k. h q t (inr k)) in
    elim (true_or_false (contains x.0 a)) [
      | inl inside ↦
          subst (λ (b : Bool). IfUnder p s (cond b (Some (narrower (entry x) (narrowest (map entry xs) a))) (narrowest (map entry xs) a))) (sym inside)
          (under_narrower p s (entry x) (narrowest (map entry xs) a) (h x.0 x.1 (inl (refl, refl)) inside) rest)
      | inr out ↦
          subst (λ (b : Bool). IfUnder p s (cond b (Some (narrower (entry x) (narrowest (map entry xs) a))) (narrowest (map entry xs) a))) (sym out) rest
    ]

not_less : (m n : ℕ) → n ≤ m → nat_lt m n ≡ false
not_less m n le = grind (arith, nat_tests)

is_less : (m n : ℕ) → m < n → nat_lt m n ≡ true
is_less m n lt = grind (arith, nat_tests)

-- the pair itself is not replaced by what is under it
keeps : (p : Prefix) (s : Bool) (o : Option Entry) → IfUnder p s o → narrower (entry (p, s)) o ≡ entry (p, s)
unfolding IfUnder Under
keeps p s None h = refl
keeps p s (Some f) (inl lt) = ap (λ (b : Bool). cond b f (entry (p, s))) (not_less p.len f.prefix.len (omega arith))
keeps p s (Some f) (inr is) = ap (λ (b : Bool). cond b f (entry (p, s))) (not_less p.len f.prefix.len (let same = ap (λ (t : Entry). t.prefix.len) is in omega arith))

-- and it replaces what is under it
wins : (p : Prefix) (s : Bool) (e : Entry) → Under p s e → narrower e (Some (entry (p, s))) ≡ entry (p, s)
unfolding Under
wins p s e (inl lt) = ap (λ (b : Bool). cond b (entry (p, s)) e) (is_less e.prefix.len p.len lt)
wins p s e (inr is) = ap (λ (t : Entry). narrower t (Some (entry (p, s)))) is ∙ ap (λ (b : Bool). cond b (entry (p, s)) (entry (p, s))) (not_less p.len p.len (omega arith))

narrow_some : (es : List (Prefix × Bool)) (a : Addr) (p : Prefix) (s : Bool) → Has es p s → contains p a ≡ true → UnderAll es a p s → narrowest (map entry es) a ≡ Some (entry (p, s))
unfolding UnderAll Has
narrow_some [] a p s k inside h = absurd k
narrow_some (x ∷ xs) a p s (inl is) inside h =
    let rest = rest_under xs a p s (λ q t k. h q t (inr k)) in
    let here : entry x ≡ entry (p, s) = λ i. record { prefix = is.0 i; negated = is.1 i } in
    ap (λ (b : Bool). cond b (Some (narrower (entry x) (narrowest (map entry xs) a))) (narrowest (map entry xs) a)) (ap (λ (t : Prefix). contains t a) is.0 ∙ inside)
    ∙ ap (λ (t : Entry). Some (narrower t (narrowest (map entry xs) a))) here
    ∙ ap Some (keeps p s (narrowest (map entry xs) a) rest)
narrow_some (x ∷ xs) a p s (inr k) inside h =
    let rest = narrow_some xs a p s k inside (λ q t m. h q t (inr m)) in
    elim (true_or_false (contains x.0 a)) [
      | inl too ↦
          ap (λ (b : Bool). cond b (Some (narrower (entry x) (narrowest (map entry xs) a))) (narrowest (map entry xs) a)) too
          ∙ ap (λ (t : Option Entry). Some (narrower (entry x) t)) rest
          ∙ ap Some (wins p s (entry x) (h x.0 x.1 (inl (refl, refl)) too))
      | inr out ↦
          ap (λ (b : Bool). cond b (Some (narrower (entry x) (narrowest (map entry xs) a))) (narrowest (map entry xs) a)) out ∙ rest
    ]

module _ (nodes : List Node) (trie : IsTrie nodes) (a : Addr) where
  -- a pair of the table is the sign of a node
  node_of : (q : Prefix) (s : Bool) → finite.get (signs_in nodes) q ≡ Some s → (j : ℕ) × (j < length nodes) × (prefix_at nodes j ≡ q) × ((node_at nodes j).negated ≡ Some s)
  node_of q s e =
      elim (located nodes q) [
        | inl found ↦ (found.0, found.1, found.2, sym (key_sign nodes q found.0 trie (record { inside = found.1; here = found.2 })) ∙ e)
        | inr none ↦ absurd (let gone : finite.get (signs_in nodes) q ≡ None = absent_sign nodes q (record { nowhere = none }) in let both : ◌≡◌ {A = Option Bool} None (Some s) = sym gone ∙ e in cc)
      ]

  sign_of_has : (q : Prefix) (s : Bool) → Has (finite.entries (signs_in nodes)) q s → finite.get (signs_in nodes) q ≡ Some s
  sign_of_has q s k = get-entries (signs_in nodes) q ∙ found_has (finite.entries (signs_in nodes)) q s (entries_sorted (signs_in nodes)) k

  has_of_sign : (q : Prefix) (s : Bool) → finite.get (signs_in nodes) q ≡ Some s → Has (finite.entries (signs_in nodes)) q s
  has_of_sign q s e = has_found (finite.entries (signs_in nodes)) q s (sym (get-entries (signs_in nodes) q) ∙ e)

  none_of : (o : Option Bool) (s : Bool) → o ≡ Some s → o ≡ None → ⊥
  none_of o s e f = cc

  not_true : (b : Bool) → (b ≡ true → ⊥) → b ≡ false
  not_true true h = absurd (h refl)
  not_true false h = refl

  fits_in : (q : Prefix) → Covers q (whole a) → q.len ≤ width a
  fits_in q h = h.short

  pub member_none : NoSign nodes (whole a) (width a) → member (entries_of (signs_in nodes)) a ≡ false
  member_none h =
      ap (λ (o : Option Entry). option_map_or (λ (e : Entry). not e.negated) o false)
      (narrow_none (finite.entries (signs_in nodes)) a (λ q s k. not_true (contains q a) (λ inside.
      let n = node_of q s (sign_of_has q s k) in
      let over : Covers (prefix_at nodes n.0) (whole a) = subst (λ (t : Prefix). Covers t (whole a)) (sym n.2) (contains-covers q a inside) in
      none_of (node_at nodes n.0).negated s n.3 (h.none n.0 n.1 over over.short))))

  under_here : (s : Bool) (h : HasSign nodes (whole a) (width a) s) → UnderAll (finite.entries (signs_in nodes)) a (prefix_at nodes h.at) s
  unfolding UnderAll Under
  under_here s h q t k inside =
      let got = sign_of_has q t k in
      let n = node_of q t got in
      let over : Covers (prefix_at nodes n.0) (whole a) = subst (λ (r : Prefix). Covers r (whole a)) (sym n.2) (contains-covers q a inside) in
      let same_len : len_at nodes n.0 ≡ q.len = ap (λ (r : Prefix). r.len) n.2 in
      elim (cases_lt (len_at nodes h.at) (len_at nodes n.0)) [
        | inl longer ↦ absurd (none_of (node_at nodes n.0).negated t n.3 (h.longest n.0 n.1 over over.short longer))
        | inr le ↦ elim (cases_lt q.len (len_at nodes h.at)) [
          | inl shorter ↦ inl shorter
          | inr ge ↦
              let equal : len_at nodes n.0 ≡ len_at nodes h.at = omega arith in
              let one : prefix_at nodes n.0 ≡ prefix_at nodes h.at = covers-same _ _ (covers-joint _ _ _ over h.covers (omega arith)) equal in
              let index : n.0 ≡ h.at = trie.once n.0 h.at n.1 h.inside one in
              let sign_same : t ≡ s = some_of t s (sym n.3 ∙ ap (λ (i : ℕ). (node_at nodes i).negated) index ∙ h.is) in
              let prefix_same : q ≡ prefix_at nodes h.at = sym n.2 ∙ one in
              inr (λ i. record { prefix = prefix_same i; negated = sign_same i })
        ]
      ]

  pub member_some : (sign : Bool) → HasSign nodes (whole a) (width a) sign → member (entries_of (signs_in nodes)) a ≡ not sign
  member_some sign h =
      let p = prefix_at nodes h.at in
      let here : finite.get (signs_in nodes) p ≡ Some sign = key_sign nodes p h.at trie (record { inside = h.inside; here = refl }) ∙ h.is in
      ap (λ (o : Option Entry). option_map_or (λ (e : Entry). not e.negated) o false)
      (narrow_some (finite.entries (signs_in nodes)) a p sign (has_of_sign p sign here) (covers-contains p a h.covers) (under_here sign h))

pub looked_some : (m : Signs) (nodes xs : List Node) (a : Addr) (key : Prefix) (n : Bool) → signs_in nodes ≡ m → IsTrie nodes → xs ≡ nodes → key ≡ whole a → HasSign xs key key.len n → not n ≡ member (entries_of m) a
looked_some m nodes xs a key n view trie same is h =
    let at : HasSign nodes (whole a) (width a) n = subst (λ (t : Prefix). HasSign nodes t t.len n) is (subst (λ (t : List Node). HasSign t key key.len n) same h) in
    sym (member_some nodes trie a n at) ∙ ap (λ (t : Signs). member (entries_of t) a) view

pub looked_none : (m : Signs) (nodes xs : List Node) (a : Addr) (key : Prefix) → signs_in nodes ≡ m → IsTrie nodes → xs ≡ nodes → key ≡ whole a → NoSign xs key key.len → false ≡ member (entries_of m) a
looked_none m nodes xs a key view trie same is h =
    let at : NoSign nodes (whole a) (width a) = subst (λ (t : Prefix). NoSign nodes t t.len) is (subst (λ (t : List Node). NoSign t key key.len) same h) in
    sym (member_none nodes trie a at) ∙ ap (λ (t : Signs). member (entries_of t) a) view
