-- What is left of the others by a node put in between.
use Rattle.std.proofs.Common.{◌≡◌, ◌≢◌, ℕ, zero, suc, ◌+◌, ◌<◌, Bool, true, false, List, [], ◌∷◌, ◌++◌, length, Option, Some, None, refl, sym, ap, ◌∙◌, subst, arith, inl, inr, length-append, append-nil, get_or-set_same, get_or-set_other, get_or}
use Rattle.std.specs.Prelude.{slice_set}
use Rattle.std.specs.List.{filter_map, cons_option}
use Rattle.std.proofs.lemmas.Bool.{cases_eq}
use Rattle.std.proofs.Math.ListN.{length-set, set}
use Rattle.std.proofs.lemmas.List.{get_or_append_left}
use Rattle.std.proofs.Math.Seq.{get_or-append_seam}
use Rattle.std.proofs.lemmas.List.Elements.{filter_map-append}
use Rattle.pf_addr.specs.declared.prefix.Prefix.{Prefix}
use Rattle.pf_table.specs.declared.node.Node.{Node}
use Rattle.pf_table.specs.declared.entry.Entry.{Entry}
use Rattle.pf_table.specs.Bits.{side}
use Rattle.pf_table.specs.Node.{bare, child, with_child, entry_of}
use Rattle.pf_table.specs.Trie.{IsTrie, CanGrow, node_at, prefix_at, len_at, over, grown, listed, all_inet}
use Rattle.pf_table.proofs.Grow.{Grows, grows-IsTrie}

same_child : (node : Node) (b : Bool) (k : ℕ) → child (with_child node b k) b ≡ Some k
same_child node true k = refl
same_child node false k = refl

other_child : (node : Node) (b c : Bool) (k : ℕ) → c ≢ b → child (with_child node b k) c ≡ child node c
other_child node true true k ne = absurd (ne refl)
other_child node true false k ne = refl
other_child node false true k ne = refl
other_child node false false k ne = absurd (ne refl)

prefix-with_child : (node : Node) (b : Bool) (k : ℕ) → (with_child node b k).prefix ≡ node.prefix
prefix-with_child node true k = refl
prefix-with_child node false k = refl

entry_of-with_child : (node : Node) (b : Bool) (k : ℕ) → entry_of (with_child node b k) ≡ entry_of node
entry_of-with_child node true k = refl
entry_of-with_child node false k = refl

child-bare : (p : Prefix) (b : Bool) (c : ℕ) → child (bare p) b ≢ Some c
child-bare p true c e = cc
child-bare p false c e = cc

prefix-over : (nodes : List Node) (key : Prefix) (o : Option ℕ) → (over nodes key o).prefix ≡ key
prefix-over nodes key None = refl
prefix-over nodes key (Some c) = prefix-with_child (bare key) (side (prefix_at nodes c).addr key.len) c

entry_of-over : (nodes : List Node) (key : Prefix) (o : Option ℕ) → entry_of (over nodes key o) ≡ None
entry_of-over nodes key None = refl
entry_of-over nodes key (Some c) = entry_of-with_child (bare key) (side (prefix_at nodes c).addr key.len) c

same_some : (a b : ℕ) → ◌≡◌ {A = Option ℕ} (Some a) (Some b) → a ≡ b
same_some a b e = cc

under_one : (key : Prefix) (s b : Bool) (d c : ℕ) → child (with_child (bare key) s d) b ≡ Some c → (d ≡ c) × (b ≡ s)
under_one key true true d c e = (same_some d c e, refl)
under_one key true false d c e = cc
under_one key false true d c e = cc
under_one key false false d c e = (same_some d c e, refl)

under_over : (nodes : List Node) (key : Prefix) (o : Option ℕ) (b : Bool) (c : ℕ) → child (over nodes key o) b ≡ Some c → (o ≡ Some c) × (b ≡ side (prefix_at nodes c).addr key.len)
under_over nodes key None b c e = absurd (child-bare key b c e)
under_over nodes key (Some d) b c e =
    let both = under_one key (side (prefix_at nodes d).addr key.len) b d c e in
    (ap Some both.0, both.1 ∙ ap (λ (t : ℕ). side (prefix_at nodes t).addr key.len) both.0)

down_over : (nodes : List Node) (key : Prefix) (o : Option ℕ) (c : ℕ) → o ≡ Some c → child (over nodes key o) (side (prefix_at nodes c).addr key.len) ≡ Some c
down_over nodes key None c e = cc
down_over nodes key (Some d) c e =
    let is = same_some d c e in
    subst (λ (t : ℕ). child (over nodes key (Some d)) (side (prefix_at nodes t).addr key.len) ≡ Some t) is (same_child (bare key) (side (prefix_at nodes d).addr key.len) d)

-- the list with one more behind, and another one at a place
module _ (xs : List Node) (at : ℕ) (x y d : Node) (inside : at < length xs) where
  more : List Node
  more = slice_set (xs ++ x ∷ []) at y

  more_long : length more ≡ length xs + 1
  unfolding more
  more_long = length-set (xs ++ x ∷ []) at y ∙ length-append xs (x ∷ [])

  more_here : get_or more at d ≡ y
  unfolding more
  more_here = get_or-set_same (xs ++ x ∷ []) at y d (let l = length-append xs (x ∷ []) in omega arith)

  before : (j : ℕ) → j < length xs → get_or (xs ++ x ∷ []) j d ≡ get_or xs j d
  before j lt = get_or_append_left xs (x ∷ []) d j lt

  more_other : (j : ℕ) → j < length xs → j ≢ at → get_or more j d ≡ get_or xs j d
  unfolding more
  more_other j lt ne = get_or-set_other (xs ++ x ∷ []) at j y d ne ∙ before j lt

  more_last : get_or more (length xs) d ≡ x
  unfolding more
  more_last =
      let ne : length xs ≢ at = omega arith in
      get_or-set_other (xs ++ x ∷ []) at (length xs) y d ne ∙ get_or-append_seam xs x [] d

same_mapped : (h : Node → Option Entry) (xs : List Node) (i : ℕ) (y d : Node) → i < length xs → h y ≡ h (get_or xs i d) → filter_map h (slice_set xs i y) ≡ filter_map h xs
same_mapped h [] i y d lt e = absurd (omega arith)
same_mapped h (x ∷ xs) zero y d lt e = ap (λ (t : Option Entry). cons_option t (filter_map h xs)) e
same_mapped h (x ∷ xs) (suc i) y d lt e = ap (cons_option (h x)) (same_mapped h xs i y d (omega arith) e)

-- a node without an entry behind the others adds none, and nor does one with the entry of the old
pub listed-more : (xs : List Node) (at : ℕ) (x y : Node) → at < length xs → entry_of x ≡ None → entry_of y ≡ entry_of (node_at xs at) → listed (slice_set (xs ++ x ∷ []) at y) ≡ listed xs
listed-more xs at x y lt none same =
    let long = length-append xs (x ∷ []) in
    same_mapped entry_of (xs ++ x ∷ []) at y (bare all_inet) (omega arith) (same ∙ ap entry_of (sym (get_or_append_left xs (x ∷ []) (bare all_inet) at lt)))
    ∙ filter_map-append entry_of xs (x ∷ [])
    ∙ ap (λ (t : Option Entry). filter_map entry_of xs ++ cons_option t []) none
    ∙ append-nil (filter_map entry_of xs)

pub listed-grown : (nodes : List Node) (at : ℕ) (key : Prefix) → at < length nodes → listed (grown nodes at key) ≡ listed nodes
listed-grown nodes at key lt =
    let way = side key.addr (len_at nodes at) in
    listed-more nodes at (over nodes key (child (node_at nodes at) way)) (with_child (node_at nodes at) way (length nodes)) lt
    (entry_of-over nodes key (child (node_at nodes at) way))
    (entry_of-with_child (node_at nodes at) way (length nodes))

module _ (nodes : List Node) (at : ℕ) (key : Prefix) (inside : at < length nodes) where
  way : Bool
  way = side key.addr (len_at nodes at)

  link : Node
  link = with_child (node_at nodes at) (side key.addr (len_at nodes at)) (length nodes)

  node : Node
  node = over nodes key (child (node_at nodes at) (side key.addr (len_at nodes at)))

  here : node_at (grown nodes at key) at ≡ link
  unfolding link node more
  here = more_here nodes at node link (bare all_inet) inside

  other : (j : ℕ) → j < length nodes → j ≢ at → node_at (grown nodes at key) j ≡ node_at nodes j
  unfolding link node more
  other j lt ne = more_other nodes at node link (bare all_inet) inside j lt ne

  last : node_at (grown nodes at key) (length nodes) ≡ node
  unfolding link node more
  last = more_last nodes at node link (bare all_inet) inside

  kept_prefix : (j : ℕ) → j < length nodes → prefix_at (grown nodes at key) j ≡ prefix_at nodes j
  unfolding link
  kept_prefix j lt =
      elim (cases_eq j at) [
        | inl same ↦ ap (prefix_at (grown nodes at key)) same ∙ ap (λ (t : Node). t.prefix) here ∙ prefix-with_child (node_at nodes at) (side key.addr (len_at nodes at)) (length nodes) ∙ ap (prefix_at nodes) (sym same)
        | inr ne ↦ ap (λ (t : Node). t.prefix) (other j lt ne)
      ]

  pub grown-Grows : Grows nodes (grown nodes at key) at key
  unfolding link node more
  grown-Grows = record {
    long = more_long nodes at node link (bare all_inet) inside;
    kept = kept_prefix;
    added = ap (λ (t : Node). t.prefix) last ∙ prefix-over nodes key (child (node_at nodes at) (side key.addr (len_at nodes at)));
    others = λ j b lt ne. ap (λ (t : Node). child t b) (other j lt ne);
    link = ap (λ (t : Node). child t (side key.addr (len_at nodes at))) here ∙ same_child (node_at nodes at) (side key.addr (len_at nodes at)) (length nodes);
    unlinked = λ b ne. ap (λ (t : Node). child t b) here ∙ other_child (node_at nodes at) (side key.addr (len_at nodes at)) b (length nodes) ne;
    under = λ b c e. under_over nodes key (child (node_at nodes at) (side key.addr (len_at nodes at))) b c (ap (λ (t : Node). child t b) (sym last) ∙ e);
    down = λ c e. ap (λ (t : Node). child t (side (prefix_at nodes c).addr key.len)) last ∙ down_over nodes key (child (node_at nodes at) (side key.addr (len_at nodes at))) c e;
  }

pub grown-IsTrie : (nodes : List Node) (at : ℕ) (key : Prefix) → CanGrow nodes at key → IsTrie (grown nodes at key)
grown-IsTrie nodes at key can = grows-IsTrie nodes (grown nodes at key) at key can (grown-Grows nodes at key can.inside)
