-- Nodes with the same prefixes and the same links are tries together.
use Rattle.std.proofs.Common.{◌≡◌, ℕ, ◌<◌, Bool, List, length, sym, ap, ◌∙◌, subst, arith}
use Rattle.pf_addr.specs.declared.prefix.Prefix.{Prefix}
use Rattle.pf_table.specs.declared.node.Node.{Node}
use Rattle.pf_table.specs.Bits.{side, Covers, Above}
use Rattle.pf_table.specs.Node.{child}
use Rattle.pf_table.specs.Trie.{IsTrie, HasRoots, node_at, prefix_at, len_at}

module _ (old new : List Node) (long : length new ≡ length old) (prefixes : (j : ℕ) → prefix_at new j ≡ prefix_at old j) (links : (j : ℕ) (b : Bool) → child (node_at new j) b ≡ child (node_at old j) b) where
  above_same : (i j : ℕ) → Above (prefix_at new i) (prefix_at new j) → Above (prefix_at old i) (prefix_at old j)
  above_same i j h = subst (λ (t : Prefix). Above t (prefix_at old j)) (prefixes i) (subst (λ (t : Prefix). Above (prefix_at new i) t) (prefixes j) h)

  above_back : (i j : ℕ) → Above (prefix_at old i) (prefix_at old j) → Above (prefix_at new i) (prefix_at new j)
  above_back i j h = subst (λ (t : Prefix). Above t (prefix_at new j)) (sym (prefixes i)) (subst (λ (t : Prefix). Above (prefix_at old i) t) (sym (prefixes j)) h)

  covers_back : (i j : ℕ) → Covers (prefix_at old i) (prefix_at old j) → Covers (prefix_at new i) (prefix_at new j)
  covers_back i j h = subst (λ (t : Prefix). Covers t (prefix_at new j)) (sym (prefixes i)) (subst (λ (t : Prefix). Covers (prefix_at old i) t) (sym (prefixes j)) h)

  side_same : (i j : ℕ) → side (prefix_at new j).addr (len_at new i) ≡ side (prefix_at old j).addr (len_at old i)
  side_same i j = ap (λ (t : Prefix). side t.addr (len_at new i)) (prefixes j) ∙ ap (λ (t : Prefix). side (prefix_at old j).addr t.len) (prefixes i)

  less : (i : ℕ) → i < length new → i < length old
  less i lt = omega arith

  roots_same : HasRoots old → HasRoots new
  roots_same h = record { two = let a = h.two in omega arith; inet = prefixes 0 ∙ h.inet; inet6 = prefixes 1 ∙ h.inet6 }

  pub same-IsTrie : IsTrie old → IsTrie new
  same-IsTrie trie = record {
    roots = λ some. roots_same (trie.roots (less 0 some));
    links = λ i c b lt e.
        let h = trie.links i c b (less i lt) (sym (links i b) ∙ e) in
        record { inside = let a = h.inside in omega arith; above = above_back i c h.above; way_is = side_same i c ∙ h.way_is };
    ways = λ i j li lj h.
        let w = trie.ways i j (less i li) (less j lj) (above_same i j h) in
        record { next = w.next; is = ap (child (node_at new i)) (side_same i j) ∙ links i _ ∙ w.is; covers = subst (λ (t : Prefix). Covers (prefix_at new w.next) t) (sym (prefixes j)) (subst (λ (t : Prefix). Covers t (prefix_at old j)) (sym (prefixes w.next)) w.covers) };
    once = λ i j li lj e. trie.once i j (less i li) (less j lj) (sym (prefixes i) ∙ e ∙ prefixes j);
  }
