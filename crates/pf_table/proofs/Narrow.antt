-- The walk toward a key, and the last sign met on it.
use Rattle.std.proofs.Common.{◌≡◌, ◌≢◌, ℕ, zero, suc, ◌<◌, Bool, true, false, List, length, Option, Some, None, refl, sym, ap, ◌∙◌, arith, inl, inr, lit<}
use Rattle.std.specs.Option.{option_or}
use Rattle.std.proofs.lemmas.Bool.{cases_lt}
use Rattle.pf_addr.specs.declared.prefix.Prefix.{Prefix}
use Rattle.pf_table.specs.declared.node.Node.{Node}
use Rattle.pf_table.specs.Bits.{Covers}
use Rattle.pf_table.specs.Node.{child}
use Rattle.pf_table.specs.Trie.{IsTrie, IsLast, IsStep, IsSignOf, node_at, prefix_at, len_at, both_roots, all_inet, all_inet6}
use Rattle.pf_table.proofs.Covers.{covers-joint, covers-same}

module _ (nodes : List Node) (key : Prefix) (trie : IsTrie nodes) where
  -- two nodes of one length that cover the key are one
  one_node : (i j : ℕ) → i < length nodes → j < length nodes → Covers (prefix_at nodes i) key → Covers (prefix_at nodes j) key → len_at nodes i ≡ len_at nodes j → i ≡ j
  one_node i j li lj h k e = trie.once i j li lj (covers-same _ _ (covers-joint _ _ _ h k (omega arith)) e)

  first_of : (at : ℕ) → at < length nodes → Covers (prefix_at nodes at) key → len_at nodes at ≡ 0 → (n : Option Bool) → (node_at nodes at).negated ≡ n → IsSignOf nodes key (len_at nodes at) n
  first_of at la h zero_len None is = record {
    none = λ j lj k le. let same = one_node j at lj la k h (omega arith) in ap (λ (t : ℕ). (node_at nodes t).negated) same ∙ is;
  }
  first_of at la h zero_len (Some s) is = record {
    at = at;
    inside = la;
    covers = h;
    is = is;
    longest = λ j lj k le lt. absurd (omega arith);
  }

  pub sign_first : (at : ℕ) → at < length nodes → Covers (prefix_at nodes at) key → len_at nodes at ≡ 0 → IsSignOf nodes key (len_at nodes at) (node_at nodes at).negated
  sign_first at la h zero_len = first_of at la h zero_len (node_at nodes at).negated refl

  step_none : (at c : ℕ) → IsStep nodes at key c → (node_at nodes c).negated ≡ None → (found : Option Bool) → IsSignOf nodes key (len_at nodes at) found → IsSignOf nodes key (len_at nodes c) found
  step_none at c s is None h = record {
    none = λ j lj k le. elim (cases_lt (len_at nodes at) (len_at nodes j)) [
      | inl lt ↦
          let ge = s.next j lj k lt in
          let same = one_node j c lj s.inside k s.covers (omega arith) in
          ap (λ (t : ℕ). (node_at nodes t).negated) same ∙ is
      | inr small ↦ h.none j lj k small
    ];
  }
  step_none at c s is (Some sign) h = record {
    at = h.at;
    inside = h.inside;
    covers = h.covers;
    is = h.is;
    longest = λ j lj k le more. elim (cases_lt (len_at nodes at) (len_at nodes j)) [
      | inl lt ↦
          let ge = s.next j lj k lt in
          let same = one_node j c lj s.inside k s.covers (omega arith) in
          ap (λ (t : ℕ). (node_at nodes t).negated) same ∙ is
      | inr small ↦ h.longest j lj k small more
    ];
  }

  step_of : (at c : ℕ) → IsStep nodes at key c → (n : Option Bool) → (node_at nodes c).negated ≡ n → (found : Option Bool) → IsSignOf nodes key (len_at nodes at) found → IsSignOf nodes key (len_at nodes c) (option_or n found)
  step_of at c s None is found h = step_none at c s is found h
  step_of at c s (Some sign) is found h = record {
    at = c;
    inside = s.inside;
    covers = s.covers;
    is = is;
    longest = λ j lj k le lt. absurd (omega arith);
  }

  pub sign_step : (at c : ℕ) → IsStep nodes at key c → (found : Option Bool) → IsSignOf nodes key (len_at nodes at) found → IsSignOf nodes key (len_at nodes c) (option_or (node_at nodes c).negated found)
  sign_step at c s found h = step_of at c s (node_at nodes c).negated refl found h

  pub sign_end : (at : ℕ) → IsLast nodes at key → (found : Option Bool) → IsSignOf nodes key (len_at nodes at) found → IsSignOf nodes key key.len found
  sign_end at last None h = record { none = λ j lj k le. h.none j lj k (last.longest j lj k) }
  sign_end at last (Some s) h = record {
    at = h.at;
    inside = h.inside;
    covers = h.covers;
    is = h.is;
    longest = λ j lj k le more. h.longest j lj k (last.longest j lj k) more;
  }

-- the two roots alone
root_child : (i : ℕ) (b : Bool) (c : ℕ) → child (node_at both_roots i) b ≢ Some c
root_child zero true c e = cc
root_child zero false c e = cc
root_child (suc zero) true c e = cc
root_child (suc zero) false c e = cc
root_child (suc (suc i)) true c e = cc
root_child (suc (suc i)) false c e = cc

root_len : (i : ℕ) → len_at both_roots i ≡ 0
root_len zero = refl
root_len (suc zero) = refl
root_len (suc (suc i)) = refl

two_families : all_inet ≢ all_inet6
two_families e = let addrs : all_inet.addr ≡ all_inet6.addr = ap (λ (t : Prefix). t.addr) e in cc

root_once : (i j : ℕ) → i < 2 → j < 2 → prefix_at both_roots i ≡ prefix_at both_roots j → i ≡ j
root_once zero zero li lj e = refl
root_once zero (suc zero) li lj e = absurd (two_families e)
root_once (suc zero) zero li lj e = absurd (two_families (sym e))
root_once (suc zero) (suc zero) li lj e = refl
root_once (suc (suc i)) j li lj e = absurd (omega arith)
root_once i (suc (suc j)) li lj e = absurd (omega arith)

pub roots-IsTrie : IsTrie both_roots
roots-IsTrie = record {
  roots = λ _. record { two = lit< tt; inet = refl; inet6 = refl };
  links = λ i c b li e. absurd (root_child i b c e);
  ways = λ i j li lj h. let s = h.shorter in let a = root_len i in let b = root_len j in absurd (omega arith);
  once = λ i j li lj e. root_once i j li lj e;
}
