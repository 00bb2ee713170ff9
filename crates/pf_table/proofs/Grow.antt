-- A node that is put in between keeps the tries.
use Rattle.std.proofs.Common.{◌≡◌, ◌≢◌, ℕ, ◌+◌, ◌<◌, Bool, List, length, Option, Some, refl, sym, ap, ◌∙◌, subst, arith, inl, inr, ◌⊎◌}
use Rattle.std.proofs.lemmas.Bool.{cases_lt, cases_eq}
use Rattle.pf_addr.specs.declared.prefix.Prefix.{Prefix}
use Rattle.pf_table.specs.declared.node.Node.{Node}
use Rattle.pf_table.specs.Bits.{side, Covers, Above}
use Rattle.pf_table.specs.Node.{child}
use Rattle.pf_table.specs.Trie.{IsTrie, HasRoots, LiesBelow, LeadsTo, CanGrow, node_at, prefix_at, len_at}
use Rattle.pf_table.proofs.Bools.{bool_cases}
use Rattle.pf_table.proofs.Covers.{covers-itself, covers-trans, covers-joint, above-joint, covers-same, covers-side}

above_as : (p p' q q' : Prefix) → p ≡ p' → q ≡ q' → Above p' q' → Above p q
above_as p p' q q' e f h = subst (λ (t : Prefix). Above t q) (sym e) (subst (λ (t : Prefix). Above p' t) (sym f) h)

covers_as : (p p' q q' : Prefix) → p ≡ p' → q ≡ q' → Covers p' q' → Covers p q
covers_as p p' q q' e f h = subst (λ (t : Prefix). Covers t q) (sym e) (subst (λ (t : Prefix). Covers p' t) (sym f) h)

side_as : (p p' q q' : Prefix) → p ≡ p' → q ≡ q' → side p.addr q.len ≡ side p'.addr q'.len
side_as p p' q q' e f = ap (λ (t : Prefix). side t.addr q.len) e ∙ ap (λ (t : Prefix). side p'.addr t.len) f

above-trans : (p q r : Prefix) → Above p q → Covers q r → Above p r
above-trans p q r h k = record { over = covers-trans p q r h.over k; shorter = let a = h.shorter in let b = k.short in omega arith }

same_number : (a b : ℕ) → ◌≡◌ {A = Option ℕ} (Some a) (Some b) → a ≡ b
same_number a b e = cc

-- what a node put in below `at` leaves of the others
pub record Grows (old new : List Node) (at : ℕ) (key : Prefix) : Type 0 where
  pub long : length new ≡ length old + 1
  pub kept : (j : ℕ) → j < length old → prefix_at new j ≡ prefix_at old j
  pub added : prefix_at new (length old) ≡ key
  pub others : (j : ℕ) (b : Bool) → j < length old → j ≢ at → child (node_at new j) b ≡ child (node_at old j) b
  pub link : child (node_at new at) (side key.addr (len_at old at)) ≡ Some (length old)
  pub unlinked : (b : Bool) → b ≢ side key.addr (len_at old at) → child (node_at new at) b ≡ child (node_at old at) b
  pub under : (b : Bool) (c : ℕ) → child (node_at new (length old)) b ≡ Some c → (child (node_at old at) (side key.addr (len_at old at)) ≡ Some c) × (b ≡ side (prefix_at old c).addr key.len)
  pub down : (c : ℕ) → child (node_at old at) (side key.addr (len_at old at)) ≡ Some c → child (node_at new (length old)) (side (prefix_at old c).addr key.len) ≡ Some c

module _ (old new : List Node) (at : ℕ) (key : Prefix) (can : CanGrow old at key) (g : Grows old new at key) where
  n : ℕ
  n = length old

  -- what lay below a node lies below it still
  lift : (i c : ℕ) (b : Bool) → i < length old → LiesBelow old i b c → LiesBelow new i b c
  lift i c b lt h = record {
    inside = let a = h.inside in let l = g.long in omega arith;
    above = above_as _ _ _ _ (g.kept i lt) (g.kept c h.inside) h.above;
    way_is = side_as _ _ _ _ (g.kept c h.inside) (g.kept i lt) ∙ h.way_is;
  }

  links_old : (i c : ℕ) (b : Bool) → i < length old → child (node_at new i) b ≡ Some c → LiesBelow new i b c
  links_old i c b lt e =
      elim (cases_eq i at) [
        | inl here ↦ elim (bool_cases b (side key.addr (len_at old at))) [
          | inl way ↦
              let at_link : child (node_at new at) (side key.addr (len_at old at)) ≡ Some c = subst (λ (t : ℕ). child (node_at new t) (side key.addr (len_at old at)) ≡ Some c) here (subst (λ (t : Bool). child (node_at new i) t ≡ Some c) way e) in
              let c_is : length old ≡ c = same_number _ _ (sym g.link ∙ at_link) in
              let from : prefix_at new i ≡ prefix_at old at = g.kept i lt ∙ ap (prefix_at old) here in
              let to : prefix_at new c ≡ key = ap (prefix_at new) (sym c_is) ∙ g.added in
              record {
                inside = let l = g.long in omega arith;
                above = above_as _ _ _ _ from to can.above;
                way_is = side_as _ _ _ _ to from ∙ sym way;
              }
          | inr other ↦ lift i c b lt (can.trie.links i c b lt (ap (λ (t : ℕ). child (node_at old t) b) here ∙ sym (g.unlinked b other) ∙ sym (ap (λ (t : ℕ). child (node_at new t) b) here) ∙ e))
        ]
        | inr away ↦ lift i c b lt (can.trie.links i c b lt (sym (g.others i b lt away) ∙ e))
      ]

  links_new : (i c : ℕ) (b : Bool) → i ≡ length old → child (node_at new i) b ≡ Some c → LiesBelow new i b c
  links_new i c b is e =
      let both = g.under b c (ap (λ (t : ℕ). child (node_at new t) b) (sym is) ∙ e) in
      let low = can.trie.links at c _ can.inside both.0 in
      let from : prefix_at new i ≡ key = ap (prefix_at new) is ∙ g.added in
      record {
        inside = let a = low.inside in let l = g.long in omega arith;
        above = above_as _ _ _ _ from (g.kept c low.inside) (can.below c both.0);
        way_is = side_as _ _ _ _ (g.kept c low.inside) from ∙ sym both.1;
      }

  ways_old : (i j : ℕ) → i < length old → j < length old → Above (prefix_at new i) (prefix_at new j) → LeadsTo new i (prefix_at new j)
  ways_old i j li lj h =
      let over : Above (prefix_at old i) (prefix_at old j) = above_as _ _ _ _ (sym (g.kept i li)) (sym (g.kept j lj)) h in
      let w = can.trie.ways i j li lj over in
      let low = can.trie.links i w.next _ li w.is in
      let turn : side (prefix_at new j).addr (len_at new i) ≡ side (prefix_at old j).addr (len_at old i) = side_as _ _ _ _ (g.kept j lj) (g.kept i li) in
      let same : Covers (prefix_at new w.next) (prefix_at new j) = covers_as _ _ _ _ (g.kept w.next low.inside) (g.kept j lj) w.covers in
      elim (cases_eq i at) [
        | inl here ↦ elim (bool_cases (side (prefix_at old j).addr (len_at old i)) (side key.addr (len_at old at))) [
          | inl way ↦
              let at_link : child (node_at old at) (side key.addr (len_at old at)) ≡ Some w.next = subst (λ (t : ℕ). child (node_at old t) (side key.addr (len_at old at)) ≡ Some w.next) here (subst (λ (t : Bool). child (node_at old i) t ≡ Some w.next) way w.is) in
              record {
                next = length old;
                is = ap (λ (t : ℕ). child (node_at new t) (side (prefix_at new j).addr (len_at new i))) here ∙ ap (child (node_at new at)) (turn ∙ way) ∙ g.link;
                covers = covers_as _ _ _ _ g.added (g.kept j lj) (covers-trans _ _ _ (can.below w.next at_link).over w.covers);
              }
          | inr other ↦ record {
            next = w.next;
            is = ap (λ (t : ℕ). child (node_at new t) (side (prefix_at new j).addr (len_at new i))) here ∙ ap (child (node_at new at)) turn ∙ g.unlinked _ other ∙ sym (ap (λ (t : ℕ). child (node_at old t) (side (prefix_at old j).addr (len_at old i))) here) ∙ w.is;
            covers = same;
          }
        ]
        | inr away ↦ record {
          next = w.next;
          is = ap (child (node_at new i)) turn ∙ g.others i _ li away ∙ w.is;
          covers = same;
        }
      ]

  -- a node that covers the key leads to it
  ways_key : (i : ℕ) → i < length old → Above (prefix_at old i) key → LeadsTo new i key
  ways_key i li h =
      let turn : side key.addr (len_at new i) ≡ side key.addr (len_at old i) = side_as key key _ _ refl (g.kept i li) in
      elim (cases_eq i at) [
        | inl here ↦ record {
          next = length old;
          is = ap (child (node_at new i)) (turn ∙ ap (λ (t : ℕ). side key.addr (len_at old t)) here) ∙ ap (λ (t : ℕ). child (node_at new t) (side key.addr (len_at old at))) here ∙ g.link;
          covers = covers_as _ _ _ _ g.added refl (covers-itself key);
        }
        | inr away ↦ elim (cases_lt (len_at old i) (len_at old at)) [
          | inl shorter ↦
              let w = can.trie.ways i at li can.inside (above-joint _ _ _ h.over can.above.over shorter) in
              let low = can.trie.links i w.next _ li w.is in
              record {
                next = w.next;
                is = ap (child (node_at new i)) (turn ∙ sym (covers-side (prefix_at old at) key (len_at old i) can.above.over shorter)) ∙ g.others i _ li away ∙ w.is;
                covers = covers_as _ _ _ _ (g.kept w.next low.inside) refl (covers-trans _ _ _ w.covers can.above.over);
              }
          | inr le ↦ elim (cases_lt (len_at old at) (len_at old i)) [
            | inl longer ↦
                let w = can.trie.ways at i can.inside li (above-joint _ _ _ can.above.over h.over longer) in
                let below = can.below w.next (ap (child (node_at old at)) (sym (covers-side (prefix_at old i) key (len_at old at) h.over longer)) ∙ w.is) in
                let a = below.shorter in let b = w.covers in let d = b.short in let f = h.shorter in
                absurd (omega arith)
            | inr ge ↦
                let same_len : len_at old at ≡ len_at old i = omega arith in
                absurd (away (can.trie.once i at li can.inside (sym (covers-same _ _ (covers-joint _ _ _ can.above.over h.over le) same_len))))
          ]
        ]
      ]

  -- the new node leads to what it covers
  ways_new : (j : ℕ) → j < length old → Above key (prefix_at old j) → LeadsTo new (length old) (prefix_at new j)
  ways_new j lj h =
      let w = can.trie.ways at j can.inside lj (above-trans _ _ _ can.above h.over) in
      let old_link : child (node_at old at) (side key.addr (len_at old at)) ≡ Some w.next = ap (child (node_at old at)) (covers-side key (prefix_at old j) (len_at old at) h.over can.above.shorter) ∙ w.is in
      let below = can.below w.next old_link in
      let low = can.trie.links at w.next _ can.inside old_link in
      let turn : side (prefix_at new j).addr (len_at new (length old)) ≡ side (prefix_at old w.next).addr key.len =
      side_as _ _ _ _ (g.kept j lj) g.added ∙ sym (covers-side (prefix_at old w.next) (prefix_at old j) key.len w.covers below.shorter) in
      record {
        next = w.next;
        is = ap (child (node_at new (length old))) turn ∙ g.down w.next old_link;
        covers = covers_as _ _ _ _ (g.kept w.next low.inside) (g.kept j lj) w.covers;
      }

  last_or_old : (i : ℕ) → i < length new → (i < length old) ⊎ (i ≡ length old)
  last_or_old i lt = elim (cases_lt i (length old)) [ inl l ↦ inl l | inr le ↦ inr (let l = g.long in omega arith) ]

  roots_kept : HasRoots old → HasRoots new
  roots_kept h = record {
    two = let a = h.two in let l = g.long in omega arith;
    inet = g.kept 0 (let a = h.two in omega arith) ∙ h.inet;
    inet6 = g.kept 1 h.two ∙ h.inet6;
  }

  pub grows-IsTrie : IsTrie new
  grows-IsTrie = record {
    roots = λ _. roots_kept (can.trie.roots (let a = can.inside in omega arith));
    links = λ i c b lt e. elim (last_or_old i lt) [ inl li ↦ links_old i c b li e | inr is ↦ links_new i c b is e ];
    ways = λ i j li lj h. elim (last_or_old i li) [
      | inl io ↦ elim (last_or_old j lj) [
        | inl jo ↦ ways_old i j io jo h
        | inr ji ↦
            let to : prefix_at new j ≡ key = ap (prefix_at new) ji ∙ g.added in
            subst (λ (t : Prefix). LeadsTo new i t) (sym to) (ways_key i io (above_as _ _ _ _ (sym (g.kept i io)) (sym to) h))
      ]
      | inr ii ↦ elim (last_or_old j lj) [
        | inl jo ↦ subst (λ (t : ℕ). LeadsTo new t (prefix_at new j)) (sym ii) (ways_new j jo (above_as _ _ _ _ (sym g.added ∙ ap (prefix_at new) (sym ii)) (sym (g.kept j jo)) h))
        | inr ji ↦
            let same : len_at new i ≡ len_at new j = ap (len_at new) (ii ∙ sym ji) in
            let a = h.shorter in absurd (omega arith)
      ]
    ];
    once = λ i j li lj e. elim (last_or_old i li) [
      | inl io ↦ elim (last_or_old j lj) [
        | inl jo ↦ can.trie.once i j io jo (sym (g.kept i io) ∙ e ∙ g.kept j jo)
        | inr ji ↦ absurd (can.absent.nowhere i io (sym (g.kept i io) ∙ e ∙ ap (prefix_at new) ji ∙ g.added))
      ]
      | inr ii ↦ elim (last_or_old j lj) [
        | inl jo ↦ absurd (can.absent.nowhere j jo (sym (g.kept j jo) ∙ sym e ∙ ap (prefix_at new) ii ∙ g.added))
        | inr ji ↦ ii ∙ sym ji
      ]
    ];
  }
