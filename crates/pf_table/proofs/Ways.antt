-- Steps down a trie toward a key, and where a node of the key has its place.
use Rattle.std.proofs.Common.{◌≡◌, ◌≢◌, ℕ, ◌<◌, ◌≤◌, Bool, List, [], ◌∷◌, length, Option, Some, None, refl, sym, ap, ◌∙◌, subst, arith, inl, inr}
use Rattle.std.proofs.lemmas.Bool.{cases_lt}
use Rattle.pf_addr.specs.declared.addr.Addr.{Addr}
use Rattle.pf_addr.specs.declared.addr.Addr.TheVariants.{V4, V6}
use Rattle.pf_addr.specs.declared.prefix.Prefix.{Prefix}
use Rattle.pf_addr.specs.Addr.{width, leading, IsAddr}
use Rattle.pf_table.specs.declared.node.Node.{Node}
use Rattle.pf_table.specs.Bits.{side, Covers, Above, IsShared, IsFront}
use Rattle.pf_table.specs.Node.{bare, child}
use Rattle.pf_addr.specs.PrefixOrder.{Prefix-same}
use Rattle.pf_table.specs.Trie.{IsTrie, HasRoots, LiesBelow, LeadsTo, CanGrow, IsAbsent, IsLast, IsStep, IsDeepest, IsHeldAt, node_at, prefix_at, len_at, grown, root_of, all_inet, all_inet6, both_roots}
use Rattle.pf_table.proofs.Leading.{leading-none}
use Rattle.pf_table.proofs.Covers.{covers-itself, covers-trans, above-joint, covers-same, covers-side}
use Rattle.pf_table.proofs.Grown.{grown-Grows, grown-IsTrie}

some_is : (a b : ℕ) → ◌≡◌ {A = Option ℕ} (Some a) (Some b) → a ≡ b
some_is a b e = cc

not_some : (a : ℕ) → ◌≢◌ {A = Option ℕ} None (Some a)
not_some a e = cc

module _ (nodes : List Node) (at : ℕ) (key : Prefix) (trie : IsTrie nodes) (inside : at < length nodes) (covers : Covers (prefix_at nodes at) key) where
  -- a longer node that covers the key lies on the side of the key
  toward : (j : ℕ) → j < length nodes → Covers (prefix_at nodes j) key → len_at nodes at < len_at nodes j → LeadsTo nodes at (prefix_at nodes j)
  toward j lj h lt = trie.ways at j inside lj (above-joint _ _ _ covers h lt)

  turned : (j : ℕ) → Covers (prefix_at nodes j) key → len_at nodes at < len_at nodes j → side key.addr (len_at nodes at) ≡ side (prefix_at nodes j).addr (len_at nodes at)
  turned j h lt = sym (covers-side (prefix_at nodes j) key (len_at nodes at) h lt)

  pub last_at_end : (prefix_at nodes at).len ≡ key.len → IsLast nodes at key
  last_at_end e = record { longest = λ j lj h. let s = h.short in omega arith }

  pub last_alone : child (node_at nodes at) (side key.addr (len_at nodes at)) ≡ None → IsLast nodes at key
  last_alone none = record {
    longest = λ j lj h. elim (cases_lt (len_at nodes at) (len_at nodes j)) [
      | inl lt ↦
          let w = toward j lj h lt in
          absurd (not_some w.next (sym none ∙ ap (child (node_at nodes at)) (turned j h lt) ∙ w.is))
      | inr le ↦ le
    ];
  }

  module _ (c : ℕ) (link : child (node_at nodes at) (side key.addr (len_at nodes at)) ≡ Some c) where
    pub below_inside : c < length nodes
    below_inside = let low = trie.links at c _ inside link in low.inside

    found : (j : ℕ) → j < length nodes → Covers (prefix_at nodes j) key → len_at nodes at < len_at nodes j → Covers (prefix_at nodes c) (prefix_at nodes j)
    found j lj h lt =
        let w = toward j lj h lt in
        let same : w.next ≡ c = some_is _ _ (sym w.is ∙ sym (ap (child (node_at nodes at)) (turned j h lt)) ∙ link) in
        subst (λ (t : ℕ). Covers (prefix_at nodes t) (prefix_at nodes j)) same w.covers

    pub last_apart : (Covers (prefix_at nodes c) key → ⊥) → IsLast nodes at key
    last_apart apart = record {
      longest = λ j lj h. elim (cases_lt (len_at nodes at) (len_at nodes j)) [
        | inl lt ↦ absurd (apart (covers-trans _ _ _ (found j lj h lt) h))
        | inr le ↦ le
      ];
    }

    pub step_to : Covers (prefix_at nodes c) key → IsStep nodes at key c
    step_to h =
        let low = trie.links at c _ inside link in
        record {
          inside = low.inside;
          longer = let a = low.above in a.shorter;
          covers = h;
          next = λ j lj k lt. let over = found j lj k lt in over.short;
        }

-- a node of the key has its place below the last that covers it, where nothing lies there
absent_below : (nodes : List Node) (key : Prefix) (at : ℕ) → IsDeepest nodes key at → (p : Prefix) → Covers p key → len_at nodes at < p.len → IsAbsent nodes p
absent_below nodes key at d p h lt = record {
  nowhere = λ j lj e.
      let over : Covers (prefix_at nodes j) key = subst (λ (t : Prefix). Covers t key) (sym e) h in
      let top = d.last in
      let le : len_at nodes j ≤ len_at nodes at = top.longest j lj over in
      let same : len_at nodes j ≡ p.len = ap (λ (t : Prefix). t.len) e in
      absurd (omega arith);
}

pub held_grown : (nodes : List Node) (at : ℕ) (key : Prefix) → CanGrow nodes at key → IsHeldAt (grown nodes at key) key (length nodes)
held_grown nodes at key can =
    let g = grown-Grows nodes at key can.inside in
    record { inside = let l = g.long in omega arith; here = g.added }

module _ (nodes : List Node) (key : Prefix) (at below : ℕ) (trie : IsTrie nodes) (d : IsDeepest nodes key at) (lt : len_at nodes at < key.len)
    (link : child (node_at nodes at) (side key.addr (len_at nodes at)) ≡ Some below) where
  low : LiesBelow nodes at (side key.addr (len_at nodes at)) below
  low = trie.links at below _ d.inside link

  pub fork_below : below < length nodes
  fork_below = let l = low in l.inside

  pub fork_family : width key.addr ≡ width (prefix_at nodes below).addr
  fork_family = let l = low in let a = l.above in let o = a.over in let c = d.covers in sym c.family ∙ o.family

  pub fork_in_other : len_at nodes at ≤ len_at nodes below
  fork_in_other = let l = low in let a = l.above in let s = a.shorter in omega arith

  pub fork_known : leading key.addr (len_at nodes at) ≡ leading (prefix_at nodes below).addr (len_at nodes at)
  fork_known = let l = low in let a = l.above in let o = a.over in let c = d.covers in sym c.bits ∙ o.bits

  module _ (len : ℕ) (f : Prefix) (s : IsShared key (prefix_at nodes below) (len_at nodes at) len) (front : IsFront f key len) where
    longer : len_at nodes at < len
    longer = elim (cases_lt (len_at nodes at) len) [
      | inl l ↦ l
      | inr le ↦
          let b = low in let a = b.above in let more = a.shorter in
          let known = s.known in
          let same : len ≡ len_at nodes at = omega arith in
          absurd (s.apart (omega arith) (omega arith) (ap (side key.addr) same ∙ sym b.way_is ∙ sym (ap (side (prefix_at nodes below).addr) same)))
    ]

    front-key : Covers f key
    front-key = record {
      family = front.family;
      short = let a = front.long in let b = s.in_first in omega arith;
      bits = subst (λ (t : ℕ). leading f.addr t ≡ leading key.addr t) (sym front.long) front.bits;
    }

    front-other : Covers f (prefix_at nodes below)
    front-other = record {
      family = front.family ∙ fork_family;
      short = let a = front.long in let b = s.in_second in omega arith;
      bits = subst (λ (t : ℕ). leading f.addr t ≡ leading (prefix_at nodes below).addr t) (sym front.long) (front.bits ∙ s.same);
    }

    -- the other node does not cover the key
    other_apart : Covers (prefix_at nodes below) key → ⊥
    other_apart h =
        let l = low in let a = l.above in let more = a.shorter in
        let top = d.last in
        let le : len_at nodes below ≤ len_at nodes at = top.longest below l.inside h in
        absurd (omega arith)

    len_below : len < len_at nodes below
    len_below = elim (cases_lt len (len_at nodes below)) [
      | inl l ↦ l
      | inr le ↦
          let b = s.in_second in let a = front.long in
          let same : f.len ≡ len_at nodes below = omega arith in
          absurd (other_apart (subst (λ (t : Prefix). Covers t key) (covers-same f (prefix_at nodes below) front-other same) front-key))
    ]

    above_front : Above (prefix_at nodes at) f
    above_front = above-joint _ _ _ d.covers front-key (let a = front.long in let b = longer in omega arith)

    pub fork_first : CanGrow nodes at f
    fork_first = record {
      trie = trie;
      inside = d.inside;
      above = above_front;
      absent = absent_below nodes key at d f front-key (let a = front.long in let b = longer in omega arith);
      below = λ c e.
          let turn : side key.addr (len_at nodes at) ≡ side f.addr (len_at nodes at) = sym (covers-side f key (len_at nodes at) front-key (let a = front.long in let b = longer in omega arith)) in
          let is : below ≡ c = some_is _ _ (sym link ∙ ap (child (node_at nodes at)) turn ∙ e) in
          let more : f.len < len_at nodes below = let a = front.long in let b = len_below in omega arith in
          let over : Above f (prefix_at nodes below) = record { over = front-other; shorter = more } in
          subst (λ (t : ℕ). Above f (prefix_at nodes t)) is over;
    }

    pub fork_here : len ≡ key.len → IsHeldAt (grown nodes at f) key (length nodes)
    fork_here e =
        let same : f ≡ key = covers-same f key front-key (front.long ∙ e) in
        subst (λ (t : Prefix). IsHeldAt (grown nodes at f) t (length nodes)) same (held_grown nodes at f fork_first)

    pub fork_second : len ≢ key.len → CanGrow (grown nodes at f) (length nodes) key
    fork_second ne =
        let g = grown-Grows nodes at f d.inside in
        let more : f.len < key.len = let a = front.long in let b = s.in_first in omega arith in
        record {
          trie = grown-IsTrie nodes at f fork_first;
          inside = let l = g.long in omega arith;
          above = subst (λ (t : Prefix). Above t key) (sym g.added) (let over : Above f key = record { over = front-key; shorter = more } in over);
          absent = record {
            nowhere = λ j lj e. elim (cases_lt j (length nodes)) [
              | inl old ↦
                  let gone = absent_below nodes key at d key (covers-itself key) lt in
                  gone.nowhere j old (sym (g.kept j old) ∙ e)
              | inr le ↦
                  let is : j ≡ length nodes = let l = g.long in omega arith in
                  let same : f ≡ key = sym g.added ∙ ap (prefix_at (grown nodes at f)) (sym is) ∙ e in
                  ne (sym front.long ∙ ap (λ (t : Prefix). t.len) same)
            ];
          };
          below = λ c e.
              let both = g.under (side key.addr (len_at (grown nodes at f) (length nodes))) c e in
              let turn : side key.addr (len_at nodes at) ≡ side f.addr (len_at nodes at) = sym (covers-side f key (len_at nodes at) front-key (let a = front.long in let b = longer in omega arith)) in
              let is : below ≡ c = some_is _ _ (sym link ∙ ap (child (node_at nodes at)) turn ∙ both.0) in
              let here : len_at (grown nodes at f) (length nodes) ≡ len = ap (λ (t : Prefix). t.len) g.added ∙ front.long in
              let same : side key.addr len ≡ side (prefix_at nodes below).addr len =
              sym (ap (side key.addr) here) ∙ both.1 ∙ ap (side (prefix_at nodes c).addr) front.long ∙ ap (λ (t : ℕ). side (prefix_at nodes t).addr len) (sym is) in
              absurd (s.apart (let a = front.long in omega arith) len_below same);
        }

-- what a root is to an address of its family
record IsRootOf (p : Prefix) (a : Addr) : Type 0 where
  family : width p.addr ≡ width a
  short : p.len ≡ 0
  none : leading p.addr 0 ≡ 0

root_is : (nodes : List Node) → HasRoots nodes → (a : Addr) → IsRootOf (prefix_at nodes (root_of a)) a
root_is nodes h (V4 n) = subst (λ (t : Prefix). IsRootOf t (V4 n)) (sym h.inet) (record { family = refl; short = refl; none = refl })
root_is nodes h (V6 n) = subst (λ (t : Prefix). IsRootOf t (V6 n)) (sym h.inet6) (record { family = refl; short = refl; none = refl })

pub root_covers : (nodes : List Node) (key : Prefix) → HasRoots nodes → IsAddr key.addr → Covers (prefix_at nodes (root_of key.addr)) key
root_covers nodes key h range =
    let root = root_is nodes h key.addr in
    record {
      family = root.family;
      short = let a = root.short in omega arith;
      bits = subst (λ (t : ℕ). leading (prefix_at nodes (root_of key.addr)).addr t ≡ leading key.addr t) (sym root.short) (root.none ∙ sym (leading-none key.addr range));
    }

pub root_inside : (nodes : List Node) (a : Addr) → HasRoots nodes → root_of a < length nodes
root_inside nodes (V4 n) h = let two = h.two in omega arith
root_inside nodes (V6 n) h = h.two

-- what a node answers of what lies below it
pub link_is : (nodes : List Node) (at : ℕ) (key : Prefix) (node : Node) (b : Bool) (r o : Option ℕ) → node ≡ node_at nodes at → b ≡ side key.addr node.prefix.len → r ≡ child node b → r ≡ o → child (node_at nodes at) (side key.addr (len_at nodes at)) ≡ o
link_is nodes at key node b r o e f g h = ap (λ (t : Node). child t (side key.addr t.prefix.len)) (sym e) ∙ ap (child node) (sym f) ∙ sym g ∙ h

pub at_is : (nodes xs : List Node) (i : ℕ) (node : Node) → node ≡ node_at xs i → xs ≡ nodes → node ≡ node_at nodes i
at_is nodes xs i node e f = e ∙ ap (λ (t : List Node). node_at t i) f

pub shared_as : (key p q : Prefix) (m n len : ℕ) → p ≡ q → m ≡ n → IsShared key p m len → IsShared key q n len
shared_as key p q m n len e f h = subst (λ (t : Prefix). IsShared key t n len) e (subst (λ (t : ℕ). IsShared key p t len) f h)

-- the two nodes that each table begins with
pub roots_are : (p q : Prefix) → p.addr ≡ V4 0 → p.len ≡ 0 → q.addr ≡ V6 0 → q.len ≡ 0 → bare p ∷ bare q ∷ [] ≡ both_roots
roots_are p q e f g h = ap (λ (t : Prefix). bare t ∷ bare q ∷ []) (Prefix-same p all_inet e f) ∙ ap (λ (t : Prefix). bare all_inet ∷ bare t ∷ []) (Prefix-same q all_inet6 g h)

-- what lies on the side of the key stands among the nodes
pub grow_below : (nodes xs : List Node) (at : ℕ) (key : Prefix) (node : Node) → CanGrow nodes at key → node ≡ node_at nodes at → xs ≡ nodes → (c : ℕ) → child node (side key.addr node.prefix.len) ≡ Some c → c < length xs
grow_below nodes xs at key node can e f c link =
    let is : child (node_at nodes at) (side key.addr (len_at nodes at)) ≡ Some c = ap (λ (t : Node). child t (side key.addr t.prefix.len)) (sym e) ∙ link in
    subst (λ (t : List Node). c < length t) (sym f) (below_inside nodes at key can.trie can.inside can.above.over c is)

pub root_short : (nodes : List Node) (a : Addr) → HasRoots nodes → len_at nodes (root_of a) ≡ 0
root_short nodes a h = let r = root_is nodes h a in r.short
