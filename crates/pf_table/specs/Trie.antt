-- Two binary tries in one list of nodes.
use Rattle.std.specs.Prelude.{◌≡◌, ◌≢◌, ℕ, ◌<◌, ◌≤◌, Bool, List, [], ◌∷◌, ◌++◌, length, Option, Some, None, slice_index_or, slice_set, refl}
use Rattle.std.specs.List.{filter_map}
use Rattle.pf_addr.specs.declared.addr.Addr.{Addr}
use Rattle.pf_addr.specs.declared.addr.Addr.TheVariants.{V4, V6}
use Rattle.pf_addr.specs.declared.prefix.Prefix.{Prefix}
use Rattle.std.proofs.Common.{lit≤}
use Rattle.pf_table.specs.declared.node.Node.{Node}
use Rattle.pf_table.specs.declared.entry.Entry.{Entry}
use Rattle.pf_table.specs.Bits.{side, Covers, Above}
use Rattle.pf_table.specs.Node.{bare, child, with_child, with_sign, entry_of}

-- all addresses of a family
abbrev pub all_inet : Prefix
all_inet = record { addr = V4 0; len = 0; fits = lit≤ tt; no_host_bits = refl }

abbrev pub all_inet6 : Prefix
all_inet6 = record { addr = V6 0; len = 0; fits = lit≤ tt; no_host_bits = refl }

abbrev pub both_roots : List Node
both_roots = bare all_inet ∷ bare all_inet6 ∷ []

-- the number of the root of an address's family
abbrev pub root_of : Addr → ℕ
root_of (V4 n) = 0
root_of (V6 n) = 1

abbrev pub node_at : List Node → ℕ → Node
node_at nodes i = slice_index_or nodes i (bare all_inet)

abbrev pub prefix_at : List Node → ℕ → Prefix
prefix_at nodes i = (node_at nodes i).prefix

abbrev pub len_at : List Node → ℕ → ℕ
len_at nodes i = (node_at nodes i).prefix.len

-- the entries of the nodes
abbrev pub listed : List Node → List Entry
listed nodes = filter_map entry_of nodes

-- c lies below i on this side
pub record LiesBelow (nodes : List Node) (i : ℕ) (way : Bool) (c : ℕ) : Type 0 where
  pub inside : c < length nodes
  pub above : Above (prefix_at nodes i) (prefix_at nodes c)
  pub way_is : side (prefix_at nodes c).addr (len_at nodes i) ≡ way

-- i has a node below it that covers the prefix
pub record LeadsTo (nodes : List Node) (i : ℕ) (p : Prefix) : Type 0 where
  pub next : ℕ
  pub is : child (node_at nodes i) (side p.addr (len_at nodes i)) ≡ Some next
  pub covers : Covers (prefix_at nodes next) p

pub record HasRoots (nodes : List Node) : Type 0 where
  pub two : 1 < length nodes
  pub inet : prefix_at nodes 0 ≡ all_inet
  pub inet6 : prefix_at nodes 1 ≡ all_inet6

-- each node stands for one prefix; what lies below a node is covered by it, on the side of its next bit;
-- and from each node that covers another one there is a way down to it
pub record IsTrie (nodes : List Node) : Type 0 where
  pub roots : 0 < length nodes → HasRoots nodes
  pub links : (i c : ℕ) (way : Bool) → i < length nodes → child (node_at nodes i) way ≡ Some c → LiesBelow nodes i way c
  pub ways : (i j : ℕ) → i < length nodes → j < length nodes → Above (prefix_at nodes i) (prefix_at nodes j) → LeadsTo nodes i (prefix_at nodes j)
  pub once : (i j : ℕ) → i < length nodes → j < length nodes → prefix_at nodes i ≡ prefix_at nodes j → i ≡ j

-- no node that covers the key is longer than the one at
pub record IsLast (nodes : List Node) (at : ℕ) (key : Prefix) : Type 0 where
  pub longest : (j : ℕ) → j < length nodes → Covers (prefix_at nodes j) key → len_at nodes j ≤ len_at nodes at

-- c covers the key, and no node that covers it lies between
pub record IsStep (nodes : List Node) (at : ℕ) (key : Prefix) (c : ℕ) : Type 0 where
  pub inside : c < length nodes
  pub longer : len_at nodes at < len_at nodes c
  pub covers : Covers (prefix_at nodes c) key
  pub next : (j : ℕ) → j < length nodes → Covers (prefix_at nodes j) key → len_at nodes at < len_at nodes j → len_at nodes c ≤ len_at nodes j

abbrev pub IsNext : List Node → ℕ → Prefix → Option ℕ → Type 0
IsNext nodes at key None = IsLast nodes at key
IsNext nodes at key (Some c) = IsStep nodes at key c

pub record IsDeepest (nodes : List Node) (key : Prefix) (at : ℕ) : Type 0 where
  pub inside : at < length nodes
  pub covers : Covers (prefix_at nodes at) key
  pub last : IsLast nodes at key

pub record IsHeldAt (nodes : List Node) (key : Prefix) (at : ℕ) : Type 0 where
  pub inside : at < length nodes
  pub here : prefix_at nodes at ≡ key

pub record IsAbsent (nodes : List Node) (key : Prefix) : Type 0 where
  pub nowhere : (j : ℕ) → j < length nodes → prefix_at nodes j ≢ key

-- a node of the key has its place below at
pub record CanGrow (nodes : List Node) (at : ℕ) (key : Prefix) : Type 0 where
  pub trie : IsTrie nodes
  pub inside : at < length nodes
  pub above : Above (prefix_at nodes at) key
  pub absent : IsAbsent nodes key
  pub below : (c : ℕ) → child (node_at nodes at) (side key.addr (len_at nodes at)) ≡ Some c → Above key (prefix_at nodes c)

-- a node of the key, above what is there
abbrev pub over : List Node → Prefix → Option ℕ → Node
over nodes key None = bare key
over nodes key (Some c) = with_child (bare key) (side (prefix_at nodes c).addr key.len) c

-- the nodes with one of the key below at
abbrev pub grown : List Node → ℕ → Prefix → List Node
grown nodes at key =
    let way = side key.addr (len_at nodes at) in
    slice_set (nodes ++ over nodes key (child (node_at nodes at) way) ∷ []) at (with_child (node_at nodes at) way (length nodes))

-- the nodes with this sign at one of them
abbrev pub resigned : List Node → ℕ → Option Bool → List Node
resigned nodes at sign = slice_set nodes at (with_sign (node_at nodes at) sign)

-- the node of the key, or that it has none
abbrev pub IsFound : List Node → Prefix → Option ℕ → Type 0
IsFound nodes key None = IsAbsent nodes key
IsFound nodes key (Some at) = IsHeldAt nodes key at

-- no node of at most so many bits that covers the key has a sign
pub record NoSign (nodes : List Node) (key : Prefix) (bound : ℕ) : Type 0 where
  pub none : (j : ℕ) → j < length nodes → Covers (prefix_at nodes j) key → len_at nodes j ≤ bound → (node_at nodes j).negated ≡ None

-- the longest of those that have one has this sign
pub record HasSign (nodes : List Node) (key : Prefix) (bound : ℕ) (sign : Bool) : Type 0 where
  pub at : ℕ
  pub inside : at < length nodes
  pub covers : Covers (prefix_at nodes at) key
  pub is : (node_at nodes at).negated ≡ Some sign
  pub longest : (j : ℕ) → j < length nodes → Covers (prefix_at nodes j) key → len_at nodes j ≤ bound → len_at nodes at < len_at nodes j → (node_at nodes j).negated ≡ None

abbrev pub IsSignOf : List Node → Prefix → ℕ → Option Bool → Type 0
IsSignOf nodes key bound None = NoSign nodes key bound
IsSignOf nodes key bound (Some sign) = HasSign nodes key bound sign
