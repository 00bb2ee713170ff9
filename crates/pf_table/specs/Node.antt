-- A node of a trie.
use Rattle.std.specs.Prelude.{ℕ, Bool, true, false, Option, Some, None}
use Rattle.pf_addr.specs.declared.prefix.Prefix.{Prefix}
use Rattle.pf_table.specs.declared.node.Node.{Node}
use Rattle.pf_table.specs.declared.entry.Entry.{Entry}

-- a node with nothing below it
abbrev pub bare : Prefix → Node
bare p = record { prefix = p; negated = None; zero = None; one = None }

-- the number of the node below on this side
abbrev pub child : Node → Bool → Option ℕ
child node true = node.one
child node false = node.zero

-- the node with another one below it on this side
abbrev pub with_child : Node → Bool → ℕ → Node
with_child node true number = record node { one = Some number }
with_child node false number = record node { zero = Some number }

-- the entry that a node stands for
abbrev pub signed : Prefix → Option Bool → Option Entry
signed p None = None
signed p (Some n) = Some (record { prefix = p; negated = n })

abbrev pub entry_of : Node → Option Entry
entry_of node = signed node.prefix node.negated

-- the node with this sign
abbrev pub with_sign : Node → Option Bool → Node
with_sign node sign = record node { negated = sign }
