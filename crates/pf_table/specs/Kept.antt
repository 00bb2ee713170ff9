-- How a table keeps its entries.
use Rattle.std.specs.Prelude.{◌≡◌, ℕ, List}
use Rattle.std.specs.FinMap as finite
use Rattle.pf_table.specs.declared.node.Node.{Node}
use Rattle.pf_table.specs.Trie.{IsTrie, listed}
use Rattle.pf_table.specs.Table.{Signs, table_of}

-- the table that the nodes stand for
abbrev pub signs_in : List Node → Signs
signs_in nodes = table_of (listed nodes)

pub record IsKept (nodes : List Node) (len : ℕ) : Type 0 where
  pub trie : IsTrie nodes
  pub counted : len ≡ finite.len (signs_in nodes)
