use Rattle.std.proofs.Common.{◌≡◌, Some, None, sym, ap, ◌∙◌}
use Rattle.std.specs.Prelude.{Bool}
use Rattle.std.specs.FinMap as finite
use Rattle.std.proofs.lemmas.List.{get_or_default}
use Rattle.pf_base.specs.OrderedMap.{map_laws_hold}
use Rattle.pf_addr.specs.PrefixOrder.{prefix_cmp-total}
use Rattle.pf_table.specs.Node.{bare}
use Rattle.pf_table.specs.Trie.{node_at, all_inet}
use Rattle.pf_table.specs.Table.{Signs}
use Rattle.pf_table.proofs.Signs.{antisymmetric}
use Rattle.pf_table.proofs.Changes.{signs_more}
use Rattle.pf_table.proofs.trie.signs.Goals as goal
use Rattle.pf_table.proofs.trie.signs.Goals.{in-Some+in_ok-insert, in_default}

pub loop-node-preserved : goal.loop-node-preserved
loop-node-preserved c =
    let laws = map_laws_hold prefix_cmp-total antisymmetric Bool in
    let i = c.loop-node.node-index in
    let item : c.node-item.result ≡ node_at c.args.nodes.now i = c.node-item.is ∙ get_or_default c.args.nodes.now i c.node-item.result (bare all_inet) c.loop-node-test.true in
    elim c.match-node.branch [
      | in-Some+in_ok-insert w ↦
          rw w.signs-is (laws.inserted c.loop-node.signs w.insert.new.self c.node-item.result.prefix w.in-Some.negated w.in_ok-insert.ensures.updates
          ∙ ap (λ (m : Signs). finite.insert m c.node-item.result.prefix w.in-Some.negated) c.loop-node.invariant
          ∙ sym (signs_more c.args.nodes.now i c.node-item.result c.requires c.loop-node-test.true item (Some w.in-Some.negated) w.in-Some.is))
      | in_default w ↦
          rw w.signs-is (c.loop-node.invariant
          ∙ sym (signs_more c.args.nodes.now i c.node-item.result c.requires c.loop-node-test.true item None w.in_default.is))
    ]
