use Rattle.std.proofs.Common.{◌<◌, length, sym, ap, ◌∙◌, rules, subst, ℕ, Option, Bool}
use Rattle.std.specs.Option.{option_or}
use Rattle.pf_table.specs.declared.node.Node.{Node}
use Rattle.pf_table.specs.Bits.{Covers}
use Rattle.pf_table.specs.Trie.{prefix_at, len_at, IsSignOf, HasRoots}
use Rattle.pf_table.proofs.Ways.{root_covers, root_inside, root_short}
use Rattle.pf_table.proofs.Narrow.{sign_first, sign_step, sign_end}
use Rattle.pf_table.proofs.trie.narrowest.Goals as goal

pub loop-below-init : goal.loop-below-init
loop-below-init c =
    let some : 0 < length c.args.nodes.now = search rules in
    let roots : HasRoots c.args.nodes.now = c.requires.roots some in
    let inside : c.root-at.result < length c.args.nodes.now = subst (λ (t : ℕ). t < length c.args.nodes.now) (sym c.root-at.ensures.value) (root_inside c.args.nodes.now c.args.key.now.addr roots) in
    let covers : Covers (prefix_at c.args.nodes.now c.root-at.result) c.args.key.now = subst (λ (t : ℕ). Covers (prefix_at c.args.nodes.now t) c.args.key.now) (sym c.root-at.ensures.value) (root_covers c.args.nodes.now c.args.key.now roots c.root-at.ensures.range) in
    record {
      inside = inside;
      covers = covers;
      sign = subst (λ (t : Option Bool). IsSignOf c.args.nodes.now c.args.key.now (len_at c.args.nodes.now c.root-at.result) t) (ap (λ (t : Node). t.negated) (sym c.node.ensures))
          (sign_first c.args.nodes.now c.args.key.now c.requires c.root-at.result inside covers (ap (len_at c.args.nodes.now) c.root-at.ensures.value ∙ root_short c.args.nodes.now c.args.key.now.addr roots));
    }

pub loop-below-preserved : goal.loop-below-preserved
loop-below-preserved c =
    let step = c.in-Some.ensures in
    record {
      inside = step.inside;
      covers = step.covers;
      sign = subst (λ (t : Option Bool). IsSignOf c.args.nodes.now c.args.key.now (len_at c.args.nodes.now c.in-Some.below) t)
          (ap (λ (t : Node). option_or t.negated c.loop-below.found) (sym c.node-in-Some.ensures) ∙ sym c.or-found.ensures)
          (sign_step c.args.nodes.now c.args.key.now c.requires c.loop-below.at c.in-Some.below step c.loop-below.found c.loop-below.invariant.sign);
    }

pub returns : goal.returns
returns c = sign_end c.args.nodes.now c.args.key.now c.requires c.loop-below.at c.in_default.ensures c.loop-below.found c.loop-below.invariant.sign
