use Rattle.std.proofs.Common.{◌≡◌, ◌+◌, ℕ, subst, sym, arith, length}
use Rattle.pf_calls.specs.Links.{IsLinked}
use Rattle.pf_calls.proofs.Linked.{links_copy, links_inside, links_more}
use Rattle.pf_calls.proofs.links.links.Goals as goal

pub loop-row-preserved : goal.loop-row-preserved
loop-row-preserved c =
    subst (IsLinked c.args.rows.now (c.loop-row.row-index + 1)) (sym c.in_ok-push.ensures.items)
    (links_more c.args.rows.now c.requires c.loop-row.row-index c.row-item.result c.loop-row.links.items c.in_ok-row_links.field-0 c.loop-row-test.true c.row-item.is c.loop-row.invariant c.in_ok-row_links.ensures)

pub returns-clause-copy : goal.returns-clause-copy
returns-clause-copy c =
    let all : c.loop-row.row-index ≡ length c.args.rows.now = omega arith in
    links_copy c.args.rows.now c.requires c.loop-row.links.items (subst (λ (n : ℕ). IsLinked c.args.rows.now n c.loop-row.links.items) all c.loop-row.invariant)

pub returns-clause-inside : goal.returns-clause-inside
returns-clause-inside c =
    let all : c.loop-row.row-index ≡ length c.args.rows.now = omega arith in
    links_inside c.args.rows.now c.loop-row.links.items (subst (λ (n : ℕ). IsLinked c.args.rows.now n c.loop-row.links.items) all c.loop-row.invariant)
