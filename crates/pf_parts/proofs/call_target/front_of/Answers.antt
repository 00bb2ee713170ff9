use Rattle.std.proofs.Common.{◌≡◌, ◌+◌, Some, ap, length, subst, take, ◌∙◌, ◌<◌, get_or}
use Rattle.pf_base.specs.Path.{child_path}
use Rattle.pf_parts.proofs.CallTargets.{front_more}
use Rattle.pf_parts.proofs.call_target.front_of.Goals as goal

pub unreachable-requires : goal.unreachable-requires
unreachable-requires c =
    let names = c.args.path.now in
    let same = c.names.ensures.same in
    let i = c.loop-name.name-index in
    let inside : i < length (take c.args.count names) = subst (λ all. i < length (take c.args.count all)) same c.loop-name-test.true in
    let item = subst (λ all. c.name-item.result ≡ get_or (take c.args.count all) i c.name-item.result) same c.name-item.is in
    let more = front_more names c.args.count i c.name-item.result c.name-item.result c.names.ensures.path inside item in
    let found : c.child.result ≡ Some (take (i + 1) names) = c.child.ensures ∙ ap (λ front. child_path front c.name-item.result) c.loop-name.invariant ∙ more in
    let none = c.in-None.is in
    cc

pub loop-name-preserved : goal.loop-name-preserved
loop-name-preserved c =
    let names = c.args.path.now in
    let same = c.names.ensures.same in
    let i = c.loop-name.name-index in
    let inside : i < length (take c.args.count names) = subst (λ all. i < length (take c.args.count all)) same c.loop-name-test.true in
    let item = subst (λ all. c.name-item.result ≡ get_or (take c.args.count all) i c.name-item.result) same c.name-item.is in
    let more = front_more names c.args.count i c.name-item.result c.name-item.result c.names.ensures.path inside item in
    let found : c.child.result ≡ Some (take (i + 1) names) = c.child.ensures ∙ ap (λ front. child_path front c.name-item.result) c.loop-name.invariant ∙ more in
    let some = c.in-Some.is in
    cc
