use Rattle.std.proofs.Common.{◌≡◌, take, map, filter, ◌++◌}
use Rattle.pf_combine.specs.declared.member.Member.TheVariants as members
use Rattle.pf_expand.proofs.lists.sources.Given as goal

abbrev pub invariant-loop-value : goal.invariant-loop-value
invariant-loop-value l = l.list ≡ map members.Source (take l.value-index l.values)
