use Rattle.std.proofs.Common.{◌≡◌, ◌++◌, length}
use Rattle.pf_eval.specs.Rulesets.{named_children}
use Rattle.pf_eval.specs.Steps.{named_after, names_after}
use Rattle.pf_tree.specs.Paths.{child_names}
use Rattle.pf_engine.proofs.shows.children_of.Given as goal

-- the names so far and those that are left are all
abbrev pub invariant-loop-name : goal.invariant-loop-name
invariant-loop-name l = l.names ++ named_after l.rulesets l.path l.last ≡ named_children l.rulesets l.path

abbrev pub decreases-loop-name : goal.decreases-loop-name
decreases-loop-name l = length (names_after l.last (child_names l.rulesets l.path))
