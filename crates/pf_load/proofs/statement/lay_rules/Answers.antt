use Rattle.std.proofs.Common.{Option, Some, ap, ◌∙◌}
use Rattle.pf_fault.specs.Order.{first_of}
use Rattle.pf_fault.specs.declared.fault.Fault.{Fault}
use Rattle.pf_load.specs.Statements.{late_at}
use Rattle.pf_load.proofs.Deciding.{rules_stop}
use Rattle.pf_load.proofs.statement.lay_rules.Goals as goal

pub returns-in-Some-clause-within : goal.returns-in-Some-clause-within
returns-in-Some-clause-within c = λ count le inside.
    rules_stop count c.late_of.result c.args.place c.args.fault c.args.reach.now c.in-Some.fault le inside
    (c.in-Some.ensures ∙ ap (λ (x : Option Fault). first_of x c.reach_fault.result) (c.first_of-before.ensures ∙ ap (λ (x : Option Fault). first_of x c.args.fault) c.late_at.ensures)
    ∙ ap (first_of (first_of (late_at c.late_of.result c.args.place) c.args.fault)) c.reach_fault.ensures)

pub returns-in_ok-draft-in-None-2-clause-places : goal.returns-in_ok-draft-in-None-2-clause-places
returns-in_ok-draft-in-None-2-clause-places c = λ count le so. c.in_ok-draft-in-None-2.ensures.within count le (c.in_ok-draft-in-None.ensures.within count so le)
