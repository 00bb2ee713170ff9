use Rattle.std.proofs.Common.{Option, ap, ◌∙◌}
use Rattle.pf_fault.specs.Order.{first_of}
use Rattle.pf_fault.specs.declared.fault.Fault.{Fault}
use Rattle.pf_load.specs.Anchors.{load_fault}
use Rattle.pf_load.proofs.Deciding.{load_stop}
use Rattle.pf_load.proofs.statement.take_load.Goals as goal

pub returns-in-Some-clause-within : goal.returns-in-Some-clause-within
returns-in-Some-clause-within c = λ count le.
    load_stop count c.args.draft c.args.place c.reach_of-reach.result c.in-Some.fault le
    (c.in-Some.ensures ∙ ap (λ (x : Option Fault). first_of x c.reach_fault.result) c.load_fault.ensures ∙ ap (first_of (load_fault c.args.draft c.args.place)) c.reach_fault.ensures)
