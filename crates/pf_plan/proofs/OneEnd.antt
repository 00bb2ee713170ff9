-- The end of a unit has one fault or none.
use Rattle.std.proofs.Common.{◌≡◌, List, Option, Result, sym, ap, ◌∙◌}
use Rattle.pf_decl.specs.Checks.{Judged}
use Rattle.pf_decl.specs.declared.check.QueueFault.{QueueFault}
use Rattle.pf_decl.specs.declared.check.UsedQueue.{UsedQueue}
use Rattle.pf_decl.specs.declared.form.Queue.{Queue}
use Rattle.pf_fault.specs.declared.fault.Fault.{Fault}
use Rattle.pf_plan.specs.Ends.{HasEndFault, end_fault}
use Rattle.pf_plan.specs.declared.draft.Draft.{Draft}

-- the law of queues below
abbrev pub JudgedOne : Type 0
JudgedOne = (queues : List Queue) (used : List UsedQueue) (one two : Result (Unit {0}) QueueFault) → Judged queues used one → Judged queues used two → one ≡ two

pub one_end : JudgedOne → (draft : Draft) (a b : Option Fault) → HasEndFault draft a → HasEndFault draft b → a ≡ b
one_end judged draft a b h k = h.is ∙ ap (end_fault draft) (judged draft.queues draft.used h.queues k.queues h.judged k.judged) ∙ sym k.is
