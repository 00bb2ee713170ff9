use Rattle.std.proofs.Common.{◌≡◌, ℕ, List, [], ◌∷◌, ◌++◌, refl, ap, ◌∙◌}
use Rattle.pf_reply.specs.declared.reply.Reply.TheVariants.{Opened}
use Rattle.pf_engine.specs.FilesRead.{read_as}
use Rattle.pf_engine.specs.LoadLines.{Opening}
use Rattle.pf_engine.specs.Steps.{done}
use Rattle.pf_engine.specs.declared.outcome.Outcome.TheVariants.{Done}
use Rattle.pf_engine.proofs.Doing.{refused_so, told_so}
use Rattle.pf_engine.proofs.LoadsTold.{open_done, open_unfit, open_unread}
use Rattle.pf_engine.proofs.engine.Engine.open_read.Goals as goal

pub returns-in-Refused-clause-answers : goal.returns-in-Refused-clause-answers
returns-in-Refused-clause-answers c =
    refused_so (Opening c.args.self.now c.args.name (read_as c.args.read)) c.args.self.now c.in-Refused.refusal c.refuse.result c.args.out.now.items _
    (open_unread c.args.self.now c.args.read c.in-Refused.refusal c.in-Refused.is c.args.name) c.refuse.ensures.refused c.refuse.ensures.told

pub returns-in-Some-clause-answers : goal.returns-in-Some-clause-answers
returns-in-Some-clause-answers c =
    let same : c.self.inside.machine ≡ c.args.self.now = cc in
    refused_so (Opening c.args.self.now c.args.name (read_as c.args.read)) c.args.self.now c.in-Some.refusal c.refuse-in-Some.result c.args.out.now.items _
    (open_unfit c.args.self.now c.self.inside.machine c.args.read c.in-Is.ready same c.in-Is.is c.args.name c.in_ok-refusal.field-0 c.in_ok-refusal.ensures c.in-Some.refusal c.in-Some.is)
    c.refuse-in-Some.ensures.refused c.refuse-in-Some.ensures.told

pub returns-clause-answers : goal.returns-clause-answers
returns-clause-answers c =
    let same : c.self.inside.machine ≡ c.args.self.now = cc in
    told_so (Opening c.args.self.now c.args.name (read_as c.args.read)) (done c.open.new.self (Opened c.args.name c.self.inside.machine.next)) c.open.new.self Done
    c.args.out.now.items c.open.new.out.items c.in_ok-line.line.items
    (open_done c.args.self.now c.self.inside.machine c.args.read c.in-Is.ready same c.in-Is.is c.args.name c.in_ok-refusal.field-0 c.in_ok-refusal.ensures
    c.open.new.self c.self.inside.machine.next c.in_default.is c.in_ok-open.ensures.ok refl)
    refl refl c.in_ok-line.ensures (c.in_ok-open.ensures.told ∙ ap (λ (l : List ℕ). c.args.out.now.items ++ l) c.deref.ensures.value)
