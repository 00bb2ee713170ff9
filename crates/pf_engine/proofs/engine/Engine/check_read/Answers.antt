use Rattle.std.proofs.Common.{◌≡◌, ℕ, List, [], ◌∷◌, ◌++◌, refl, ap, ◌∙◌}
use Rattle.pf_reply.specs.Replies as replies
use Rattle.pf_reply.specs.declared.reply.Filled.{Filled}
use Rattle.pf_reply.specs.declared.reply.Reply.TheVariants.{Checked}
use Rattle.pf_runs.specs.Runs.{reply_text}
use Rattle.pf_engine.specs.FilesRead.{read_as}
use Rattle.pf_engine.specs.LoadLines.{Checking, filled_of}
use Rattle.pf_engine.specs.Steps.{done}
use Rattle.pf_engine.specs.declared.outcome.Outcome.TheVariants.{Done}
use Rattle.pf_engine.proofs.Doing.{refused_so, told_so}
use Rattle.pf_engine.proofs.LoadsTold.{check_done, check_unfit, check_unread}
use Rattle.pf_engine.proofs.engine.Engine.check_read.Goals as goal

pub returns-in-Refused-clause-answers : goal.returns-in-Refused-clause-answers
returns-in-Refused-clause-answers c =
    refused_so (Checking c.args.self.now (read_as c.args.read)) c.args.self.now c.in-Refused.refusal c.refuse.result c.args.out.now.items _
    (check_unread c.args.self.now c.args.read c.in-Refused.refusal c.in-Refused.is) c.refuse.ensures.refused c.refuse.ensures.told

pub returns-in-Refused-2-clause-answers : goal.returns-in-Refused-2-clause-answers
returns-in-Refused-2-clause-answers c =
    let same : c.self.inside.machine ≡ c.args.self.now = cc in
    refused_so (Checking c.args.self.now (read_as c.args.read)) c.args.self.now c.in-Refused-2.refusal c.refuse-in-Refused-2.result c.args.out.now.items _
    (check_unfit c.args.self.now c.self.inside.machine c.args.read c.in-Is.ready same c.in-Is.is c.in_ok-refusal.field-0 c.in_ok-refusal.ensures.judged c.in-Refused-2.refusal c.in-Refused-2.is)
    c.refuse-in-Refused-2.ensures.refused c.refuse-in-Refused-2.ensures.told

pub returns-clause-answers : goal.returns-clause-answers
returns-clause-answers c =
    let same : c.self.inside.machine ≡ c.args.self.now = cc in
    told_so (Checking c.args.self.now (read_as c.args.read)) (done c.args.self.now (Checked (filled_of c.in-Is.ready))) c.args.self.now Done
    c.args.out.now.items c.tell.new.out.items c.in_ok-line-in-Fits.line.items
    (check_done c.args.self.now c.self.inside.machine c.args.read c.in-Is.ready same c.in-Is.is c.in_ok-refusal.field-0 c.in_ok-refusal.ensures.judged c.in-Fits._shelves c.in-Fits.is)
    refl refl
    (c.in_ok-line-in-Fits.ensures ∙ ap (λ (filled : Filled). reply_text (replies.reply_text (Checked filled) ∷ [])) c.in_ok-filled_of-in-Fits.ensures)
    (c.in_ok-tell-in-Fits.ensures.ok ∙ ap (λ (l : List ℕ). c.args.out.now.items ++ l) c.deref.ensures.value)
