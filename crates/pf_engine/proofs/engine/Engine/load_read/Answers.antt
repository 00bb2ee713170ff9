use Rattle.std.proofs.Common.{◌≡◌, ℕ, List, [], ◌∷◌, ◌++◌, refl, ap, ◌∙◌, subst}
use Rattle.pf_reply.specs.Replies as replies
use Rattle.pf_reply.specs.declared.reply.Filled.{Filled}
use Rattle.pf_reply.specs.declared.reply.Reply.TheVariants.{Loaded}
use Rattle.pf_runs.specs.Runs.{reply_text}
use Rattle.pf_engine.specs.FilesRead.{read_as}
use Rattle.pf_engine.specs.Kept.{IsKept}
use Rattle.pf_engine.specs.LoadLines.{Loading, filled_of}
use Rattle.pf_engine.specs.Steps.{done}
use Rattle.pf_engine.specs.declared.outcome.Outcome.TheVariants.{Done}
use Rattle.pf_engine.proofs.Doing.{refused_so, told_so}
use Rattle.pf_engine.proofs.LoadsTold.{load_done, load_keeps, load_unfit, load_unread}
use Rattle.pf_engine.proofs.engine.Engine.load_read.Goals as goal

pub returns-in-Refused-clause-answers : goal.returns-in-Refused-clause-answers
returns-in-Refused-clause-answers c =
    refused_so (Loading c.args.self.now (read_as c.args.read)) c.args.self.now c.in-Refused.refusal c.refuse.result c.args.out.now.items _
    (load_unread c.args.self.now c.args.read c.in-Refused.refusal c.in-Refused.is) c.refuse.ensures.refused c.refuse.ensures.told

pub invariant_of-self-in-Fits : goal.invariant_of-self-in-Fits
invariant_of-self-in-Fits c =
    let same : c.self.inside.machine ≡ c.args.self.now = cc in
    load_keeps c.args.self.now c.self.inside.machine c.args.read c.in-Is.ready same c.in-Is.is c.in_ok-refusal.field-0 c.in_ok-refusal.ensures.judged
    c.in-Fits.shelves c.load.new.self c.in-Fits.is c.in_ok-load-in-Fits.ensures.ok (subst IsKept same c.self.invariant)

pub returns-in-Refused-2-clause-answers : goal.returns-in-Refused-2-clause-answers
returns-in-Refused-2-clause-answers c =
    let same : c.self.inside.machine ≡ c.args.self.now = cc in
    refused_so (Loading c.args.self.now (read_as c.args.read)) c.args.self.now c.in-Refused-2.refusal c.refuse-in-Refused-2.result c.args.out.now.items _
    (load_unfit c.args.self.now c.self.inside.machine c.args.read c.in-Is.ready same c.in-Is.is c.in_ok-refusal.field-0 c.in_ok-refusal.ensures.judged c.in-Refused-2.refusal c.in-Refused-2.is)
    c.refuse-in-Refused-2.ensures.refused c.refuse-in-Refused-2.ensures.told

pub returns-in_ok-load-in-Fits-clause-answers : goal.returns-in_ok-load-in-Fits-clause-answers
returns-in_ok-load-in-Fits-clause-answers c =
    let same : c.self.inside.machine ≡ c.args.self.now = cc in
    told_so (Loading c.args.self.now (read_as c.args.read)) (done c.load.new.self (Loaded (filled_of c.in-Is.ready))) c.load.new.self Done
    c.args.out.now.items c.load.new.out.items c.in_ok-line-in-Fits.line.items
    (load_done c.args.self.now c.self.inside.machine c.args.read c.in-Is.ready same c.in-Is.is c.in_ok-refusal.field-0 c.in_ok-refusal.ensures.judged
    c.in-Fits.shelves c.load.new.self c.in-Fits.is c.in_ok-load-in-Fits.ensures.ok)
    refl refl
    (c.in_ok-line-in-Fits.ensures ∙ ap (λ (filled : Filled). reply_text (replies.reply_text (Loaded filled) ∷ [])) c.in_ok-filled_of-in-Fits.ensures)
    (c.in_ok-load-in-Fits.ensures.told ∙ ap (λ (l : List ℕ). c.args.out.now.items ++ l) c.deref.ensures.value)
