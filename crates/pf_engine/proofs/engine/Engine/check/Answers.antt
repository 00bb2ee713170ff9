use Rattle.std.proofs.Common.{◌≡◌, [], subst}
use Rattle.pf_runs.specs.Runs.{Answers}
use Rattle.pf_source.specs.Disk.{without}
use Rattle.pf_source.specs.Told.{file_of}
use Rattle.pf_state.specs.declared.machine.Machine.{Machine}
use Rattle.pf_engine.specs.Answering.{AsksFor, DoesSo}
use Rattle.pf_engine.specs.FilesRead.{outage_in, read_as, unread_as}
use Rattle.pf_engine.specs.LoadLines.{CheckDoes, Checking, LineComes}
use Rattle.pf_engine.specs.Whatever.{UsesSome}
use Rattle.pf_engine.proofs.Asking.{few_unread, may_fail}
use Rattle.pf_engine.proofs.Loading.{asks_so, check_answers, checking_uses}
use Rattle.pf_engine.proofs.Results.{adds_told, adds_too, on_err}
use Rattle.pf_engine.proofs.engine.Engine.check.Goals as goal

pub returns-clause-answers : goal.returns-clause-answers
returns-clause-answers g c =
    let same : c.self.inside.machine ≡ c.args.self.now = cc in
    let machine = c.args.self.now in let line = c.args.line in let answer = read_as c.in_ok-read.read in
    let files = g.F.Files.tells c.args.files.now in let files' = g.F.Files.tells c.ready_of.new.files in
    adds_told c.check_read.result c.args.out.now.items c.check_read.new.out.items (λ bytes refuses. DoesSo (Checking machine answer) machine bytes refuses) files.held
    (λ held bytes refuses. Answers (λ disk machine name does. CheckDoes disk machine line does) (file_of held) [] machine files machine files' bytes refuses)
    (λ held is bytes refuses so. check_answers machine machine files files' line answer bytes refuses held is (subst (λ (m : Machine). LineComes (without (outage_in answer) (file_of held)) m.facts line answer) same (c.in_ok-read.ensures.means.at held is)) c.in_ok-read.ensures.asks so)
    c.check_read.ensures.answers

pub returns-clause-whatever : goal.returns-clause-whatever
returns-clause-whatever g c =
    let machine = c.args.self.now in let answer = read_as c.in_ok-read.read in
    adds_too c.check_read.result c.args.out.now.items c.check_read.new.out.items (λ bytes refuses. DoesSo (Checking machine answer) machine bytes refuses)
    (λ bytes refuses. DoesSo (UsesSome c.args.line (Checking machine)) machine bytes refuses)
    (λ bytes refuses so. record { does = so.does; so = record { answer = answer; comes = c.in_ok-read.ensures.comes; using = so.so }; is = so.is })
    c.check_read.ensures.answers

pub returns-clause-asks : goal.returns-clause-asks
returns-clause-asks g c =
    let machine = c.args.self.now in let answer = read_as c.in_ok-read.read in
    let files = g.F.Files.tells c.args.files.now in let files' = g.F.Files.tells c.ready_of.new.files in
    adds_too c.check_read.result c.args.out.now.items c.check_read.new.out.items (λ bytes refuses. DoesSo (Checking machine answer) machine bytes refuses)
    (λ bytes refuses. AsksFor machine machine files files' bytes refuses)
    (λ bytes refuses so. asks_so machine machine files files' c.args.line answer bytes refuses (Checking machine answer) (checking_uses machine answer) so c.in_ok-read.ensures.asks)
    c.check_read.ensures.answers

pub returns-clause-fails : goal.returns-clause-fails
returns-clause-fails g c =
    on_err c.check_read.result _ (may_fail (unread_as (read_as c.in_ok-read.read)) (g.F.Files.tells c.args.files.now) (g.F.Files.tells c.ready_of.new.files) (few_unread (read_as c.in_ok-read.read)) c.in_ok-read.ensures.asks)
