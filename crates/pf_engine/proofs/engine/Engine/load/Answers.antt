use Rattle.std.proofs.Common.{◌≡◌, ◌+◌, ◌≤◌, true, [], refl, subst, sym, arith}
use Rattle.pf_runs.specs.Runs.{Answers}
use Rattle.pf_source.specs.Disk.{without}
use Rattle.pf_source.specs.Told.{file_of}
use Rattle.pf_state.specs.declared.machine.Machine.{Machine}
use Rattle.pf_engine.specs.Answering.{AsksFor, DoesSo}
use Rattle.pf_engine.specs.FilesRead.{outage_in, read_as, unread_as}
use Rattle.pf_engine.specs.LoadLines.{LoadDoes, Loading, LineComes}
use Rattle.pf_engine.specs.Whatever.{UsesSome}
use Rattle.pf_engine.proofs.Asking.{few_unread, may_fail}
use Rattle.pf_engine.proofs.Loading.{asks_so, draws_so, load_answers, loading_uses, same_so}
use Rattle.pf_engine.proofs.Results.{adds_refused, adds_told, adds_too, in_either, on_err}
use Rattle.pf_engine.proofs.engine.Engine.load.Goals as goal

pub returns-clause-answers : goal.returns-clause-answers
returns-clause-answers g c =
    let same : c.self.inside.machine ≡ c.args.self.now = cc in
    let machine = c.args.self.now in let after = c.load_read.new.self in let line = c.args.line in let answer = read_as c.in_ok-read.read in
    let files = g.F.Files.tells c.args.files.now in let files' = g.F.Files.tells c.ready_of.new.files in
    adds_told c.load_read.result c.args.out.now.items c.load_read.new.out.items (λ bytes refuses. DoesSo (Loading machine answer) after bytes refuses) files.held
    (λ held bytes refuses. Answers (λ disk machine name does. LoadDoes disk machine line does) (file_of held) [] machine files after files' bytes refuses)
    (λ held is bytes refuses so. load_answers machine after files files' line answer bytes refuses held is (subst (λ (m : Machine). LineComes (without (outage_in answer) (file_of held)) m.facts line answer) same (c.in_ok-read.ensures.means.at held is)) c.in_ok-read.ensures.asks so)
    c.load_read.ensures.answers

pub returns-clause-whatever : goal.returns-clause-whatever
returns-clause-whatever g c =
    let machine = c.args.self.now in let after = c.load_read.new.self in let answer = read_as c.in_ok-read.read in
    adds_too c.load_read.result c.args.out.now.items c.load_read.new.out.items (λ bytes refuses. DoesSo (Loading machine answer) after bytes refuses)
    (λ bytes refuses. DoesSo (UsesSome c.args.line (Loading machine)) after bytes refuses)
    (λ bytes refuses so. record { does = so.does; so = record { answer = answer; comes = c.in_ok-read.ensures.comes; using = so.so }; is = so.is })
    c.load_read.ensures.answers

pub returns-clause-asks : goal.returns-clause-asks
returns-clause-asks g c =
    let machine = c.args.self.now in let after = c.load_read.new.self in let answer = read_as c.in_ok-read.read in
    let files = g.F.Files.tells c.args.files.now in let files' = g.F.Files.tells c.ready_of.new.files in
    adds_too c.load_read.result c.args.out.now.items c.load_read.new.out.items (λ bytes refuses. DoesSo (Loading machine answer) after bytes refuses)
    (λ bytes refuses. AsksFor machine after files files' bytes refuses)
    (λ bytes refuses so. asks_so machine after files files' c.args.line answer bytes refuses (Loading machine answer) (loading_uses machine answer) so c.in_ok-read.ensures.asks)
    c.load_read.ensures.answers

pub returns-clause-refused : goal.returns-clause-refused
returns-clause-refused g c = λ e.
    let machine = c.args.self.now in let after = c.load_read.new.self in let answer = read_as c.in_ok-read.read in
    let files = g.F.Files.tells c.args.files.now in
    adds_refused c.load_read.result c.args.out.now.items c.load_read.new.out.items (λ bytes refuses. DoesSo (Loading machine answer) after bytes refuses) (after ≡ machine)
    (λ bytes so. same_so machine after files files c.args.line answer bytes true (Loading machine answer) (loading_uses machine answer) so refl)
    c.load_read.ensures.answers e

pub returns-clause-drawn : goal.returns-clause-drawn
returns-clause-drawn g c =
    let machine = c.args.self.now in let after = c.load_read.new.self in let answer = read_as c.in_ok-read.read in
    let files = g.F.Files.tells c.args.files.now in
    in_either c.load_read.result c.args.out.now.items c.load_read.new.out.items (λ bytes refuses. DoesSo (Loading machine answer) after bytes refuses) (after ≡ machine) (after.next ≤ machine.next + 1)
    (λ bytes refuses so. draws_so machine after files files c.args.line answer bytes refuses (Loading machine answer) (loading_uses machine answer) so)
    (λ same. subst (λ (m : Machine). m.next ≤ machine.next + 1) (sym same) (omega arith))
    c.load_read.ensures.answers c.load_read.ensures.err

pub returns-clause-fails : goal.returns-clause-fails
returns-clause-fails g c =
    on_err c.load_read.result _ (may_fail (unread_as (read_as c.in_ok-read.read)) (g.F.Files.tells c.args.files.now) (g.F.Files.tells c.ready_of.new.files) (few_unread (read_as c.in_ok-read.read)) c.in_ok-read.ensures.asks)
