use Rattle.std.proofs.Common.{◌≡◌, ◌+◌, ◌≤◌, true, [], Option, Some, None, refl, subst, sym, arith}
use Rattle.pf_runs.specs.Runs.{Answers, Stepped}
use Rattle.pf_source.specs.Disk.{without}
use Rattle.pf_source.specs.Told.{file_of}
use Rattle.pf_reply.specs.declared.refusal.Refusal.{Refusal}
use Rattle.pf_state.specs.Sessions.{entry_refusal}
use Rattle.pf_state.specs.declared.machine.Machine.{Machine}
use Rattle.pf_engine.specs.Answering.{AsksFor, DoesSo}
use Rattle.pf_engine.specs.FilesRead.{outage_in, read_as, unread_as}
use Rattle.pf_engine.specs.LoadLines.{OpenDoes, Opening, LineComes}
use Rattle.pf_engine.specs.Whatever.{OpensSome}
use Rattle.pf_engine.proofs.Asking.{asked_nothing, few_unread, may_fail}
use Rattle.pf_engine.proofs.Doing.{refused_so}
use Rattle.pf_engine.proofs.Loading.{asks_so, draws_so, entry_answers, entry_asks, open_answers, opening_uses, opens_some, same_so}
use Rattle.pf_engine.proofs.Results.{adds_refused, adds_told, adds_too, in_either, on_err}
use Rattle.pf_engine.specs.Steps.{refused}
use Rattle.pf_engine.proofs.engine.Engine.open.Goals as goal

-- no session may be opened

pub returns-in-Some-clause-answers : goal.returns-in-Some-clause-answers
returns-in-Some-clause-answers g c =
    let same : c.self.inside.machine ≡ c.args.self.now = cc in
    let entry : Some c.in-Some.refusal ≡ entry_refusal c.args.self.now c.args.name = subst (λ (m : Machine). Some c.in-Some.refusal ≡ entry_refusal m c.args.name) same c.in-Some.ensures in
    let machine = c.args.self.now in let name = c.args.name in let refusal = c.in-Some.refusal in
    let files = g.F.Files.tells c.args.files.now in
    let Doing = λ (does : Stepped Machine). does ≡ refused machine refusal in
    adds_told c.refuse.result c.args.out.now.items c.refuse.new.out.items (λ bytes refuses. DoesSo Doing machine bytes refuses) files.held
    (λ held bytes refuses. Answers (λ disk machine other does. OpenDoes disk machine name c.args.line does) (file_of held) [] machine files machine files bytes refuses)
    (λ held is bytes refuses so. entry_answers machine name c.args.line refusal entry files (file_of held) bytes refuses so)
    (refused_so Doing machine refusal c.refuse.result c.args.out.now.items c.refuse.new.out.items refl c.refuse.ensures.refused c.refuse.ensures.told)

pub returns-in-Some-clause-whatever : goal.returns-in-Some-clause-whatever
returns-in-Some-clause-whatever g c =
    let same : c.self.inside.machine ≡ c.args.self.now = cc in
    let entry : Some c.in-Some.refusal ≡ entry_refusal c.args.self.now c.args.name = subst (λ (m : Machine). Some c.in-Some.refusal ≡ entry_refusal m c.args.name) same c.in-Some.ensures in
    let machine = c.args.self.now in let name = c.args.name in let refusal = c.in-Some.refusal in
    refused_so (OpensSome (entry_refusal machine name) machine name c.args.line) machine refusal c.refuse.result c.args.out.now.items c.refuse.new.out.items
    (subst (λ (o : Option Refusal). OpensSome o machine name c.args.line (refused machine refusal)) entry refl) c.refuse.ensures.refused c.refuse.ensures.told

pub returns-in-Some-clause-asks : goal.returns-in-Some-clause-asks
returns-in-Some-clause-asks g c =
    let same : c.self.inside.machine ≡ c.args.self.now = cc in
    let entry : Some c.in-Some.refusal ≡ entry_refusal c.args.self.now c.args.name = subst (λ (m : Machine). Some c.in-Some.refusal ≡ entry_refusal m c.args.name) same c.in-Some.ensures in
    let machine = c.args.self.now in let name = c.args.name in let refusal = c.in-Some.refusal in
    let files = g.F.Files.tells c.args.files.now in
    let Doing = λ (does : Stepped Machine). does ≡ refused machine refusal in
    adds_too c.refuse.result c.args.out.now.items c.refuse.new.out.items (λ bytes refuses. DoesSo Doing machine bytes refuses)
    (λ bytes refuses. AsksFor machine machine files files bytes refuses)
    (λ bytes refuses so. entry_asks machine name refusal entry files bytes refuses so)
    (refused_so Doing machine refusal c.refuse.result c.args.out.now.items c.refuse.new.out.items refl c.refuse.ensures.refused c.refuse.ensures.told)

pub returns-in-Some-clause-fails : goal.returns-in-Some-clause-fails
returns-in-Some-clause-fails g c = on_err c.refuse.result _ (asked_nothing (g.F.Files.tells c.args.files.now))

-- one may

pub returns-in_ok-read-in-None-clause-answers : goal.returns-in_ok-read-in-None-clause-answers
returns-in_ok-read-in-None-clause-answers g c =
    let same : c.self.inside.machine ≡ c.args.self.now = cc in
    let free : None ≡ entry_refusal c.args.self.now c.args.name = subst (λ (m : Machine). None ≡ entry_refusal m c.args.name) same c.in-None.ensures in
    let machine = c.args.self.now in let after = c.open_read.new.self in let line = c.args.line in let name = c.args.name in let answer = read_as c.in_ok-read-in-None.read in
    let files = g.F.Files.tells c.args.files.now in let files' = g.F.Files.tells c.ready_of.new.files in
    adds_told c.open_read.result c.args.out.now.items c.open_read.new.out.items (λ bytes refuses. DoesSo (Opening machine name answer) after bytes refuses) files.held
    (λ held bytes refuses. Answers (λ disk machine other does. OpenDoes disk machine name line does) (file_of held) [] machine files after files' bytes refuses)
    (λ held is bytes refuses so. open_answers machine after files files' line answer bytes refuses name (sym free) held is (subst (λ (m : Machine). LineComes (without (outage_in answer) (file_of held)) m.facts line answer) same (c.in_ok-read-in-None.ensures.means.at held is)) c.in_ok-read-in-None.ensures.asks so)
    c.open_read.ensures.answers

pub returns-in_ok-read-in-None-clause-whatever : goal.returns-in_ok-read-in-None-clause-whatever
returns-in_ok-read-in-None-clause-whatever g c =
    let same : c.self.inside.machine ≡ c.args.self.now = cc in
    let free : None ≡ entry_refusal c.args.self.now c.args.name = subst (λ (m : Machine). None ≡ entry_refusal m c.args.name) same c.in-None.ensures in
    let machine = c.args.self.now in let after = c.open_read.new.self in let name = c.args.name in let answer = read_as c.in_ok-read-in-None.read in
    adds_too c.open_read.result c.args.out.now.items c.open_read.new.out.items (λ bytes refuses. DoesSo (Opening machine name answer) after bytes refuses)
    (λ bytes refuses. DoesSo (OpensSome (entry_refusal machine name) machine name c.args.line) after bytes refuses)
    (λ bytes refuses so. record { does = so.does; so = opens_some machine name c.args.line so.does answer free c.in_ok-read-in-None.ensures.comes so.so; is = so.is })
    c.open_read.ensures.answers

pub returns-in_ok-read-in-None-clause-asks : goal.returns-in_ok-read-in-None-clause-asks
returns-in_ok-read-in-None-clause-asks g c =
    let machine = c.args.self.now in let after = c.open_read.new.self in let name = c.args.name in let answer = read_as c.in_ok-read-in-None.read in
    let files = g.F.Files.tells c.args.files.now in let files' = g.F.Files.tells c.ready_of.new.files in
    adds_too c.open_read.result c.args.out.now.items c.open_read.new.out.items (λ bytes refuses. DoesSo (Opening machine name answer) after bytes refuses)
    (λ bytes refuses. AsksFor machine after files files' bytes refuses)
    (λ bytes refuses so. asks_so machine after files files' c.args.line answer bytes refuses (Opening machine name answer) (opening_uses machine name answer) so c.in_ok-read-in-None.ensures.asks)
    c.open_read.ensures.answers

pub returns-in_ok-read-in-None-clause-refused : goal.returns-in_ok-read-in-None-clause-refused
returns-in_ok-read-in-None-clause-refused g c = λ e.
    let machine = c.args.self.now in let after = c.open_read.new.self in let name = c.args.name in let answer = read_as c.in_ok-read-in-None.read in
    let files = g.F.Files.tells c.args.files.now in
    adds_refused c.open_read.result c.args.out.now.items c.open_read.new.out.items (λ bytes refuses. DoesSo (Opening machine name answer) after bytes refuses) (after ≡ machine)
    (λ bytes so. same_so machine after files files c.args.line answer bytes true (Opening machine name answer) (opening_uses machine name answer) so refl)
    c.open_read.ensures.answers e

pub returns-in_ok-read-in-None-clause-drawn : goal.returns-in_ok-read-in-None-clause-drawn
returns-in_ok-read-in-None-clause-drawn g c =
    let machine = c.args.self.now in let after = c.open_read.new.self in let name = c.args.name in let answer = read_as c.in_ok-read-in-None.read in
    let files = g.F.Files.tells c.args.files.now in
    in_either c.open_read.result c.args.out.now.items c.open_read.new.out.items (λ bytes refuses. DoesSo (Opening machine name answer) after bytes refuses) (after ≡ machine) (after.next ≤ machine.next + 1)
    (λ bytes refuses so. draws_so machine after files files c.args.line answer bytes refuses (Opening machine name answer) (opening_uses machine name answer) so)
    (λ same. subst (λ (m : Machine). m.next ≤ machine.next + 1) (sym same) (omega arith))
    c.open_read.ensures.answers c.open_read.ensures.err

pub returns-in_ok-read-in-None-clause-fails : goal.returns-in_ok-read-in-None-clause-fails
returns-in_ok-read-in-None-clause-fails g c =
    on_err c.open_read.result _ (may_fail (unread_as (read_as c.in_ok-read-in-None.read)) (g.F.Files.tells c.args.files.now) (g.F.Files.tells c.ready_of.new.files) (few_unread (read_as c.in_ok-read-in-None.read)) c.in_ok-read-in-None.ensures.asks)
