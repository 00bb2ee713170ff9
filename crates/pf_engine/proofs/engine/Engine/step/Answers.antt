use Rattle.std.proofs.Common.{◌≡◌, ℕ, ◌+◌, ◌≤◌, false, List, [], Some, None, inl, refl, sym, ap, ◌∙◌, subst, arith}
use Rattle.pf_reply.specs.declared.refusal.Refusal.TheVariants.{BadCommand}
use Rattle.pf_runs.specs.Runs.{Answers, Stepped}
use Rattle.pf_script.specs.Command.{command_of}
use Rattle.pf_script.specs.declared.command.Command.{Command}
use Rattle.pf_script.specs.declared.command.Command.TheVariants as commands
use Rattle.pf_source.specs.Told.{file_of}
use Rattle.pf_state.specs.Sessions.{entry_refusal}
use Rattle.pf_state.specs.declared.machine.Machine.{Machine}
use Rattle.pf_engine.specs.Answering.{AsksFor, DoesAlone, DoesSo, reads_files}
use Rattle.pf_engine.specs.HostLines.{HostsDoes, TakesFacts}
use Rattle.pf_engine.specs.Laws.{ChangesNothing}
use Rattle.pf_engine.specs.LoadLines.{CheckDoes, Checking, LoadDoes, Loading, OpenDoes}
use Rattle.pf_engine.specs.SessionLines.{CommitDoes, step_flush, step_rollback}
use Rattle.pf_engine.specs.ShowLines.{show}
use Rattle.pf_engine.specs.Step.{step}
use Rattle.pf_engine.specs.Steps.{refused}
use Rattle.pf_engine.specs.TableLines.{TableDoes}
use Rattle.pf_engine.specs.TestLines.{TestDoes}
use Rattle.pf_engine.specs.Whatever.{DoesWhatever, OpensSome, UsesSome}
use Rattle.pf_engine.proofs.Asking.{asked_nothing}
use Rattle.pf_engine.proofs.Doing.{refused_so}
use Rattle.pf_engine.proofs.Results.{adds_given, adds_refused, adds_told, adds_too, in_either, on_err, told_too}
use Rattle.pf_engine.proofs.Stepping.{answers_alone, answers_by_files, asks_alone, changes_alone, does_alone, draws_alone, reads_some, whatever_alone, whatever_so}
use Rattle.pf_engine.proofs.engine.Engine.step.Goals as goal

pub returns-in-None-clause-answers : goal.returns-in-None-clause-answers
returns-in-None-clause-answers g c =
    let machine = c.args.self.now in let after = machine in let line = c.args.line.now in
    let files = g.F.Files.tells c.args.files.now in let old = c.args.out.now.items in let new = c.refuse.new.out.items in
    let is : command_of line ≡ None = sym c.in_ok-command.ensures ∙ c.in-None.is in
    let answers = refused_so (λ (does : Stepped Machine). does ≡ refused machine BadCommand) machine BadCommand c.refuse.result c.args.out.now.items c.refuse.new.out.items refl c.refuse.ensures.refused c.refuse.ensures.told in
    adds_told c.refuse.result old new (λ bytes refuses. DoesSo (λ (does : Stepped Machine). does ≡ refused machine BadCommand) after bytes refuses) files.held (λ held bytes refuses. Answers step (file_of held) line machine files after files bytes refuses) (λ held told bytes refuses so. answers_alone machine after line (None) is refl (λ (does : Stepped Machine). does ≡ refused machine BadCommand) (λ disk does h. h) held files bytes refuses so) answers

pub returns-in-None-clause-alone : goal.returns-in-None-clause-alone
returns-in-None-clause-alone g c =
    let machine = c.args.self.now in let after = machine in let line = c.args.line.now in
    let files = g.F.Files.tells c.args.files.now in let old = c.args.out.now.items in let new = c.refuse.new.out.items in
    let is : command_of line ≡ None = sym c.in_ok-command.ensures ∙ c.in-None.is in
    let answers = refused_so (λ (does : Stepped Machine). does ≡ refused machine BadCommand) machine BadCommand c.refuse.result c.args.out.now.items c.refuse.new.out.items refl c.refuse.ensures.refused c.refuse.ensures.told in
    adds_given c.refuse.result old new (λ bytes refuses. DoesSo (λ (does : Stepped Machine). does ≡ refused machine BadCommand) after bytes refuses) (reads_files (command_of line) ≡ false) (λ bytes refuses. DoesAlone machine line after bytes refuses) (λ none bytes refuses so. does_alone machine after line (None) is refl (λ (does : Stepped Machine). does ≡ refused machine BadCommand) (λ disk does h. h) bytes refuses so) answers

pub returns-in-None-clause-whatever : goal.returns-in-None-clause-whatever
returns-in-None-clause-whatever g c =
    let machine = c.args.self.now in let after = machine in let line = c.args.line.now in
    let files = g.F.Files.tells c.args.files.now in let old = c.args.out.now.items in let new = c.refuse.new.out.items in
    let is : command_of line ≡ None = sym c.in_ok-command.ensures ∙ c.in-None.is in
    let answers = refused_so (λ (does : Stepped Machine). does ≡ refused machine BadCommand) machine BadCommand c.refuse.result c.args.out.now.items c.refuse.new.out.items refl c.refuse.ensures.refused c.refuse.ensures.told in
    adds_too c.refuse.result old new (λ bytes refuses. DoesSo (λ (does : Stepped Machine). does ≡ refused machine BadCommand) after bytes refuses) (λ bytes refuses. DoesSo (DoesWhatever machine (command_of line)) after bytes refuses) (λ bytes refuses so. whatever_alone machine after line (None) is refl (λ (does : Stepped Machine). does ≡ refused machine BadCommand) (λ disk does h. h) bytes refuses so) answers

pub returns-in-None-clause-asks : goal.returns-in-None-clause-asks
returns-in-None-clause-asks g c =
    let machine = c.args.self.now in let after = machine in let line = c.args.line.now in
    let files = g.F.Files.tells c.args.files.now in let old = c.args.out.now.items in let new = c.refuse.new.out.items in
    let is : command_of line ≡ None = sym c.in_ok-command.ensures ∙ c.in-None.is in
    let answers = refused_so (λ (does : Stepped Machine). does ≡ refused machine BadCommand) machine BadCommand c.refuse.result c.args.out.now.items c.refuse.new.out.items refl c.refuse.ensures.refused c.refuse.ensures.told in
    adds_too c.refuse.result old new (λ bytes refuses. DoesSo (λ (does : Stepped Machine). does ≡ refused machine BadCommand) after bytes refuses) (λ bytes refuses. AsksFor machine after files files bytes refuses) (λ bytes refuses so. asks_alone machine after line (None) is refl (λ (does : Stepped Machine). does ≡ refused machine BadCommand) (λ disk does h. h) files bytes refuses so) answers

pub returns-in-None-clause-refused : goal.returns-in-None-clause-refused
returns-in-None-clause-refused g c =
    let machine = c.args.self.now in let after = machine in let line = c.args.line.now in
    let files = g.F.Files.tells c.args.files.now in let old = c.args.out.now.items in let new = c.refuse.new.out.items in
    let is : command_of line ≡ None = sym c.in_ok-command.ensures ∙ c.in-None.is in
    let answers = refused_so (λ (does : Stepped Machine). does ≡ refused machine BadCommand) machine BadCommand c.refuse.result c.args.out.now.items c.refuse.new.out.items refl c.refuse.ensures.refused c.refuse.ensures.told in
    λ e. adds_refused c.refuse.result old new (λ bytes refuses. DoesSo (λ (does : Stepped Machine). does ≡ refused machine BadCommand) after bytes refuses) (ChangesNothing machine line after) (λ bytes so. changes_alone machine after line (None) is refl (λ (does : Stepped Machine). does ≡ refused machine BadCommand) (λ disk does h. h) bytes so) answers e

pub returns-in-None-clause-fails : goal.returns-in-None-clause-fails
returns-in-None-clause-fails g c =
    let machine = c.args.self.now in let after = machine in let line = c.args.line.now in
    let files = g.F.Files.tells c.args.files.now in let old = c.args.out.now.items in let new = c.refuse.new.out.items in
    let is : command_of line ≡ None = sym c.in_ok-command.ensures ∙ c.in-None.is in
    let answers = refused_so (λ (does : Stepped Machine). does ≡ refused machine BadCommand) machine BadCommand c.refuse.result c.args.out.now.items c.refuse.new.out.items refl c.refuse.ensures.refused c.refuse.ensures.told in
    on_err c.refuse.result _ (asked_nothing files)

pub returns-in-Commit-clause-answers : goal.returns-in-Commit-clause-answers
returns-in-Commit-clause-answers g c =
    let machine = c.args.self.now in let after = c.commit.new.self in let line = c.args.line.now in
    let files = g.F.Files.tells c.args.files.now in let old = c.args.out.now.items in let new = c.commit.new.out.items in
    let is : command_of line ≡ Some (commands.Commit c.in-Commit.name) = sym c.in_ok-command.ensures ∙ (c.in-Some.is ∙ ap (λ (x : Command). Some x) c.in-Commit.is) in
    let answers = c.commit.ensures.answers in
    adds_told c.commit.result old new (λ bytes refuses. DoesSo (CommitDoes machine c.in-Commit.name) after bytes refuses) files.held (λ held bytes refuses. Answers step (file_of held) line machine files after files bytes refuses) (λ held told bytes refuses so. answers_alone machine after line (Some (commands.Commit c.in-Commit.name)) is refl (CommitDoes machine c.in-Commit.name) (λ disk does h. h) held files bytes refuses so) answers

pub returns-in-Commit-clause-alone : goal.returns-in-Commit-clause-alone
returns-in-Commit-clause-alone g c =
    let machine = c.args.self.now in let after = c.commit.new.self in let line = c.args.line.now in
    let files = g.F.Files.tells c.args.files.now in let old = c.args.out.now.items in let new = c.commit.new.out.items in
    let is : command_of line ≡ Some (commands.Commit c.in-Commit.name) = sym c.in_ok-command.ensures ∙ (c.in-Some.is ∙ ap (λ (x : Command). Some x) c.in-Commit.is) in
    let answers = c.commit.ensures.answers in
    adds_given c.commit.result old new (λ bytes refuses. DoesSo (CommitDoes machine c.in-Commit.name) after bytes refuses) (reads_files (command_of line) ≡ false) (λ bytes refuses. DoesAlone machine line after bytes refuses) (λ none bytes refuses so. does_alone machine after line (Some (commands.Commit c.in-Commit.name)) is refl (CommitDoes machine c.in-Commit.name) (λ disk does h. h) bytes refuses so) answers

pub returns-in-Commit-clause-whatever : goal.returns-in-Commit-clause-whatever
returns-in-Commit-clause-whatever g c =
    let machine = c.args.self.now in let after = c.commit.new.self in let line = c.args.line.now in
    let files = g.F.Files.tells c.args.files.now in let old = c.args.out.now.items in let new = c.commit.new.out.items in
    let is : command_of line ≡ Some (commands.Commit c.in-Commit.name) = sym c.in_ok-command.ensures ∙ (c.in-Some.is ∙ ap (λ (x : Command). Some x) c.in-Commit.is) in
    let answers = c.commit.ensures.answers in
    adds_too c.commit.result old new (λ bytes refuses. DoesSo (CommitDoes machine c.in-Commit.name) after bytes refuses) (λ bytes refuses. DoesSo (DoesWhatever machine (command_of line)) after bytes refuses) (λ bytes refuses so. whatever_alone machine after line (Some (commands.Commit c.in-Commit.name)) is refl (CommitDoes machine c.in-Commit.name) (λ disk does h. h) bytes refuses so) answers

pub returns-in-Commit-clause-asks : goal.returns-in-Commit-clause-asks
returns-in-Commit-clause-asks g c =
    let machine = c.args.self.now in let after = c.commit.new.self in let line = c.args.line.now in
    let files = g.F.Files.tells c.args.files.now in let old = c.args.out.now.items in let new = c.commit.new.out.items in
    let is : command_of line ≡ Some (commands.Commit c.in-Commit.name) = sym c.in_ok-command.ensures ∙ (c.in-Some.is ∙ ap (λ (x : Command). Some x) c.in-Commit.is) in
    let answers = c.commit.ensures.answers in
    adds_too c.commit.result old new (λ bytes refuses. DoesSo (CommitDoes machine c.in-Commit.name) after bytes refuses) (λ bytes refuses. AsksFor machine after files files bytes refuses) (λ bytes refuses so. asks_alone machine after line (Some (commands.Commit c.in-Commit.name)) is refl (CommitDoes machine c.in-Commit.name) (λ disk does h. h) files bytes refuses so) answers

pub returns-in-Commit-clause-refused : goal.returns-in-Commit-clause-refused
returns-in-Commit-clause-refused g c =
    let machine = c.args.self.now in let after = c.commit.new.self in let line = c.args.line.now in
    let files = g.F.Files.tells c.args.files.now in let old = c.args.out.now.items in let new = c.commit.new.out.items in
    let is : command_of line ≡ Some (commands.Commit c.in-Commit.name) = sym c.in_ok-command.ensures ∙ (c.in-Some.is ∙ ap (λ (x : Command). Some x) c.in-Commit.is) in
    let answers = c.commit.ensures.answers in
    λ e. adds_refused c.commit.result old new (λ bytes refuses. DoesSo (CommitDoes machine c.in-Commit.name) after bytes refuses) (ChangesNothing machine line after) (λ bytes so. changes_alone machine after line (Some (commands.Commit c.in-Commit.name)) is refl (CommitDoes machine c.in-Commit.name) (λ disk does h. h) bytes so) answers e

pub returns-in-Commit-clause-drawn : goal.returns-in-Commit-clause-drawn
returns-in-Commit-clause-drawn g c =
    let machine = c.args.self.now in let after = c.commit.new.self in let line = c.args.line.now in
    let files = g.F.Files.tells c.args.files.now in let old = c.args.out.now.items in let new = c.commit.new.out.items in
    let is : command_of line ≡ Some (commands.Commit c.in-Commit.name) = sym c.in_ok-command.ensures ∙ (c.in-Some.is ∙ ap (λ (x : Command). Some x) c.in-Commit.is) in
    let answers = c.commit.ensures.answers in
    in_either c.commit.result old new (λ bytes refuses. DoesSo (CommitDoes machine c.in-Commit.name) after bytes refuses) (after ≡ machine) (after.next ≤ machine.next + 1) (λ bytes refuses so. draws_alone machine after line (Some (commands.Commit c.in-Commit.name)) is refl (CommitDoes machine c.in-Commit.name) (λ disk does h. h) bytes refuses so) (λ same. subst (λ (m : Machine). m.next ≤ machine.next + 1) (sym same) (omega arith)) answers c.commit.ensures.err

pub returns-in-Commit-clause-fails : goal.returns-in-Commit-clause-fails
returns-in-Commit-clause-fails g c =
    let machine = c.args.self.now in let after = c.commit.new.self in let line = c.args.line.now in
    let files = g.F.Files.tells c.args.files.now in let old = c.args.out.now.items in let new = c.commit.new.out.items in
    let is : command_of line ≡ Some (commands.Commit c.in-Commit.name) = sym c.in_ok-command.ensures ∙ (c.in-Some.is ∙ ap (λ (x : Command). Some x) c.in-Commit.is) in
    let answers = c.commit.ensures.answers in
    on_err c.commit.result _ (asked_nothing files)

pub returns-in-Rollback-clause-answers : goal.returns-in-Rollback-clause-answers
returns-in-Rollback-clause-answers g c =
    let machine = c.args.self.now in let after = c.rollback.new.self in let line = c.args.line.now in
    let files = g.F.Files.tells c.args.files.now in let old = c.args.out.now.items in let new = c.rollback.new.out.items in
    let is : command_of line ≡ Some (commands.Rollback c.in-Rollback.name) = sym c.in_ok-command.ensures ∙ (c.in-Some.is ∙ ap (λ (x : Command). Some x) c.in-Rollback.is) in
    let answers = c.rollback.ensures.answers in
    adds_told c.rollback.result old new (λ bytes refuses. DoesSo (λ (does : Stepped Machine). does ≡ step_rollback machine c.in-Rollback.name) after bytes refuses) files.held (λ held bytes refuses. Answers step (file_of held) line machine files after files bytes refuses) (λ held told bytes refuses so. answers_alone machine after line (Some (commands.Rollback c.in-Rollback.name)) is refl (λ (does : Stepped Machine). does ≡ step_rollback machine c.in-Rollback.name) (λ disk does h. h) held files bytes refuses so) answers

pub returns-in-Rollback-clause-alone : goal.returns-in-Rollback-clause-alone
returns-in-Rollback-clause-alone g c =
    let machine = c.args.self.now in let after = c.rollback.new.self in let line = c.args.line.now in
    let files = g.F.Files.tells c.args.files.now in let old = c.args.out.now.items in let new = c.rollback.new.out.items in
    let is : command_of line ≡ Some (commands.Rollback c.in-Rollback.name) = sym c.in_ok-command.ensures ∙ (c.in-Some.is ∙ ap (λ (x : Command). Some x) c.in-Rollback.is) in
    let answers = c.rollback.ensures.answers in
    adds_given c.rollback.result old new (λ bytes refuses. DoesSo (λ (does : Stepped Machine). does ≡ step_rollback machine c.in-Rollback.name) after bytes refuses) (reads_files (command_of line) ≡ false) (λ bytes refuses. DoesAlone machine line after bytes refuses) (λ none bytes refuses so. does_alone machine after line (Some (commands.Rollback c.in-Rollback.name)) is refl (λ (does : Stepped Machine). does ≡ step_rollback machine c.in-Rollback.name) (λ disk does h. h) bytes refuses so) answers

pub returns-in-Rollback-clause-whatever : goal.returns-in-Rollback-clause-whatever
returns-in-Rollback-clause-whatever g c =
    let machine = c.args.self.now in let after = c.rollback.new.self in let line = c.args.line.now in
    let files = g.F.Files.tells c.args.files.now in let old = c.args.out.now.items in let new = c.rollback.new.out.items in
    let is : command_of line ≡ Some (commands.Rollback c.in-Rollback.name) = sym c.in_ok-command.ensures ∙ (c.in-Some.is ∙ ap (λ (x : Command). Some x) c.in-Rollback.is) in
    let answers = c.rollback.ensures.answers in
    adds_too c.rollback.result old new (λ bytes refuses. DoesSo (λ (does : Stepped Machine). does ≡ step_rollback machine c.in-Rollback.name) after bytes refuses) (λ bytes refuses. DoesSo (DoesWhatever machine (command_of line)) after bytes refuses) (λ bytes refuses so. whatever_alone machine after line (Some (commands.Rollback c.in-Rollback.name)) is refl (λ (does : Stepped Machine). does ≡ step_rollback machine c.in-Rollback.name) (λ disk does h. h) bytes refuses so) answers

pub returns-in-Rollback-clause-asks : goal.returns-in-Rollback-clause-asks
returns-in-Rollback-clause-asks g c =
    let machine = c.args.self.now in let after = c.rollback.new.self in let line = c.args.line.now in
    let files = g.F.Files.tells c.args.files.now in let old = c.args.out.now.items in let new = c.rollback.new.out.items in
    let is : command_of line ≡ Some (commands.Rollback c.in-Rollback.name) = sym c.in_ok-command.ensures ∙ (c.in-Some.is ∙ ap (λ (x : Command). Some x) c.in-Rollback.is) in
    let answers = c.rollback.ensures.answers in
    adds_too c.rollback.result old new (λ bytes refuses. DoesSo (λ (does : Stepped Machine). does ≡ step_rollback machine c.in-Rollback.name) after bytes refuses) (λ bytes refuses. AsksFor machine after files files bytes refuses) (λ bytes refuses so. asks_alone machine after line (Some (commands.Rollback c.in-Rollback.name)) is refl (λ (does : Stepped Machine). does ≡ step_rollback machine c.in-Rollback.name) (λ disk does h. h) files bytes refuses so) answers

pub returns-in-Rollback-clause-refused : goal.returns-in-Rollback-clause-refused
returns-in-Rollback-clause-refused g c =
    let machine = c.args.self.now in let after = c.rollback.new.self in let line = c.args.line.now in
    let files = g.F.Files.tells c.args.files.now in let old = c.args.out.now.items in let new = c.rollback.new.out.items in
    let is : command_of line ≡ Some (commands.Rollback c.in-Rollback.name) = sym c.in_ok-command.ensures ∙ (c.in-Some.is ∙ ap (λ (x : Command). Some x) c.in-Rollback.is) in
    let answers = c.rollback.ensures.answers in
    λ e. adds_refused c.rollback.result old new (λ bytes refuses. DoesSo (λ (does : Stepped Machine). does ≡ step_rollback machine c.in-Rollback.name) after bytes refuses) (ChangesNothing machine line after) (λ bytes so. changes_alone machine after line (Some (commands.Rollback c.in-Rollback.name)) is refl (λ (does : Stepped Machine). does ≡ step_rollback machine c.in-Rollback.name) (λ disk does h. h) bytes so) answers e

pub returns-in-Rollback-clause-drawn : goal.returns-in-Rollback-clause-drawn
returns-in-Rollback-clause-drawn g c =
    let machine = c.args.self.now in let after = c.rollback.new.self in let line = c.args.line.now in
    let files = g.F.Files.tells c.args.files.now in let old = c.args.out.now.items in let new = c.rollback.new.out.items in
    let is : command_of line ≡ Some (commands.Rollback c.in-Rollback.name) = sym c.in_ok-command.ensures ∙ (c.in-Some.is ∙ ap (λ (x : Command). Some x) c.in-Rollback.is) in
    let answers = c.rollback.ensures.answers in
    in_either c.rollback.result old new (λ bytes refuses. DoesSo (λ (does : Stepped Machine). does ≡ step_rollback machine c.in-Rollback.name) after bytes refuses) (after ≡ machine) (after.next ≤ machine.next + 1) (λ bytes refuses so. draws_alone machine after line (Some (commands.Rollback c.in-Rollback.name)) is refl (λ (does : Stepped Machine). does ≡ step_rollback machine c.in-Rollback.name) (λ disk does h. h) bytes refuses so) (λ same. subst (λ (m : Machine). m.next ≤ machine.next + 1) (sym same) (omega arith)) answers c.rollback.ensures.err

pub returns-in-Rollback-clause-fails : goal.returns-in-Rollback-clause-fails
returns-in-Rollback-clause-fails g c =
    let machine = c.args.self.now in let after = c.rollback.new.self in let line = c.args.line.now in
    let files = g.F.Files.tells c.args.files.now in let old = c.args.out.now.items in let new = c.rollback.new.out.items in
    let is : command_of line ≡ Some (commands.Rollback c.in-Rollback.name) = sym c.in_ok-command.ensures ∙ (c.in-Some.is ∙ ap (λ (x : Command). Some x) c.in-Rollback.is) in
    let answers = c.rollback.ensures.answers in
    on_err c.rollback.result _ (asked_nothing files)

pub returns-in-Flush-clause-answers : goal.returns-in-Flush-clause-answers
returns-in-Flush-clause-answers g c =
    let machine = c.args.self.now in let after = c.flush.new.self in let line = c.args.line.now in
    let files = g.F.Files.tells c.args.files.now in let old = c.args.out.now.items in let new = c.flush.new.out.items in
    let is : command_of line ≡ Some (commands.Flush c.in-Flush.path) = sym c.in_ok-command.ensures ∙ (c.in-Some.is ∙ ap (λ (x : Command). Some x) c.in-Flush.is) in
    let answers = c.flush.ensures.answers in
    adds_told c.flush.result old new (λ bytes refuses. DoesSo (λ (does : Stepped Machine). does ≡ step_flush machine c.in-Flush.path) after bytes refuses) files.held (λ held bytes refuses. Answers step (file_of held) line machine files after files bytes refuses) (λ held told bytes refuses so. answers_alone machine after line (Some (commands.Flush c.in-Flush.path)) is refl (λ (does : Stepped Machine). does ≡ step_flush machine c.in-Flush.path) (λ disk does h. h) held files bytes refuses so) answers

pub returns-in-Flush-clause-alone : goal.returns-in-Flush-clause-alone
returns-in-Flush-clause-alone g c =
    let machine = c.args.self.now in let after = c.flush.new.self in let line = c.args.line.now in
    let files = g.F.Files.tells c.args.files.now in let old = c.args.out.now.items in let new = c.flush.new.out.items in
    let is : command_of line ≡ Some (commands.Flush c.in-Flush.path) = sym c.in_ok-command.ensures ∙ (c.in-Some.is ∙ ap (λ (x : Command). Some x) c.in-Flush.is) in
    let answers = c.flush.ensures.answers in
    adds_given c.flush.result old new (λ bytes refuses. DoesSo (λ (does : Stepped Machine). does ≡ step_flush machine c.in-Flush.path) after bytes refuses) (reads_files (command_of line) ≡ false) (λ bytes refuses. DoesAlone machine line after bytes refuses) (λ none bytes refuses so. does_alone machine after line (Some (commands.Flush c.in-Flush.path)) is refl (λ (does : Stepped Machine). does ≡ step_flush machine c.in-Flush.path) (λ disk does h. h) bytes refuses so) answers

pub returns-in-Flush-clause-whatever : goal.returns-in-Flush-clause-whatever
returns-in-Flush-clause-whatever g c =
    let machine = c.args.self.now in let after = c.flush.new.self in let line = c.args.line.now in
    let files = g.F.Files.tells c.args.files.now in let old = c.args.out.now.items in let new = c.flush.new.out.items in
    let is : command_of line ≡ Some (commands.Flush c.in-Flush.path) = sym c.in_ok-command.ensures ∙ (c.in-Some.is ∙ ap (λ (x : Command). Some x) c.in-Flush.is) in
    let answers = c.flush.ensures.answers in
    adds_too c.flush.result old new (λ bytes refuses. DoesSo (λ (does : Stepped Machine). does ≡ step_flush machine c.in-Flush.path) after bytes refuses) (λ bytes refuses. DoesSo (DoesWhatever machine (command_of line)) after bytes refuses) (λ bytes refuses so. whatever_alone machine after line (Some (commands.Flush c.in-Flush.path)) is refl (λ (does : Stepped Machine). does ≡ step_flush machine c.in-Flush.path) (λ disk does h. h) bytes refuses so) answers

pub returns-in-Flush-clause-asks : goal.returns-in-Flush-clause-asks
returns-in-Flush-clause-asks g c =
    let machine = c.args.self.now in let after = c.flush.new.self in let line = c.args.line.now in
    let files = g.F.Files.tells c.args.files.now in let old = c.args.out.now.items in let new = c.flush.new.out.items in
    let is : command_of line ≡ Some (commands.Flush c.in-Flush.path) = sym c.in_ok-command.ensures ∙ (c.in-Some.is ∙ ap (λ (x : Command). Some x) c.in-Flush.is) in
    let answers = c.flush.ensures.answers in
    adds_too c.flush.result old new (λ bytes refuses. DoesSo (λ (does : Stepped Machine). does ≡ step_flush machine c.in-Flush.path) after bytes refuses) (λ bytes refuses. AsksFor machine after files files bytes refuses) (λ bytes refuses so. asks_alone machine after line (Some (commands.Flush c.in-Flush.path)) is refl (λ (does : Stepped Machine). does ≡ step_flush machine c.in-Flush.path) (λ disk does h. h) files bytes refuses so) answers

pub returns-in-Flush-clause-refused : goal.returns-in-Flush-clause-refused
returns-in-Flush-clause-refused g c =
    let machine = c.args.self.now in let after = c.flush.new.self in let line = c.args.line.now in
    let files = g.F.Files.tells c.args.files.now in let old = c.args.out.now.items in let new = c.flush.new.out.items in
    let is : command_of line ≡ Some (commands.Flush c.in-Flush.path) = sym c.in_ok-command.ensures ∙ (c.in-Some.is ∙ ap (λ (x : Command). Some x) c.in-Flush.is) in
    let answers = c.flush.ensures.answers in
    λ e. adds_refused c.flush.result old new (λ bytes refuses. DoesSo (λ (does : Stepped Machine). does ≡ step_flush machine c.in-Flush.path) after bytes refuses) (ChangesNothing machine line after) (λ bytes so. changes_alone machine after line (Some (commands.Flush c.in-Flush.path)) is refl (λ (does : Stepped Machine). does ≡ step_flush machine c.in-Flush.path) (λ disk does h. h) bytes so) answers e

pub returns-in-Flush-clause-drawn : goal.returns-in-Flush-clause-drawn
returns-in-Flush-clause-drawn g c =
    let machine = c.args.self.now in let after = c.flush.new.self in let line = c.args.line.now in
    let files = g.F.Files.tells c.args.files.now in let old = c.args.out.now.items in let new = c.flush.new.out.items in
    let is : command_of line ≡ Some (commands.Flush c.in-Flush.path) = sym c.in_ok-command.ensures ∙ (c.in-Some.is ∙ ap (λ (x : Command). Some x) c.in-Flush.is) in
    let answers = c.flush.ensures.answers in
    in_either c.flush.result old new (λ bytes refuses. DoesSo (λ (does : Stepped Machine). does ≡ step_flush machine c.in-Flush.path) after bytes refuses) (after ≡ machine) (after.next ≤ machine.next + 1) (λ bytes refuses so. draws_alone machine after line (Some (commands.Flush c.in-Flush.path)) is refl (λ (does : Stepped Machine). does ≡ step_flush machine c.in-Flush.path) (λ disk does h. h) bytes refuses so) (λ same. subst (λ (m : Machine). m.next ≤ machine.next + 1) (sym same) (omega arith)) answers c.flush.ensures.err

pub returns-in-Flush-clause-fails : goal.returns-in-Flush-clause-fails
returns-in-Flush-clause-fails g c =
    let machine = c.args.self.now in let after = c.flush.new.self in let line = c.args.line.now in
    let files = g.F.Files.tells c.args.files.now in let old = c.args.out.now.items in let new = c.flush.new.out.items in
    let is : command_of line ≡ Some (commands.Flush c.in-Flush.path) = sym c.in_ok-command.ensures ∙ (c.in-Some.is ∙ ap (λ (x : Command). Some x) c.in-Flush.is) in
    let answers = c.flush.ensures.answers in
    on_err c.flush.result _ (asked_nothing files)

pub returns-in-Table-clause-answers : goal.returns-in-Table-clause-answers
returns-in-Table-clause-answers g c =
    let machine = c.args.self.now in let after = c.table.new.self in let line = c.args.line.now in
    let files = g.F.Files.tells c.args.files.now in let old = c.args.out.now.items in let new = c.table.new.out.items in
    let is : command_of line ≡ Some (commands.Table c.in-Table.path c.in-Table.name c.in-Table.action) = sym c.in_ok-command.ensures ∙ (c.in-Some.is ∙ ap (λ (x : Command). Some x) c.in-Table.is) in
    let answers = c.table.ensures.answers in
    adds_told c.table.result old new (λ bytes refuses. DoesSo (TableDoes machine c.in-Table.path c.in-Table.name c.in-Table.action) after bytes refuses) files.held (λ held bytes refuses. Answers step (file_of held) line machine files after files bytes refuses) (λ held told bytes refuses so. answers_alone machine after line (Some (commands.Table c.in-Table.path c.in-Table.name c.in-Table.action)) is refl (TableDoes machine c.in-Table.path c.in-Table.name c.in-Table.action) (λ disk does h. h) held files bytes refuses so) answers

pub returns-in-Table-clause-alone : goal.returns-in-Table-clause-alone
returns-in-Table-clause-alone g c =
    let machine = c.args.self.now in let after = c.table.new.self in let line = c.args.line.now in
    let files = g.F.Files.tells c.args.files.now in let old = c.args.out.now.items in let new = c.table.new.out.items in
    let is : command_of line ≡ Some (commands.Table c.in-Table.path c.in-Table.name c.in-Table.action) = sym c.in_ok-command.ensures ∙ (c.in-Some.is ∙ ap (λ (x : Command). Some x) c.in-Table.is) in
    let answers = c.table.ensures.answers in
    adds_given c.table.result old new (λ bytes refuses. DoesSo (TableDoes machine c.in-Table.path c.in-Table.name c.in-Table.action) after bytes refuses) (reads_files (command_of line) ≡ false) (λ bytes refuses. DoesAlone machine line after bytes refuses) (λ none bytes refuses so. does_alone machine after line (Some (commands.Table c.in-Table.path c.in-Table.name c.in-Table.action)) is refl (TableDoes machine c.in-Table.path c.in-Table.name c.in-Table.action) (λ disk does h. h) bytes refuses so) answers

pub returns-in-Table-clause-whatever : goal.returns-in-Table-clause-whatever
returns-in-Table-clause-whatever g c =
    let machine = c.args.self.now in let after = c.table.new.self in let line = c.args.line.now in
    let files = g.F.Files.tells c.args.files.now in let old = c.args.out.now.items in let new = c.table.new.out.items in
    let is : command_of line ≡ Some (commands.Table c.in-Table.path c.in-Table.name c.in-Table.action) = sym c.in_ok-command.ensures ∙ (c.in-Some.is ∙ ap (λ (x : Command). Some x) c.in-Table.is) in
    let answers = c.table.ensures.answers in
    adds_too c.table.result old new (λ bytes refuses. DoesSo (TableDoes machine c.in-Table.path c.in-Table.name c.in-Table.action) after bytes refuses) (λ bytes refuses. DoesSo (DoesWhatever machine (command_of line)) after bytes refuses) (λ bytes refuses so. whatever_alone machine after line (Some (commands.Table c.in-Table.path c.in-Table.name c.in-Table.action)) is refl (TableDoes machine c.in-Table.path c.in-Table.name c.in-Table.action) (λ disk does h. h) bytes refuses so) answers

pub returns-in-Table-clause-asks : goal.returns-in-Table-clause-asks
returns-in-Table-clause-asks g c =
    let machine = c.args.self.now in let after = c.table.new.self in let line = c.args.line.now in
    let files = g.F.Files.tells c.args.files.now in let old = c.args.out.now.items in let new = c.table.new.out.items in
    let is : command_of line ≡ Some (commands.Table c.in-Table.path c.in-Table.name c.in-Table.action) = sym c.in_ok-command.ensures ∙ (c.in-Some.is ∙ ap (λ (x : Command). Some x) c.in-Table.is) in
    let answers = c.table.ensures.answers in
    adds_too c.table.result old new (λ bytes refuses. DoesSo (TableDoes machine c.in-Table.path c.in-Table.name c.in-Table.action) after bytes refuses) (λ bytes refuses. AsksFor machine after files files bytes refuses) (λ bytes refuses so. asks_alone machine after line (Some (commands.Table c.in-Table.path c.in-Table.name c.in-Table.action)) is refl (TableDoes machine c.in-Table.path c.in-Table.name c.in-Table.action) (λ disk does h. h) files bytes refuses so) answers

pub returns-in-Table-clause-refused : goal.returns-in-Table-clause-refused
returns-in-Table-clause-refused g c =
    let machine = c.args.self.now in let after = c.table.new.self in let line = c.args.line.now in
    let files = g.F.Files.tells c.args.files.now in let old = c.args.out.now.items in let new = c.table.new.out.items in
    let is : command_of line ≡ Some (commands.Table c.in-Table.path c.in-Table.name c.in-Table.action) = sym c.in_ok-command.ensures ∙ (c.in-Some.is ∙ ap (λ (x : Command). Some x) c.in-Table.is) in
    let answers = c.table.ensures.answers in
    λ e. adds_refused c.table.result old new (λ bytes refuses. DoesSo (TableDoes machine c.in-Table.path c.in-Table.name c.in-Table.action) after bytes refuses) (ChangesNothing machine line after) (λ bytes so. changes_alone machine after line (Some (commands.Table c.in-Table.path c.in-Table.name c.in-Table.action)) is refl (TableDoes machine c.in-Table.path c.in-Table.name c.in-Table.action) (λ disk does h. h) bytes so) answers e

pub returns-in-Table-clause-drawn : goal.returns-in-Table-clause-drawn
returns-in-Table-clause-drawn g c =
    let machine = c.args.self.now in let after = c.table.new.self in let line = c.args.line.now in
    let files = g.F.Files.tells c.args.files.now in let old = c.args.out.now.items in let new = c.table.new.out.items in
    let is : command_of line ≡ Some (commands.Table c.in-Table.path c.in-Table.name c.in-Table.action) = sym c.in_ok-command.ensures ∙ (c.in-Some.is ∙ ap (λ (x : Command). Some x) c.in-Table.is) in
    let answers = c.table.ensures.answers in
    in_either c.table.result old new (λ bytes refuses. DoesSo (TableDoes machine c.in-Table.path c.in-Table.name c.in-Table.action) after bytes refuses) (after ≡ machine) (after.next ≤ machine.next + 1) (λ bytes refuses so. draws_alone machine after line (Some (commands.Table c.in-Table.path c.in-Table.name c.in-Table.action)) is refl (TableDoes machine c.in-Table.path c.in-Table.name c.in-Table.action) (λ disk does h. h) bytes refuses so) (λ same. subst (λ (m : Machine). m.next ≤ machine.next + 1) (sym same) (omega arith)) answers c.table.ensures.err

pub returns-in-Table-clause-fails : goal.returns-in-Table-clause-fails
returns-in-Table-clause-fails g c =
    let machine = c.args.self.now in let after = c.table.new.self in let line = c.args.line.now in
    let files = g.F.Files.tells c.args.files.now in let old = c.args.out.now.items in let new = c.table.new.out.items in
    let is : command_of line ≡ Some (commands.Table c.in-Table.path c.in-Table.name c.in-Table.action) = sym c.in_ok-command.ensures ∙ (c.in-Some.is ∙ ap (λ (x : Command). Some x) c.in-Table.is) in
    let answers = c.table.ensures.answers in
    on_err c.table.result _ (asked_nothing files)

pub returns-in-Show-clause-answers : goal.returns-in-Show-clause-answers
returns-in-Show-clause-answers g c =
    let machine = c.args.self.now in let after = machine in let line = c.args.line.now in
    let files = g.F.Files.tells c.args.files.now in let old = c.args.out.now.items in let new = c.show.new.out.items in
    let is : command_of line ≡ Some (commands.Show c.in-Show.show) = sym c.in_ok-command.ensures ∙ (c.in-Some.is ∙ ap (λ (x : Command). Some x) c.in-Show.is) in
    let answers = c.show.ensures.answers in
    adds_told c.show.result old new (λ bytes refuses. DoesSo (λ (does : Stepped Machine). does ≡ show machine c.in-Show.show) after bytes refuses) files.held (λ held bytes refuses. Answers step (file_of held) line machine files after files bytes refuses) (λ held told bytes refuses so. answers_alone machine after line (Some (commands.Show c.in-Show.show)) is refl (λ (does : Stepped Machine). does ≡ show machine c.in-Show.show) (λ disk does h. h) held files bytes refuses so) answers

pub returns-in-Show-clause-alone : goal.returns-in-Show-clause-alone
returns-in-Show-clause-alone g c =
    let machine = c.args.self.now in let after = machine in let line = c.args.line.now in
    let files = g.F.Files.tells c.args.files.now in let old = c.args.out.now.items in let new = c.show.new.out.items in
    let is : command_of line ≡ Some (commands.Show c.in-Show.show) = sym c.in_ok-command.ensures ∙ (c.in-Some.is ∙ ap (λ (x : Command). Some x) c.in-Show.is) in
    let answers = c.show.ensures.answers in
    adds_given c.show.result old new (λ bytes refuses. DoesSo (λ (does : Stepped Machine). does ≡ show machine c.in-Show.show) after bytes refuses) (reads_files (command_of line) ≡ false) (λ bytes refuses. DoesAlone machine line after bytes refuses) (λ none bytes refuses so. does_alone machine after line (Some (commands.Show c.in-Show.show)) is refl (λ (does : Stepped Machine). does ≡ show machine c.in-Show.show) (λ disk does h. h) bytes refuses so) answers

pub returns-in-Show-clause-whatever : goal.returns-in-Show-clause-whatever
returns-in-Show-clause-whatever g c =
    let machine = c.args.self.now in let after = machine in let line = c.args.line.now in
    let files = g.F.Files.tells c.args.files.now in let old = c.args.out.now.items in let new = c.show.new.out.items in
    let is : command_of line ≡ Some (commands.Show c.in-Show.show) = sym c.in_ok-command.ensures ∙ (c.in-Some.is ∙ ap (λ (x : Command). Some x) c.in-Show.is) in
    let answers = c.show.ensures.answers in
    adds_too c.show.result old new (λ bytes refuses. DoesSo (λ (does : Stepped Machine). does ≡ show machine c.in-Show.show) after bytes refuses) (λ bytes refuses. DoesSo (DoesWhatever machine (command_of line)) after bytes refuses) (λ bytes refuses so. whatever_alone machine after line (Some (commands.Show c.in-Show.show)) is refl (λ (does : Stepped Machine). does ≡ show machine c.in-Show.show) (λ disk does h. h) bytes refuses so) answers

pub returns-in-Show-clause-asks : goal.returns-in-Show-clause-asks
returns-in-Show-clause-asks g c =
    let machine = c.args.self.now in let after = machine in let line = c.args.line.now in
    let files = g.F.Files.tells c.args.files.now in let old = c.args.out.now.items in let new = c.show.new.out.items in
    let is : command_of line ≡ Some (commands.Show c.in-Show.show) = sym c.in_ok-command.ensures ∙ (c.in-Some.is ∙ ap (λ (x : Command). Some x) c.in-Show.is) in
    let answers = c.show.ensures.answers in
    adds_too c.show.result old new (λ bytes refuses. DoesSo (λ (does : Stepped Machine). does ≡ show machine c.in-Show.show) after bytes refuses) (λ bytes refuses. AsksFor machine after files files bytes refuses) (λ bytes refuses so. asks_alone machine after line (Some (commands.Show c.in-Show.show)) is refl (λ (does : Stepped Machine). does ≡ show machine c.in-Show.show) (λ disk does h. h) files bytes refuses so) answers

pub returns-in-Show-clause-refused : goal.returns-in-Show-clause-refused
returns-in-Show-clause-refused g c =
    let machine = c.args.self.now in let after = machine in let line = c.args.line.now in
    let files = g.F.Files.tells c.args.files.now in let old = c.args.out.now.items in let new = c.show.new.out.items in
    let is : command_of line ≡ Some (commands.Show c.in-Show.show) = sym c.in_ok-command.ensures ∙ (c.in-Some.is ∙ ap (λ (x : Command). Some x) c.in-Show.is) in
    let answers = c.show.ensures.answers in
    λ e. adds_refused c.show.result old new (λ bytes refuses. DoesSo (λ (does : Stepped Machine). does ≡ show machine c.in-Show.show) after bytes refuses) (ChangesNothing machine line after) (λ bytes so. changes_alone machine after line (Some (commands.Show c.in-Show.show)) is refl (λ (does : Stepped Machine). does ≡ show machine c.in-Show.show) (λ disk does h. h) bytes so) answers e

pub returns-in-Show-clause-fails : goal.returns-in-Show-clause-fails
returns-in-Show-clause-fails g c =
    let machine = c.args.self.now in let after = machine in let line = c.args.line.now in
    let files = g.F.Files.tells c.args.files.now in let old = c.args.out.now.items in let new = c.show.new.out.items in
    let is : command_of line ≡ Some (commands.Show c.in-Show.show) = sym c.in_ok-command.ensures ∙ (c.in-Some.is ∙ ap (λ (x : Command). Some x) c.in-Show.is) in
    let answers = c.show.ensures.answers in
    on_err c.show.result _ (asked_nothing files)

pub returns-in-Test-clause-answers : goal.returns-in-Test-clause-answers
returns-in-Test-clause-answers g c =
    let machine = c.args.self.now in let after = machine in let line = c.args.line.now in
    let files = g.F.Files.tells c.args.files.now in let old = c.args.out.now.items in let new = c.test.new.out.items in
    let is : command_of line ≡ Some (commands.Test c.in-Test.record) = sym c.in_ok-command.ensures ∙ (c.in-Some.is ∙ ap (λ (x : Command). Some x) c.in-Test.is) in
    let answers = c.test.ensures.answers in
    adds_told c.test.result old new (λ bytes refuses. DoesSo (TestDoes machine c.bytes.result.now) after bytes refuses) files.held (λ held bytes refuses. Answers step (file_of held) line machine files after files bytes refuses) (λ held told bytes refuses so. answers_alone machine after line (Some (commands.Test c.in-Test.record)) is refl (TestDoes machine c.bytes.result.now) (λ disk does h. subst (λ (text : List ℕ). TestDoes machine text does) c.bytes.ensures h) held files bytes refuses so) answers

pub returns-in-Test-clause-alone : goal.returns-in-Test-clause-alone
returns-in-Test-clause-alone g c =
    let machine = c.args.self.now in let after = machine in let line = c.args.line.now in
    let files = g.F.Files.tells c.args.files.now in let old = c.args.out.now.items in let new = c.test.new.out.items in
    let is : command_of line ≡ Some (commands.Test c.in-Test.record) = sym c.in_ok-command.ensures ∙ (c.in-Some.is ∙ ap (λ (x : Command). Some x) c.in-Test.is) in
    let answers = c.test.ensures.answers in
    adds_given c.test.result old new (λ bytes refuses. DoesSo (TestDoes machine c.bytes.result.now) after bytes refuses) (reads_files (command_of line) ≡ false) (λ bytes refuses. DoesAlone machine line after bytes refuses) (λ none bytes refuses so. does_alone machine after line (Some (commands.Test c.in-Test.record)) is refl (TestDoes machine c.bytes.result.now) (λ disk does h. subst (λ (text : List ℕ). TestDoes machine text does) c.bytes.ensures h) bytes refuses so) answers

pub returns-in-Test-clause-whatever : goal.returns-in-Test-clause-whatever
returns-in-Test-clause-whatever g c =
    let machine = c.args.self.now in let after = machine in let line = c.args.line.now in
    let files = g.F.Files.tells c.args.files.now in let old = c.args.out.now.items in let new = c.test.new.out.items in
    let is : command_of line ≡ Some (commands.Test c.in-Test.record) = sym c.in_ok-command.ensures ∙ (c.in-Some.is ∙ ap (λ (x : Command). Some x) c.in-Test.is) in
    let answers = c.test.ensures.answers in
    adds_too c.test.result old new (λ bytes refuses. DoesSo (TestDoes machine c.bytes.result.now) after bytes refuses) (λ bytes refuses. DoesSo (DoesWhatever machine (command_of line)) after bytes refuses) (λ bytes refuses so. whatever_alone machine after line (Some (commands.Test c.in-Test.record)) is refl (TestDoes machine c.bytes.result.now) (λ disk does h. subst (λ (text : List ℕ). TestDoes machine text does) c.bytes.ensures h) bytes refuses so) answers

pub returns-in-Test-clause-asks : goal.returns-in-Test-clause-asks
returns-in-Test-clause-asks g c =
    let machine = c.args.self.now in let after = machine in let line = c.args.line.now in
    let files = g.F.Files.tells c.args.files.now in let old = c.args.out.now.items in let new = c.test.new.out.items in
    let is : command_of line ≡ Some (commands.Test c.in-Test.record) = sym c.in_ok-command.ensures ∙ (c.in-Some.is ∙ ap (λ (x : Command). Some x) c.in-Test.is) in
    let answers = c.test.ensures.answers in
    adds_too c.test.result old new (λ bytes refuses. DoesSo (TestDoes machine c.bytes.result.now) after bytes refuses) (λ bytes refuses. AsksFor machine after files files bytes refuses) (λ bytes refuses so. asks_alone machine after line (Some (commands.Test c.in-Test.record)) is refl (TestDoes machine c.bytes.result.now) (λ disk does h. subst (λ (text : List ℕ). TestDoes machine text does) c.bytes.ensures h) files bytes refuses so) answers

pub returns-in-Test-clause-refused : goal.returns-in-Test-clause-refused
returns-in-Test-clause-refused g c =
    let machine = c.args.self.now in let after = machine in let line = c.args.line.now in
    let files = g.F.Files.tells c.args.files.now in let old = c.args.out.now.items in let new = c.test.new.out.items in
    let is : command_of line ≡ Some (commands.Test c.in-Test.record) = sym c.in_ok-command.ensures ∙ (c.in-Some.is ∙ ap (λ (x : Command). Some x) c.in-Test.is) in
    let answers = c.test.ensures.answers in
    λ e. adds_refused c.test.result old new (λ bytes refuses. DoesSo (TestDoes machine c.bytes.result.now) after bytes refuses) (ChangesNothing machine line after) (λ bytes so. changes_alone machine after line (Some (commands.Test c.in-Test.record)) is refl (TestDoes machine c.bytes.result.now) (λ disk does h. subst (λ (text : List ℕ). TestDoes machine text does) c.bytes.ensures h) bytes so) answers e

pub returns-in-Test-clause-fails : goal.returns-in-Test-clause-fails
returns-in-Test-clause-fails g c =
    let machine = c.args.self.now in let after = machine in let line = c.args.line.now in
    let files = g.F.Files.tells c.args.files.now in let old = c.args.out.now.items in let new = c.test.new.out.items in
    let is : command_of line ≡ Some (commands.Test c.in-Test.record) = sym c.in_ok-command.ensures ∙ (c.in-Some.is ∙ ap (λ (x : Command). Some x) c.in-Test.is) in
    let answers = c.test.ensures.answers in
    on_err c.test.result _ (asked_nothing files)

pub returns-in-Load-clause-answers : goal.returns-in-Load-clause-answers
returns-in-Load-clause-answers g c =
    let machine = c.args.self.now in let after = c.load.new.self in let line = c.args.line.now in
    let files = g.F.Files.tells c.args.files.now in let files' = g.F.Files.tells c.load.new.files in let old = c.args.out.now.items in let new = c.load.new.out.items in
    let is : command_of line ≡ Some (commands.Load c.in-Load.line) = sym c.in_ok-command.ensures ∙ (c.in-Some.is ∙ ap (λ (x : Command). Some x) c.in-Load.is) in
    told_too c.load.result old new files.held (λ held bytes refuses. Answers (λ disk machine name does. LoadDoes disk machine c.in-Load.line does) (file_of held) [] machine files after files' bytes refuses) (λ held bytes refuses. Answers step (file_of held) line machine files after files' bytes refuses) (λ held bytes refuses h. answers_by_files (λ disk machine name does. LoadDoes disk machine c.in-Load.line does) [] machine after line (commands.Load c.in-Load.line) files files' (file_of held) bytes refuses is (λ disk does so. so) h) c.load.ensures.answers

pub returns-in-Load-clause-alone : goal.returns-in-Load-clause-alone
returns-in-Load-clause-alone g c =
    let machine = c.args.self.now in let after = c.load.new.self in let line = c.args.line.now in
    let files = g.F.Files.tells c.args.files.now in let files' = g.F.Files.tells c.load.new.files in let old = c.args.out.now.items in let new = c.load.new.out.items in
    let is : command_of line ≡ Some (commands.Load c.in-Load.line) = sym c.in_ok-command.ensures ∙ (c.in-Some.is ∙ ap (λ (x : Command). Some x) c.in-Load.is) in
    adds_given c.load.result old new (λ bytes refuses. DoesSo (UsesSome c.in-Load.line (Loading machine)) after bytes refuses) (reads_files (command_of line) ≡ false) (λ bytes refuses. DoesAlone machine line after bytes refuses) (λ none bytes refuses so. absurd (reads_some line (Some (commands.Load c.in-Load.line)) is refl none)) c.load.ensures.whatever

pub returns-in-Load-clause-whatever : goal.returns-in-Load-clause-whatever
returns-in-Load-clause-whatever g c =
    let machine = c.args.self.now in let after = c.load.new.self in let line = c.args.line.now in
    let files = g.F.Files.tells c.args.files.now in let files' = g.F.Files.tells c.load.new.files in let old = c.args.out.now.items in let new = c.load.new.out.items in
    let is : command_of line ≡ Some (commands.Load c.in-Load.line) = sym c.in_ok-command.ensures ∙ (c.in-Some.is ∙ ap (λ (x : Command). Some x) c.in-Load.is) in
    adds_too c.load.result old new (λ bytes refuses. DoesSo (UsesSome c.in-Load.line (Loading machine)) after bytes refuses) (λ bytes refuses. DoesSo (DoesWhatever machine (command_of line)) after bytes refuses) (λ bytes refuses so. whatever_so (UsesSome c.in-Load.line (Loading machine)) machine after line (Some (commands.Load c.in-Load.line)) bytes refuses is (λ does h. h) so) c.load.ensures.whatever

pub returns-in-Load-clause-refused : goal.returns-in-Load-clause-refused
returns-in-Load-clause-refused g c = λ e. inl (c.load.ensures.refused e)

pub returns-in-Check-clause-answers : goal.returns-in-Check-clause-answers
returns-in-Check-clause-answers g c =
    let machine = c.args.self.now in let after = machine in let line = c.args.line.now in
    let files = g.F.Files.tells c.args.files.now in let files' = g.F.Files.tells c.check.new.files in let old = c.args.out.now.items in let new = c.check.new.out.items in
    let is : command_of line ≡ Some (commands.Check c.in-Check.line) = sym c.in_ok-command.ensures ∙ (c.in-Some.is ∙ ap (λ (x : Command). Some x) c.in-Check.is) in
    told_too c.check.result old new files.held (λ held bytes refuses. Answers (λ disk machine name does. CheckDoes disk machine c.in-Check.line does) (file_of held) [] machine files after files' bytes refuses) (λ held bytes refuses. Answers step (file_of held) line machine files after files' bytes refuses) (λ held bytes refuses h. answers_by_files (λ disk machine name does. CheckDoes disk machine c.in-Check.line does) [] machine after line (commands.Check c.in-Check.line) files files' (file_of held) bytes refuses is (λ disk does so. so) h) c.check.ensures.answers

pub returns-in-Check-clause-alone : goal.returns-in-Check-clause-alone
returns-in-Check-clause-alone g c =
    let machine = c.args.self.now in let after = machine in let line = c.args.line.now in
    let files = g.F.Files.tells c.args.files.now in let files' = g.F.Files.tells c.check.new.files in let old = c.args.out.now.items in let new = c.check.new.out.items in
    let is : command_of line ≡ Some (commands.Check c.in-Check.line) = sym c.in_ok-command.ensures ∙ (c.in-Some.is ∙ ap (λ (x : Command). Some x) c.in-Check.is) in
    adds_given c.check.result old new (λ bytes refuses. DoesSo (UsesSome c.in-Check.line (Checking machine)) after bytes refuses) (reads_files (command_of line) ≡ false) (λ bytes refuses. DoesAlone machine line after bytes refuses) (λ none bytes refuses so. absurd (reads_some line (Some (commands.Check c.in-Check.line)) is refl none)) c.check.ensures.whatever

pub returns-in-Check-clause-whatever : goal.returns-in-Check-clause-whatever
returns-in-Check-clause-whatever g c =
    let machine = c.args.self.now in let after = machine in let line = c.args.line.now in
    let files = g.F.Files.tells c.args.files.now in let files' = g.F.Files.tells c.check.new.files in let old = c.args.out.now.items in let new = c.check.new.out.items in
    let is : command_of line ≡ Some (commands.Check c.in-Check.line) = sym c.in_ok-command.ensures ∙ (c.in-Some.is ∙ ap (λ (x : Command). Some x) c.in-Check.is) in
    adds_too c.check.result old new (λ bytes refuses. DoesSo (UsesSome c.in-Check.line (Checking machine)) after bytes refuses) (λ bytes refuses. DoesSo (DoesWhatever machine (command_of line)) after bytes refuses) (λ bytes refuses so. whatever_so (UsesSome c.in-Check.line (Checking machine)) machine after line (Some (commands.Check c.in-Check.line)) bytes refuses is (λ does h. h) so) c.check.ensures.whatever

pub returns-in-Open-clause-answers : goal.returns-in-Open-clause-answers
returns-in-Open-clause-answers g c =
    let machine = c.args.self.now in let after = c.open.new.self in let line = c.args.line.now in
    let files = g.F.Files.tells c.args.files.now in let files' = g.F.Files.tells c.open.new.files in let old = c.args.out.now.items in let new = c.open.new.out.items in
    let is : command_of line ≡ Some (commands.Open c.in-Open.name c.in-Open.line) = sym c.in_ok-command.ensures ∙ (c.in-Some.is ∙ ap (λ (x : Command). Some x) c.in-Open.is) in
    told_too c.open.result old new files.held (λ held bytes refuses. Answers (λ disk machine other does. OpenDoes disk machine c.in-Open.name c.in-Open.line does) (file_of held) [] machine files after files' bytes refuses) (λ held bytes refuses. Answers step (file_of held) line machine files after files' bytes refuses) (λ held bytes refuses h. answers_by_files (λ disk machine other does. OpenDoes disk machine c.in-Open.name c.in-Open.line does) [] machine after line (commands.Open c.in-Open.name c.in-Open.line) files files' (file_of held) bytes refuses is (λ disk does so. so) h) c.open.ensures.answers

pub returns-in-Open-clause-alone : goal.returns-in-Open-clause-alone
returns-in-Open-clause-alone g c =
    let machine = c.args.self.now in let after = c.open.new.self in let line = c.args.line.now in
    let files = g.F.Files.tells c.args.files.now in let files' = g.F.Files.tells c.open.new.files in let old = c.args.out.now.items in let new = c.open.new.out.items in
    let is : command_of line ≡ Some (commands.Open c.in-Open.name c.in-Open.line) = sym c.in_ok-command.ensures ∙ (c.in-Some.is ∙ ap (λ (x : Command). Some x) c.in-Open.is) in
    adds_given c.open.result old new (λ bytes refuses. DoesSo (OpensSome (entry_refusal machine c.in-Open.name) machine c.in-Open.name c.in-Open.line) after bytes refuses) (reads_files (command_of line) ≡ false) (λ bytes refuses. DoesAlone machine line after bytes refuses) (λ none bytes refuses so. absurd (reads_some line (Some (commands.Open c.in-Open.name c.in-Open.line)) is refl none)) c.open.ensures.whatever

pub returns-in-Open-clause-whatever : goal.returns-in-Open-clause-whatever
returns-in-Open-clause-whatever g c =
    let machine = c.args.self.now in let after = c.open.new.self in let line = c.args.line.now in
    let files = g.F.Files.tells c.args.files.now in let files' = g.F.Files.tells c.open.new.files in let old = c.args.out.now.items in let new = c.open.new.out.items in
    let is : command_of line ≡ Some (commands.Open c.in-Open.name c.in-Open.line) = sym c.in_ok-command.ensures ∙ (c.in-Some.is ∙ ap (λ (x : Command). Some x) c.in-Open.is) in
    adds_too c.open.result old new (λ bytes refuses. DoesSo (OpensSome (entry_refusal machine c.in-Open.name) machine c.in-Open.name c.in-Open.line) after bytes refuses) (λ bytes refuses. DoesSo (DoesWhatever machine (command_of line)) after bytes refuses) (λ bytes refuses so. whatever_so (OpensSome (entry_refusal machine c.in-Open.name) machine c.in-Open.name c.in-Open.line) machine after line (Some (commands.Open c.in-Open.name c.in-Open.line)) bytes refuses is (λ does h. h) so) c.open.ensures.whatever

pub returns-in-Open-clause-refused : goal.returns-in-Open-clause-refused
returns-in-Open-clause-refused g c = λ e. inl (c.open.ensures.refused e)

pub returns-in-Hosts-clause-answers : goal.returns-in-Hosts-clause-answers
returns-in-Hosts-clause-answers g c =
    let machine = c.args.self.now in let after = c.hosts.new.self in let line = c.args.line.now in
    let files = g.F.Files.tells c.args.files.now in let files' = g.F.Files.tells c.hosts.new.files in let old = c.args.out.now.items in let new = c.hosts.new.out.items in
    let is : command_of line ≡ Some (commands.Hosts c.in-Hosts.file) = sym c.in_ok-command.ensures ∙ (c.in-Some.is ∙ ap (λ (x : Command). Some x) c.in-Hosts.is) in
    told_too c.hosts.result old new files.held (λ held bytes refuses. Answers HostsDoes (file_of held) c.in-Hosts.file machine files after files' bytes refuses) (λ held bytes refuses. Answers step (file_of held) line machine files after files' bytes refuses) (λ held bytes refuses h. answers_by_files HostsDoes c.in-Hosts.file machine after line (commands.Hosts c.in-Hosts.file) files files' (file_of held) bytes refuses is (λ disk does so. so) h) c.hosts.ensures.answers

pub returns-in-Hosts-clause-alone : goal.returns-in-Hosts-clause-alone
returns-in-Hosts-clause-alone g c =
    let machine = c.args.self.now in let after = c.hosts.new.self in let line = c.args.line.now in
    let files = g.F.Files.tells c.args.files.now in let files' = g.F.Files.tells c.hosts.new.files in let old = c.args.out.now.items in let new = c.hosts.new.out.items in
    let is : command_of line ≡ Some (commands.Hosts c.in-Hosts.file) = sym c.in_ok-command.ensures ∙ (c.in-Some.is ∙ ap (λ (x : Command). Some x) c.in-Hosts.is) in
    adds_given c.hosts.result old new (λ bytes refuses. DoesSo (TakesFacts machine c.in-Hosts.file) after bytes refuses) (reads_files (command_of line) ≡ false) (λ bytes refuses. DoesAlone machine line after bytes refuses) (λ none bytes refuses so. absurd (reads_some line (Some (commands.Hosts c.in-Hosts.file)) is refl none)) c.hosts.ensures.whatever

pub returns-in-Hosts-clause-whatever : goal.returns-in-Hosts-clause-whatever
returns-in-Hosts-clause-whatever g c =
    let machine = c.args.self.now in let after = c.hosts.new.self in let line = c.args.line.now in
    let files = g.F.Files.tells c.args.files.now in let files' = g.F.Files.tells c.hosts.new.files in let old = c.args.out.now.items in let new = c.hosts.new.out.items in
    let is : command_of line ≡ Some (commands.Hosts c.in-Hosts.file) = sym c.in_ok-command.ensures ∙ (c.in-Some.is ∙ ap (λ (x : Command). Some x) c.in-Hosts.is) in
    adds_too c.hosts.result old new (λ bytes refuses. DoesSo (TakesFacts machine c.in-Hosts.file) after bytes refuses) (λ bytes refuses. DoesSo (DoesWhatever machine (command_of line)) after bytes refuses) (λ bytes refuses so. whatever_so (TakesFacts machine c.in-Hosts.file) machine after line (Some (commands.Hosts c.in-Hosts.file)) bytes refuses is (λ does h. h) so) c.hosts.ensures.whatever

pub returns-in-Hosts-clause-refused : goal.returns-in-Hosts-clause-refused
returns-in-Hosts-clause-refused g c = λ e. inl (c.hosts.ensures.refused e)
