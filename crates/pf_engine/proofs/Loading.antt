-- What was read for a line that loads, and what is done with it.
use Rattle.std.proofs.Common.{◌≡◌, ℕ, ◌+◌, ◌≤◌, Bool, true, List, [], Option, Some, None, Result, Ok, Err, refl, sym, ap, ◌∙◌, subst, arith}
use Rattle.pf_reply.specs.Refusals.{unread_of}
use Rattle.pf_reply.specs.declared.refusal.Refusal.{Refusal}
use Rattle.pf_reply.specs.declared.reply.Reply.{Reply}
use Rattle.pf_runs.specs.Runs.{Answers, Stepped}
use Rattle.pf_script.specs.declared.command.LoadLine.{LoadLine}
use Rattle.pf_source.specs.Asks.{Asks}
use Rattle.pf_source.specs.Disk.{Disk, without}
use Rattle.pf_source.specs.Told.{FilesTold, Held, file_of}
use Rattle.pf_state.specs.Commits.{loaded}
use Rattle.pf_state.specs.Sessions.{entry_refusal, open_refusal, opened}
use Rattle.pf_state.specs.declared.machine.Machine.{Machine}
use Rattle.pf_state.specs.declared.ready.Ready.{Ready}
use Rattle.pf_engine.specs.Answering.{AsksFor, DoesSo}
use Rattle.pf_engine.specs.FilesRead.{outage_in, unread_as}
use Rattle.pf_engine.specs.LoadLines.{CheckDoes, Checking, LineComes, LoadDoes, Loading, OpenBehind, OpenDoes, Opening}
use Rattle.pf_engine.specs.Steps.{done_unless, refused}
use Rattle.pf_engine.specs.Whatever.{LineMayCome, OpensSome}
use Rattle.pf_engine.proofs.Asking.{AsksWell, ReadsNothing, answered, answered_alone, asks_for, asks_none, refused_asks, unless_asks}
use Rattle.pf_engine.proofs.Judged.{entry_nothing, load_nothing, open_nothing}

-- What is known of what a command does with what was read.
pub record Uses (machine : Machine) (answer : Result Ready Refusal) (does : Stepped Machine) : Type 0 where
  pub unread : does.unread ≡ unread_as answer
  pub asks : AsksWell machine does
  pub same : does.refused ≡ true → does.machine ≡ machine
  pub draws : does.machine.next ≤ machine.next + 1

uses_by : (machine : Machine) (answer : Result Ready Refusal) (does other : Stepped Machine) → does ≡ other → Uses machine answer other → Uses machine answer does
uses_by machine answer does other is uses = subst (λ (d : Stepped Machine). Uses machine answer d) (sym is) uses

uses_refused : (machine : Machine) (refusal : Refusal) → Uses machine (Err refusal) (refused machine refusal)
uses_refused machine refusal = record { unread = refl; asks = refused_asks machine refusal; same = λ h. refl; draws = omega arith }

uses_unless : (refusal : Option Refusal) (machine after : Machine) (ready : Ready) (reply : Reply) → ReadsNothing refusal → after.next ≤ machine.next + 1 → Uses machine (Ok ready) (done_unless refusal machine after reply)
uses_unless None machine after ready reply none draws = record {
  unread = refl;
  asks = unless_asks None machine machine after reply none;
  same = λ h. cc;
  draws = draws;
}
uses_unless (Some refusal) machine after ready reply none draws = record {
  unread = none;
  asks = refused_asks machine refusal;
  same = λ h. refl;
  draws = omega arith;
}

pub loading_uses : (machine : Machine) (answer : Result Ready Refusal) (does : Stepped Machine) → Loading machine answer does → Uses machine answer does
loading_uses machine (Err refusal) does is = uses_by machine (Err refusal) does (refused machine refusal) is (uses_refused machine refusal)
loading_uses machine (Ok ready) does puts =
    uses_by machine (Ok ready) does _ puts.is
    (uses_unless puts.refusal machine (loaded ready machine) ready _ (load_nothing machine ready puts.refusal puts.judged) (omega arith))

pub checking_uses : (machine : Machine) (answer : Result Ready Refusal) (does : Stepped Machine) → Checking machine answer does → Uses machine answer does
checking_uses machine (Err refusal) does is = uses_by machine (Err refusal) does (refused machine refusal) is (uses_refused machine refusal)
checking_uses machine (Ok ready) does puts =
    uses_by machine (Ok ready) does _ puts.is
    (uses_unless puts.refusal machine machine ready _ (load_nothing machine ready puts.refusal puts.judged) (omega arith))

pub opening_uses : (machine : Machine) (name : List ℕ) (answer : Result Ready Refusal) (does : Stepped Machine) → Opening machine name answer does → Uses machine answer does
opening_uses machine name (Err refusal) does is = uses_by machine (Err refusal) does (refused machine refusal) is (uses_refused machine refusal)
opening_uses machine name (Ok ready) does is =
    uses_by machine (Ok ready) does _ is (uses_unless (open_refusal machine ready) machine (opened name ready machine) ready _ (open_nothing machine ready) (omega arith))

-- What was read was used, and so the line did what it says over the files.
module _ (machine after : Machine) (files files' : FilesTold) (line : LoadLine) (answer : Result Ready Refusal) (bytes : List ℕ) (refuses : Bool) where
  abbrev Came : Held → Type 0
  Came held = LineComes (without (outage_in answer) (file_of held)) machine.facts line answer

  pub load_answers : (held : Held) → files.held ≡ Some held → Came held → Asks (unread_as answer) files files' → DoesSo (Loading machine answer) after bytes refuses → Answers (λ disk machine name does. LoadDoes disk machine line does) (file_of held) [] machine files after files' bytes refuses
  load_answers held is came asks so =
      answered (λ disk answer. LineComes disk machine.facts line answer) (Loading machine) (λ disk machine name does. LoadDoes disk machine line does) []
      machine after files files' bytes refuses
      (λ disk answer does comes loading. record { answer = answer; comes = comes; loading = loading })
      (λ answer does loading. (loading_uses machine answer does loading).unread)
      held answer is came asks so

  pub check_answers : (held : Held) → files.held ≡ Some held → Came held → Asks (unread_as answer) files files' → DoesSo (Checking machine answer) after bytes refuses → Answers (λ disk machine name does. CheckDoes disk machine line does) (file_of held) [] machine files after files' bytes refuses
  check_answers held is came asks so =
      answered (λ disk answer. LineComes disk machine.facts line answer) (Checking machine) (λ disk machine name does. CheckDoes disk machine line does) []
      machine after files files' bytes refuses
      (λ disk answer does comes checking. record { answer = answer; comes = comes; checking = checking })
      (λ answer does checking. (checking_uses machine answer does checking).unread)
      held answer is came asks so

  pub open_answers : (name : List ℕ) → entry_refusal machine name ≡ None → (held : Held) → files.held ≡ Some held → Came held → Asks (unread_as answer) files files' → DoesSo (Opening machine name answer) after bytes refuses → Answers (λ disk machine _ does. OpenDoes disk machine name line does) (file_of held) [] machine files after files' bytes refuses
  open_answers name free held is came asks so =
      answered (λ disk answer. LineComes disk machine.facts line answer) (Opening machine name) (λ disk machine _ does. OpenDoes disk machine name line does) []
      machine after files files' bytes refuses
      (λ disk answer does comes opening. subst (λ (o : Option Refusal). OpenBehind o disk machine name line does) (sym free) (record { answer = answer; comes = comes; opening = opening }))
      (λ answer does opening. (opening_uses machine name answer does opening).unread)
      held answer is came asks so

  -- in any case this is what was asked, and a refusal changed nothing
  module _ (Doing : Stepped Machine → Type 0) (uses : (does : Stepped Machine) → Doing does → Uses machine answer does) (so : DoesSo Doing after bytes refuses) where
    pub asks_so : Asks (unread_as answer) files files' → AsksFor machine after files files' bytes refuses
    asks_so asks =
        let known = uses so.does so.so in
        asks_for machine after so.does bytes refuses files files' known.asks so.is (subst (λ (names : List (List ℕ)). Asks names files files') (sym known.unread) asks)

    pub same_so : refuses ≡ true → after ≡ machine
    same_so h = so.is.machine_is ∙ (uses so.does so.so).same (sym so.is.refused_is ∙ h)

    pub draws_so : after.next ≤ machine.next + 1
    draws_so = subst (λ (m : Machine). m.next ≤ machine.next + 1) (sym so.is.machine_is) (uses so.does so.so).draws

-- no session may be opened, and so no file is read
pub open_refused : (disk : Disk) (machine : Machine) (name : List ℕ) (line : LoadLine) (refusal : Refusal) → Some refusal ≡ entry_refusal machine name → OpenDoes disk machine name line (refused machine refusal)
open_refused disk machine name line refusal e = subst (λ (o : Option Refusal). OpenBehind o disk machine name line (refused machine refusal)) e refl

pub entry_reads_nothing : (machine : Machine) (name : List ℕ) (refusal : Refusal) → Some refusal ≡ entry_refusal machine name → unread_of refusal ≡ []
entry_reads_nothing machine name refusal e = subst ReadsNothing (sym e) (entry_nothing machine name)

module _ (machine : Machine) (name : List ℕ) (refusal : Refusal) (e : Some refusal ≡ entry_refusal machine name) (files : FilesTold) (bytes : List ℕ) (refuses : Bool) (so : DoesSo (λ does. does ≡ refused machine refusal) machine bytes refuses) where
  none_unread : so.does.unread ≡ []
  none_unread = ap (λ (d : Stepped Machine). d.unread) so.so ∙ entry_reads_nothing machine name refusal e

  pub refused_entry : (line : LoadLine) (disk : Disk) → Answers (λ disk machine other does. OpenDoes disk machine name line does) disk [] machine files machine files bytes refuses
  refused_entry line disk =
      answered_alone (λ disk machine other does. OpenDoes disk machine name line does) [] machine machine files bytes refuses disk so.does
      (subst (λ (d : Stepped Machine). OpenDoes disk machine name line d) (sym so.so) (open_refused disk machine name line refusal e)) none_unread so.is

  pub asked_entry : AsksFor machine machine files files bytes refuses
  asked_entry = asks_none machine machine so.does bytes refuses files (subst (λ (d : Stepped Machine). AsksWell machine d) (sym so.so) (refused_asks machine refusal)) none_unread so.is

pub entry_answers : (machine : Machine) (name : List ℕ) (line : LoadLine) (refusal : Refusal) → Some refusal ≡ entry_refusal machine name → (files : FilesTold) (disk : Disk) (bytes : List ℕ) (refuses : Bool) → DoesSo (λ does. does ≡ refused machine refusal) machine bytes refuses → Answers (λ disk machine other does. OpenDoes disk machine name line does) disk [] machine files machine files bytes refuses
entry_answers machine name line refusal e files disk bytes refuses so = refused_entry machine name refusal e files bytes refuses so line disk

pub entry_asks : (machine : Machine) (name : List ℕ) (refusal : Refusal) → Some refusal ≡ entry_refusal machine name → (files : FilesTold) (bytes : List ℕ) (refuses : Bool) → DoesSo (λ does. does ≡ refused machine refusal) machine bytes refuses → AsksFor machine machine files files bytes refuses
entry_asks machine name refusal e files bytes refuses so = asked_entry machine name refusal e files bytes refuses so

-- one may be opened
pub opens_some : (machine : Machine) (name : List ℕ) (line : LoadLine) (does : Stepped Machine) (answer : Result Ready Refusal) → None ≡ entry_refusal machine name → LineMayCome line answer → Opening machine name answer does → OpensSome (entry_refusal machine name) machine name line does
opens_some machine name line does answer e comes opening = subst (λ (o : Option Refusal). OpensSome o machine name line does) e (record { answer = answer; comes = comes; using = opening })
