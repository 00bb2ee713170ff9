-- What a line did and what files were asked, joined.
use Rattle.std.proofs.Common.{◌≡◌, ℕ, ◌+◌, ◌≤◌, Bool, true, false, List, [], ◌∷◌, ◌++◌, length, Option, Some, None, Result, Ok, Err, refl, sym, ap, ◌∙◌, subst, arith}
use Rattle.std.proofs.lemmas.Bool.{false≢true}
use Rattle.pf_reply.specs.Refusals.{refusal_text, unread_of}
use Rattle.pf_reply.specs.Replies as replies
use Rattle.pf_reply.specs.declared.refusal.Refusal.{Refusal}
use Rattle.pf_reply.specs.declared.refusal.Refusal.TheVariants as refusals
use Rattle.pf_reply.specs.declared.reply.Listing.{Listing}
use Rattle.pf_reply.specs.declared.reply.Reply.{Reply}
use Rattle.pf_runs.specs.Runs.{Answers, IsOutage, Step, Stepped, reply_text}
use Rattle.pf_source.specs.Asks.{Asks}
use Rattle.pf_source.specs.AskingLaws.{nothing_asked}
use Rattle.pf_source.specs.Disk.{AreAbsent, Disk, without}
use Rattle.pf_source.specs.DiskLaws.{same_disk}
use Rattle.pf_source.specs.Told.{FilesTold, Held, file_of}
use Rattle.pf_state.specs.declared.machine.Machine.{Machine}
use Rattle.pf_engine.specs.Answering.{AsksFor, Does, DoesSo, IsCause, MayFail, cannot_read_line}
use Rattle.pf_engine.specs.FilesRead.{outage_in, unread_as}
use Rattle.pf_engine.specs.Steps.{done, done_unless, refused, shown}
use Rattle.pf_engine.proofs.Apart.{IsOther, lines_other, other_line, refusal_tells, reply_other}

-- What a line does tells of a file exactly where it was refused for it, and has then changed nothing.
pub record AsksWell (before : Machine) (does : Stepped Machine) : Type 0 where
  pub apart : (name : List ℕ) → reply_text does.reply ≡ cannot_read_line name → does.unread ≡ name ∷ []
  pub cause : IsCause does.unread before does.machine (reply_text does.reply) does.refused

refused_cause : (machine : Machine) (refusal : Refusal) → IsCause (unread_of refusal) machine machine (reply_text (refusal_text refusal ∷ [])) true
refused_cause machine (refusals.CannotRead name) = record { told = refl; refused_is = refl; same = refl }
refused_cause machine refusal = tt

pub refused_asks : (machine : Machine) (refusal : Refusal) → AsksWell machine (refused machine refusal)
refused_asks machine refusal = record { apart = refusal_tells refusal; cause = refused_cause machine refusal }

-- a reply of another form, for which no read failed
pub quiet_asks : (before : Machine) (does : Stepped Machine) → does.unread ≡ [] → IsOther (reply_text does.reply) → AsksWell before does
quiet_asks before does none other = record {
  apart = λ name e. absurd (other_line (reply_text does.reply) name other e);
  cause = subst (λ (names : List (List ℕ)). IsCause names before does.machine (reply_text does.reply) does.refused) (sym none) tt;
}

pub done_asks : (before after : Machine) (reply : Reply) → AsksWell before (done after reply)
done_asks before after reply = quiet_asks before (done after reply) refl (lines_other (replies.reply_text reply) [] (reply_other reply))

-- no read failed for which this refusal is
abbrev pub ReadsNothing : Option Refusal → Type 0
ReadsNothing None = Unit {0}
ReadsNothing (Some refusal) = unread_of refusal ≡ []

-- a refusal for no file, which may have changed the machine
pub refused_quietly : (before machine : Machine) (refusal : Refusal) → unread_of refusal ≡ [] → AsksWell before (refused machine refusal)
refused_quietly before machine refusal none = record {
  apart = refusal_tells refusal;
  cause = subst (λ (names : List (List ℕ)). IsCause names before machine (reply_text (refusal_text refusal ∷ [])) true) (sym none) tt;
}

pub unless_asks : (refusal : Option Refusal) (before machine after : Machine) (reply : Reply) → ReadsNothing refusal → AsksWell before (done_unless refusal machine after reply)
unless_asks None before machine after reply none = done_asks before after reply
unless_asks (Some refusal) before machine after reply none = refused_quietly before machine refusal none

pub unless_unread : (refusal : Option Refusal) (machine after : Machine) (reply : Reply) → ReadsNothing refusal → (done_unless refusal machine after reply).unread ≡ []
unless_unread None machine after reply none = refl
unless_unread (Some refusal) machine after reply none = none

-- what was done, and what was asked
pub asks_for : (before after : Machine) (does : Stepped Machine) (bytes : List ℕ) (refuses : Bool) (files files' : FilesTold) → AsksWell before does → Does does after bytes refuses → Asks does.unread files files' → AsksFor before after files files' bytes refuses
asks_for before after does bytes refuses files files' well is asks = record {
  unread = does.unread;
  asks = asks;
  cause = subst (λ (m : Machine). IsCause does.unread before m bytes refuses) (sym is.machine_is)
      (subst (λ (b : List ℕ). IsCause does.unread before does.machine b refuses) (sym is.reply_is)
      (subst (λ (r : Bool). IsCause does.unread before does.machine (reply_text does.reply) r) (sym is.refused_is) well.cause));
  only = λ name e. well.apart name (sym is.reply_is ∙ e);
}

-- where no file was asked
pub asks_none : (before after : Machine) (does : Stepped Machine) (bytes : List ℕ) (refuses : Bool) (files : FilesTold) → AsksWell before does → does.unread ≡ [] → Does does after bytes refuses → AsksFor before after files files bytes refuses
asks_none before after does bytes refuses files well none is =
    asks_for before after does bytes refuses files files well is (subst (λ (names : List (List ℕ)). Asks names files files) (sym none) (nothing_asked files))

-- over steady files the disk is the same without what couldn't be read
no_outage : {A : Type 0} (answer : Result A Refusal) (disk : Disk) → AreAbsent disk (unread_as answer) → without (outage_in answer) disk ≡ disk
no_outage (Ok item) disk absent = refl
no_outage (Err (refusals.CannotRead name)) disk absent = same_disk disk name absent.0
no_outage (Err refusal) disk absent = refl

lost_in : {A : Type 0} (answer : Result A Refusal) (unread : List (List ℕ)) → unread ≡ unread_as answer → IsOutage (outage_in answer) unread
lost_in (Ok item) unread is = tt
lost_in (Err (refusals.CannotRead name)) unread is = is
lost_in (Err refusal) unread is = tt

pub few_of : (refusal : Refusal) → length (unread_of refusal) ≤ 1
few_of (refusals.CannotRead name) = omega arith
few_of refusal = omega arith

pub few_unread : {A : Type 0} (answer : Result A Refusal) → length (unread_as answer) ≤ 1
few_unread (Ok item) = omega arith
few_unread (Err refusal) = few_of refusal

-- What was read came of the files, without the one that couldn't be read, and was done.
pub answered : {A : Type 0} (Comes : Disk → Result A Refusal → Type 0) (Doing : Result A Refusal → Stepped Machine → Type 0) (by : Step Machine) (line : List ℕ)
    (before after : Machine) (files files' : FilesTold) (bytes : List ℕ) (refuses : Bool)
    (join : (disk : Disk) (answer : Result A Refusal) (does : Stepped Machine) → Comes disk answer → Doing answer does → by disk before line does)
    (told : (answer : Result A Refusal) (does : Stepped Machine) → Doing answer does → does.unread ≡ unread_as answer)
    (held : Held) (answer : Result A Refusal) → files.held ≡ Some held → Comes (without (outage_in answer) (file_of held)) answer → Asks (unread_as answer) files files' → DoesSo (Doing answer) after bytes refuses
    → Answers by (file_of held) line before files after files' bytes refuses
answered Comes Doing by line before after files files' bytes refuses join told held answer is comes asks so =
    let names = told answer so.does so.so in
    let asked = subst (λ (ns : List (List ℕ)). Asks ns files files') (sym names) asks in
    elim files.steady as (λ b. files.steady ≡ b → Answers by (file_of held) line before files after files' bytes refuses) [
      | true ↦ λ steady. record {
        outage = None;
        does = so.does;
        steps = join (file_of held) answer so.does (subst (λ (d : Disk). Comes d answer) (no_outage answer (file_of held) ((asks.steady steady).at held is)) comes) so.so;
        machine = so.is.machine_is;
        replies = so.is.reply_is;
        refuses = so.is.refused_is;
        lost = tt;
        asks = asked;
        sure = λ s. refl;
      }
      | false ↦ λ unsteady. record {
        outage = outage_in answer;
        does = so.does;
        steps = join (without (outage_in answer) (file_of held)) answer so.does comes so.so;
        machine = so.is.machine_is;
        replies = so.is.reply_is;
        refuses = so.is.refused_is;
        lost = lost_in answer so.does.unread names;
        asks = asked;
        sure = λ s. absurd (false≢true (sym unsteady ∙ s));
      }
    ] refl

-- where no file was asked, the line does the same over each disk
pub answered_alone : (by : Step Machine) (line : List ℕ) (before after : Machine) (files : FilesTold) (bytes : List ℕ) (refuses : Bool) (disk : Disk) (does : Stepped Machine) → by disk before line does → does.unread ≡ [] → Does does after bytes refuses → Answers by disk line before files after files bytes refuses
answered_alone by line before after files bytes refuses disk does steps none is = record {
  outage = None;
  does = does;
  steps = steps;
  machine = is.machine_is;
  replies = is.reply_is;
  refuses = is.refused_is;
  lost = tt;
  asks = subst (λ (names : List (List ℕ)). Asks names files files) (sym none) (nothing_asked files);
  sure = λ s. refl;
}

-- a read that failed at most
pub may_fail : (names : List (List ℕ)) (files files' : FilesTold) → length names ≤ 1 → Asks names files files' → MayFail files files'
may_fail names files files' few asks = record { more = names; asks = asks; few = few }

pub asked_nothing : (files : FilesTold) → MayFail files files
asked_nothing files = may_fail [] files files (omega arith) (nothing_asked files)
