-- One statement after the other.
use Rattle.std.proofs.Common.{◌≡◌, ℕ, List, [], ◌++◌, Option, Some, Ok, Err, ap, sym, ◌∙◌, append_assoc, append-nil, arith}
use Rattle.pf_source.specs.Told.{FilesTold, Held}
use Rattle.pf_source.specs.AskingLaws.{asked_on, nothing_asked}
use Rattle.pf_source.specs.Disk.{Disk}
use Rattle.pf_base.specs.declared.fault.Place.{Place}
use Rattle.pf_token.specs.declared.token.Cause.{Cause}
use Rattle.pf_token.specs.declared.token.Cause.TheVariants as causes
use Rattle.pf_token.specs.declared.token.Fault.{Fault as FaultOf}
use Rattle.pf_lexer.specs.declared.deed.Statement.{Statement}
use Rattle.pf_lexer.specs.declared.fault.LexFault.{LexFault}
use Rattle.pf_lexer.specs.Calls.{AsksAndReads, IsGoing, RunsOut, StopsWith, unread_by, unread_from}
use Rattle.pf_lexer.specs.Going.{IsStopped}
use Rattle.pf_lexer.specs.ReadSoFar.{ReadSoFar}
use Rattle.pf_lexer.specs.Reads.{Made}
use Rattle.pf_lexer.specs.Stages.{Standing, Stage, going, failed}
use Rattle.pf_lexer.specs.Units.{Answer, Answers, GoesTo, here, further, Leads, Passes, answered, lexical}
use Rattle.pf_lexer.proofs.StopLemmas.{by_memory}

-- no file was asked for
pub asks_nothing : (told : FilesTold) (reads : ReadSoFar) → AsksAndReads [] told told reads reads
asks_nothing told reads = record {
  files = nothing_asked told;
  made = Made.none;
  grows = record { more = []; is = sym (append-nil reads.names) };
  left = omega arith;
}

-- nor behind a fault
pub asks_again : (stage : Stage) (first : LexFault) (answer : Answer) (told : FilesTold) (reads : ReadSoFar) → stage ≡ failed first → AsksAndReads (unread_from stage answer) told told reads reads
asks_again stage first answer told reads is = rw is (asks_nothing told reads)

-- nor at a fault of a statement
pub asks_answered : (fault : FaultOf) (told : FilesTold) (reads : ReadSoFar) → AsksAndReads (unread_by (answered fault)) told told reads reads
asks_answered fault told reads = by_cause fault.cause fault.place where
  by_cause : (cause : Cause) (place : Place) → AsksAndReads (unread_by (lexical cause place)) told told reads reads
  by_cause causes.BadByte place = asks_nothing told reads
  by_cause causes.Unterminated place = asks_nothing told reads
  by_cause (causes.MacroUndefined name) place = asks_nothing told reads
  by_cause causes.MacroName place = asks_nothing told reads
  by_cause causes.IncludeDepth place = asks_nothing told reads
  by_cause causes.TooLarge place = asks_nothing told reads
  by_cause causes.Syntax place = asks_nothing told reads

-- the readings of one call, and then those of another
pub made_both : {reads later latest : ReadSoFar} → Made reads later → Made later latest → Made reads latest
made_both Made.none more = more
made_both (Made.read name bytes few rest) more = Made.read name bytes few (made_both rest more)
made_both (Made.refused name rest) more = Made.refused name (made_both rest more)

-- what two calls ask for, of which none failed in the first
module _ (names : List (List ℕ)) (old mid new : FilesTold) (reads later latest : ReadSoFar) (first : AsksAndReads [] old mid reads later) (second : AsksAndReads names mid new later latest) where
  pub told_later : (held : Held) → old.held ≡ Some held → mid.held ≡ Some held
  told_later held told = first.files.held.held ∙ told

  pub asks_both : AsksAndReads names old new reads latest
  asks_both = record {
    files = asked_on names old mid new first.files second.files;
    made = made_both first.made second.made;
    grows = record { more = first.grows.more ++ second.grows.more; is = second.grows.is ∙ ap (λ l. l ++ second.grows.more) first.grows.is ∙ append_assoc reads.names first.grows.more second.grows.more };
    left = omega (arith, first.left, second.left);
  }

-- calls of which none fails in a read, and one more that hands something out or nothing
pub asks_further : (stage : Stage) (found : Option Statement) (old mid new : FilesTold) (reads later latest : ReadSoFar) → AsksAndReads [] old mid reads later → AsksAndReads (unread_from stage (Ok found)) mid new later latest → AsksAndReads [] old new reads latest
asks_further (going unit) found old mid new reads later latest first second = asks_both [] old mid new reads later latest first second
asks_further (failed fault) found old mid new reads later latest first second = asks_both [] old mid new reads later latest first second

-- and one more that ends with a fault
pub asks_last : (stage : Stage) (fault : LexFault) (old mid new : FilesTold) (reads later latest : ReadSoFar) → IsGoing stage → AsksAndReads [] old mid reads later → AsksAndReads (unread_from stage (Err fault)) mid new later latest → AsksAndReads (unread_by fault) old new reads latest
asks_last (going unit) fault old mid new reads later latest is first second = asks_both (unread_by fault) old mid new reads later latest first second
asks_last (failed other) fault old mid new reads later latest is first second = absurd is

-- a statement more
goes_append : {disk : Disk} {unit next last : Standing} {reads later latest : ReadSoFar} → GoesTo disk unit reads next later → GoesTo disk next later last latest → GoesTo disk unit reads last latest
goes_append here more = more
goes_append (further one rest) more = further one (goes_append rest more)

module _ (disk : Disk) (unit next : Standing) (reads later : ReadSoFar) (goes : GoesTo disk unit reads next later) where
  pub goes_further : (last : Standing) (latest : ReadSoFar) → Passes disk next later last latest → GoesTo disk unit reads last latest
  goes_further last latest one = goes_append goes (further one here)

  pub goes_leads : (answer : Answer) (stage : Stage) (latest : ReadSoFar) → Answers disk next later answer stage latest → Leads disk (going unit) reads answer stage latest
  goes_leads answer stage latest answers = Leads.comes goes answers

  runs_out : (latest : ReadSoFar) → RunsOut disk next later latest → RunsOut disk unit reads latest
  runs_out latest out = record { last = out.last; goes = goes_append goes out.goes }

  pub goes_stops : (fault : LexFault) (latest : ReadSoFar) → IsStopped disk next later fault latest → StopsWith disk (going unit) reads fault (failed fault) latest
  goes_stops fault latest stops =
      by_memory fault (RunsOut disk next later latest) (Answers disk next later (Err fault) (failed fault) latest) (RunsOut disk unit reads latest) (Leads disk (going unit) reads (Err fault) (failed fault) latest)
      (runs_out latest) (goes_leads (Err fault) (failed fault) latest) stops
