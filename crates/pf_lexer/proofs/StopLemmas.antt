-- How a unit stops.
use Rattle.std.proofs.Common.{◌≡◌, ℕ, ◌<◌, List, Ok, Err, refl, sym, subst, ⊎_elim}
use Rattle.pf_base.specs.declared.fault.Place.{Place}
use Rattle.pf_source.specs.Disk.{Disk}
use Rattle.pf_token.specs.declared.cell.Cell.{Cell}
use Rattle.pf_token.specs.declared.token.Cause.{Cause}
use Rattle.pf_token.specs.declared.token.Cause.TheVariants as causes
use Rattle.pf_token.specs.declared.token.Fault.{Fault as FaultOf}
use Rattle.pf_lexer.specs.declared.fault.LexFault.{LexFault}
use Rattle.pf_lexer.specs.declared.fault.LexFault.TheVariants.{BadByte, Unterminated, MacroUndefined, MacroName, IncludeDepth, TooLarge, Syntax, CannotRead, NoMemory}
use Rattle.pf_lexer.specs.Calls.{ByMemory, IsAgain, IsNumbered, IsUnopened, LacksMemory, LacksMemoryIn, StopsWith}
use Rattle.pf_lexer.specs.Going.{CutAt, before, behind, IsCut}
use Rattle.pf_lexer.specs.ReadSoFar.{ReadSoFar}
use Rattle.pf_lexer.specs.Units.{Leads, Opens, answered, lexical}
use Rattle.pf_lexer.specs.Stages.{Stage, failed}

-- what follows from either follows from the one that holds
pub by_memory : (fault : LexFault) (short other less more : Type 0) → (short → less) → (other → more) → ByMemory fault short other → ByMemory fault less more
by_memory (BadByte place) short other less more f g h = g h
by_memory (Unterminated place) short other less more f g h = g h
by_memory (MacroUndefined place name) short other less more f g h = g h
by_memory (MacroName place) short other less more f g h = g h
by_memory (IncludeDepth place) short other less more f g h = g h
by_memory (TooLarge place) short other less more f g h = g h
by_memory (Syntax place) short other less more f g h = g h
by_memory (CannotRead name) short other less more f g h = g h
by_memory NoMemory short other less more f g h = f h

-- where both hold
pub both_by_memory : (fault : LexFault) (short other : Type 0) → short → other → ByMemory fault short other
both_by_memory (BadByte place) short other h k = k
both_by_memory (Unterminated place) short other h k = k
both_by_memory (MacroUndefined place name) short other h k = k
both_by_memory (MacroName place) short other h k = k
both_by_memory (IncludeDepth place) short other h k = k
both_by_memory (TooLarge place) short other h k = k
both_by_memory (Syntax place) short other h k = k
both_by_memory (CannotRead name) short other h k = k
both_by_memory NoMemory short other h k = h

-- a fault that is no want of memory
pub by_other : (fault : LexFault) (short other : Type 0) → (fault ≡ NoMemory → ⊥) → ByMemory fault short other → other
by_other (BadByte place) short other isnt h = h
by_other (Unterminated place) short other isnt h = h
by_other (MacroUndefined place name) short other isnt h = h
by_other (MacroName place) short other isnt h = h
by_other (IncludeDepth place) short other isnt h = h
by_other (TooLarge place) short other isnt h = h
by_other (Syntax place) short other isnt h = h
by_other (CannotRead name) short other isnt h = h
by_other NoMemory short other isnt h = absurd (isnt refl)

-- the fault of a statement is no want of memory
pub other_than_memory : (fault : FaultOf) (short other : Type 0) → other → ByMemory (answered fault) short other
other_than_memory fault short other h = by_cause fault.cause fault.place short other h where
  by_cause : (cause : Cause) (place : Place) (short other : Type 0) → other → ByMemory (lexical cause place) short other
  by_cause causes.BadByte place short other h = h
  by_cause causes.Unterminated place short other h = h
  by_cause (causes.MacroUndefined name) place short other h = h
  by_cause causes.MacroName place short other h = h
  by_cause causes.IncludeDepth place short other h = h
  by_cause causes.TooLarge place short other h = h
  by_cause causes.Syntax place short other h = h

-- and has the fault's place
pub answered_numbered : (count : ℕ) (fault : FaultOf) → fault.place.file < count → IsNumbered count (answered fault)
answered_numbered count fault h = by_cause fault.cause fault.place h where
  by_cause : (cause : Cause) (place : Place) → place.file < count → IsNumbered count (lexical cause place)
  by_cause causes.BadByte place h = h
  by_cause causes.Unterminated place h = h
  by_cause (causes.MacroUndefined name) place h = h
  by_cause causes.MacroName place h = h
  by_cause causes.IncludeDepth place h = h
  by_cause causes.TooLarge place h = h
  by_cause causes.Syntax place h = h

module _ (disk : Disk) (name : List ℕ) (reads : ReadSoFar) where
  pub cut_before : (fault : LexFault) → fault ≡ NoMemory → IsCut disk name reads fault reads
  cut_before fault is = rw is before

  pub cut_behind : (fault : LexFault) (later : ReadSoFar) (cells : List Cell) → Opens disk name reads (Ok cells) later → fault ≡ NoMemory → IsCut disk name reads fault later
  cut_behind fault later cells opens is = rw is (behind opens)

  cut_same : (later : ReadSoFar) → later ≡ reads → CutAt disk name reads later
  cut_same later is = subst (λ (r : ReadSoFar). CutAt disk name reads r) (sym is) before

  pub cut_unopened : (fault : LexFault) (later : ReadSoFar) → IsUnopened disk name reads fault later → IsCut disk name reads fault later
  cut_unopened fault later none = by_memory fault (later ≡ reads) (Opens disk name reads (Err fault) later) (CutAt disk name reads later) (Opens disk name reads (Err fault) later) (cut_same later) (λ e. e) none

-- the same fault again
pub again_stops : (disk : Disk) (stage : Stage) (first fault : LexFault) (reads : ReadSoFar) → stage ≡ failed first → IsAgain first fault → StopsWith disk stage reads fault stage reads
again_stops disk stage first fault reads is same = rw is (⊎_elim again lacks same) where
  again : fault ≡ first → StopsWith disk (failed first) reads fault (failed first) reads
  again e = rw e (both_by_memory first (LacksMemoryIn disk (failed first) reads reads) (Leads disk (failed first) reads (Err first) (failed first) reads) refl Leads.again)

  lacks : LacksMemory first fault → StopsWith disk (failed first) reads fault (failed first) reads
  lacks e = rw e.lacks refl
