-- What comes of a unit stands in the files that have a number.
use Rattle.std.proofs.Common.{◌≡◌, ℕ, ◌<◌, ◌≤◌, Bool, true, false, List, ◌∷◌, Option, Some, None, Result, Err, length, refl, ap, subst, arith}
use Rattle.std.specs.Prelude.{nat_le, if◌then◌else◌}
use Rattle.std.proofs.lemmas.Bool.{lt-ltb}
use Rattle.pf_base.specs.declared.fault.Place.{Place}
use Rattle.pf_source.specs.Disk.{Disk}
use Rattle.pf_token.specs.declared.cell.Cell.{Cell}
use Rattle.pf_token.specs.declared.token.Cause.{Cause}
use Rattle.pf_token.specs.declared.token.Cause.TheVariants as causes
use Rattle.pf_token.specs.declared.token.Lexeme.{Lexeme}
use Rattle.pf_token.specs.Cells.{are_in}
use Rattle.pf_token.specs.Pieces.{Next, StaysIn}
use Rattle.pf_lexer.specs.declared.fault.LexFault.{LexFault}
use Rattle.pf_lexer.specs.declared.fault.LexFault.TheVariants as faults
use Rattle.pf_lexer.specs.Calls.{AreIn, StandsIn}
use Rattle.pf_lexer.specs.Coming.{LeadsWithin, OpensWithin}
use Rattle.pf_lexer.specs.ReadSoFar.{ReadSoFar}
use Rattle.pf_lexer.specs.Reads.{Look, absent, given, look_of, look_up, number_of, read_limit, too_large, with_name}
use Rattle.pf_lexer.specs.Stages.{Standing, Stage, going, failed}
use Rattle.pf_lexer.specs.Units.{Answer, Answers, GoesTo, Leads, Opens, Passes, further, here, large, lexical, opened, unread}
use Rattle.pf_lexer.proofs.Numbers.{names_more, number_within}
use Rattle.pf_lexer.proofs.OpeningLemmas.{cells_in}
use Rattle.pf_lexer.proofs.PlaceLemmas.{does_in}
use Rattle.pf_lexer.proofs.StepLemmas.{stands_more}
use Rattle.pf_lexer.proofs.StopLemmas.{answered_numbered}

-- the number that is answered is the name's
abbrev HasNumber : ℕ → Look → Type 0
HasNumber n absent = Unit {0}
HasNumber n (too_large number) = number ≡ n
HasNumber n (given number bytes) = number ≡ n

look_numbered : (disk : Disk) (name : List ℕ) (reads : ReadSoFar) → HasNumber (number_of reads.names name) (look_up disk reads name)
look_numbered disk name reads = by_held (disk name) where
  by_size : (bytes : List ℕ) (b : Bool) → HasNumber (number_of reads.names name) (if b then given (number_of reads.names name) bytes else too_large (number_of reads.names name))
  by_size bytes true = refl
  by_size bytes false = refl

  by_held : (held : Option (List ℕ)) → HasNumber (number_of reads.names name) (look_of reads name held)
  by_held None = tt
  by_held (Some bytes) = by_size bytes (nat_le (length bytes) (read_limit reads.left))

numbers_below : (names : List (List ℕ)) (name : List ℕ) (number : ℕ) → number ≡ number_of names name → number < length (with_name names name)
numbers_below names name number is = rw is (number_within names name)

-- what comes of reading a file stands in a file that has a number
pub opens_within : {disk : Disk} {name : List ℕ} {reads later : ReadSoFar} {result : Result (List Cell) LexFault} → Opens disk name reads result later → OpensWithin result later
opens_within {disk} {name} {reads} (opened {number = number} {bytes = bytes} look) =
    let is : number ≡ number_of reads.names name = subst (HasNumber (number_of reads.names name)) look (look_numbered disk name reads) in
    record { within = cells_in (length (with_name reads.names name)) (record { file = number; line = 1 }) bytes (lt-ltb number (length (with_name reads.names name)) (numbers_below reads.names name number is)); enough = λ e. cc }
opens_within {disk} {name} {reads} (large {number = number} look) =
    let is : number ≡ number_of reads.names name = subst (HasNumber (number_of reads.names name)) look (look_numbered disk name reads) in
    record { within = numbers_below reads.names name number is; enough = λ e. cc }
opens_within unread = record { within = tt; enough = λ e. cc }

opens_more : {disk : Disk} {name : List ℕ} {reads later : ReadSoFar} {result : Result (List Cell) LexFault} → Opens disk name reads result later → length reads.names ≤ length later.names
opens_more {name = name} {reads = reads} (opened look) = names_more reads.names name
opens_more {name = name} {reads = reads} (large look) = names_more reads.names name
opens_more unread = omega arith

-- the fault of a statement is no want of memory
answered_enough : (cause : Cause) (place : Place) → ◌≡◌ {A = Answer} (Err (lexical cause place)) (Err faults.NoMemory) → ⊥
answered_enough causes.BadByte place e = cc
answered_enough causes.Unterminated place e = cc
answered_enough (causes.MacroUndefined name) place e = cc
answered_enough causes.MacroName place e = cc
answered_enough causes.IncludeDepth place e = cc
answered_enough causes.TooLarge place e = cc
answered_enough causes.Syntax place e = cc

abbrev PlaceLaw : Type 0
PlaceLaw = (values : List ℕ → Option (List ℕ)) (count : ℕ) (cells after : List Cell) (lexeme : Lexeme) → Next values cells lexeme after → are_in count cells ≡ true → StaysIn count lexeme after

module _ (law : PlaceLaw) (disk : Disk) where
  passes_within : {unit next : Standing} {reads later : ReadSoFar} → Passes disk unit reads next later → StandsIn (length reads.names) unit → StandsIn (length later.names) next
  passes_within {reads = reads} (Passes.passed does) within = record { top = (does_in law does (length reads.names) within.top).after_in; below = within.below }
  passes_within {reads = reads} (Passes.included {unit = unit} {changed = changed} {after = after} {cells = cells} {later = later} does opens) within =
      let stays = does_in law does (length reads.names) within.top in
      let outer : StandsIn (length later.names) (record { macros = changed; top = after; below = unit.below }) =
      stands_more (length reads.names) (length later.names) (opens_more opens) (record { macros = changed; top = after; below = unit.below }) (record { top = stays.after_in; below = within.below }) in
      record { top = (opens_within opens).within; below = (outer.top, outer.below) }
  passes_within {reads = reads} (Passes.file_ends {next = next} {below = below} does is) within =
      let parts : AreIn (length reads.names) (next ∷ below) = subst (AreIn (length reads.names)) is within.below in
      record { top = parts.0; below = parts.1 }

  goes_within : {unit next : Standing} {reads later : ReadSoFar} → GoesTo disk unit reads next later → StandsIn (length reads.names) unit → StandsIn (length later.names) next
  goes_within here within = within
  goes_within (further one rest) within = goes_within rest (passes_within one within)

  opening_fails : (fault : LexFault) (later : ReadSoFar) → OpensWithin (Err fault) later → LeadsWithin (Err fault) (failed fault) later
  opening_fails fault later found = record { numbered = found.within; known = found.within; enough = λ e. found.enough (fault_of e); goes = tt } where
    fault_of : ◌≡◌ {A = Answer} (Err fault) (Err faults.NoMemory) → ◌≡◌ {A = Result (List Cell) LexFault} (Err fault) (Err faults.NoMemory)
    fault_of e = let same : fault ≡ faults.NoMemory = cc in ap (λ (f : LexFault). Err f) same

  answers_within : {unit : Standing} {stage : Stage} {reads later : ReadSoFar} {answer : Answer} → Answers disk unit reads answer stage later → StandsIn (length reads.names) unit → LeadsWithin answer stage later
  answers_within {reads = reads} (Answers.hands does) within =
      let stays = does_in law does (length reads.names) within.top in
      record { numbered = stays.deed_in; known = record { top = stays.after_in; below = within.below }; enough = λ e. cc; goes = tt }
  answers_within {reads = reads} (Answers.over does is) within = record { numbered = tt; known = record { top = (does_in law does (length reads.names) within.top).after_in; below = within.below }; enough = λ e. cc; goes = tt }
  answers_within {reads = reads} (Answers.fails {fault = fault} does) within =
      let is = answered_numbered (length reads.names) fault (does_in law does (length reads.names) within.top).deed_in in
      record { numbered = is; known = is; enough = answered_enough fault.cause fault.place; goes = tt }
  answers_within (Answers.unopened {later = later} {fault = fault} does opens) within = opening_fails fault later (opens_within opens)

  -- what comes next of a unit stands in the files that have a number
  pub leads_within : {stage next : Stage} {reads later : ReadSoFar} {answer : Answer} → Leads disk stage reads answer next later → (unit : Standing) → stage ≡ going unit → StandsIn (length reads.names) unit → LeadsWithin answer next later
  leads_within {reads = reads} (Leads.comes {unit = first} goes answers) unit is within =
      let same : unit ≡ first = cc in
      answers_within answers (goes_within goes (subst (StandsIn (length reads.names)) same within))
  leads_within Leads.again unit is within = cc
