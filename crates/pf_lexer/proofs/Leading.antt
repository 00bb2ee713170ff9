-- Something comes next of each unit: each statement leaves less to do.
use Rattle.std.proofs.Common.{◌≡◌, ℕ, ◌+◌, ◌*◌, ◌-◌, ◌≤◌, Bool, true, false, cond, List, [], ◌∷◌, Option, Some, None, Result, Ok, Err, length, refl, ap, ◌∙◌, subst, inl, inr, arith}
use Rattle.std.specs.Prelude.{◌==◌, ◌&&◌, min, nat_le, if◌then◌else◌}
use Rattle.std.proofs.lemmas.Bool.{leb-true}
use Rattle.pf_base.specs.declared.fault.Place.{Place}
use Rattle.pf_source.specs.Disk.{AreAbsent, Disk}
use Rattle.pf_token.specs.declared.cell.Cell.{Cell}
use Rattle.pf_token.specs.declared.token.Cause.{Cause}
use Rattle.pf_token.specs.declared.token.Cause.TheVariants as causes
use Rattle.pf_token.specs.Cells.{below as line_below, cells_from, place_after}
use Rattle.pf_token.specs.Coming.{Descends, IsBelow, IsLess, below, dollars}
use Rattle.pf_token.specs.Macros.{Table}
use Rattle.pf_lexer.specs.declared.deed.Deed.{Deed}
use Rattle.pf_lexer.specs.declared.deed.Deed.TheVariants as deeds
use Rattle.pf_lexer.specs.declared.deed.Statement.{Statement}
use Rattle.pf_lexer.specs.declared.fault.LexFault.{LexFault}
use Rattle.pf_lexer.specs.Calls.{IsTrueTo, unread_by, unread_in}
use Rattle.pf_lexer.specs.Coming.{HasLead, HasStatements}
use Rattle.pf_lexer.specs.Deeds.{Does}
use Rattle.pf_lexer.specs.ReadSoFar.{ReadSoFar}
use Rattle.pf_lexer.specs.Reads.{given, look_of, look_up, number_of, read_limit, too_large}
use Rattle.pf_lexer.specs.Stages.{Standing, Stage, going}
use Rattle.pf_lexer.specs.Units.{Answer, Answers, GoesTo, Handed, Leads, Opens, Passes, UnitOf, further, here, large, lexical, opened, unread}
use Rattle.pf_lexer.proofs.Finding.{HasDeed, Lessens}

-- the cells of a file are no more than its bytes
dollar_least : (b : Bool) → cond b 1 0 ≤ 1
dollar_least true = omega arith
dollar_least false = omega arith

abbrev Few : List Cell → ℕ → Type 0
Few cells most = (dollars cells ≤ most) × (length cells ≤ most)

pub cells_few : (place : Place) (text : List ℕ) → Few (cells_from place text) (length text)
unfolding cells_from
cells_few place [] = (omega arith, omega arith)
cells_few place (byte ∷ []) = let one = dollar_least (byte == 36) in (omega arith, omega arith)
cells_few place (byte ∷ next ∷ rest) = by_splice ((byte == 92) && (next == 10)) (cells_few (line_below place) rest) (cells_few (place_after place byte) (next ∷ rest)) where
  by_splice : (b : Bool) → Few (cells_from (line_below place) rest) (length rest) → Few (cells_from (place_after place byte) (next ∷ rest)) (length (next ∷ rest))
      → Few (cond b (cells_from (line_below place) rest) (record { byte = byte; place = place } ∷ cells_from (place_after place byte) (next ∷ rest))) (length (byte ∷ next ∷ rest))
  by_splice true far near = (omega (arith, far.0), omega (arith, far.1))
  by_splice false far near = let one = dollar_least (byte == 36) in (omega (arith, near.0), omega (arith, near.1))

-- what a disk answers, and what that says of its file
pub data Looked (disk : Disk) (name : List ℕ) (reads : ReadSoFar) : Type 0 where
  none : disk name ≡ None → Looked disk name reads
  many : (number : ℕ) → look_up disk reads name ≡ too_large number → Looked disk name reads
  some : (number : ℕ) (bytes : List ℕ) → look_up disk reads name ≡ given number bytes → length bytes ≤ reads.left → Looked disk name reads

pub looked : (disk : Disk) (name : List ℕ) (reads : ReadSoFar) → Looked disk name reads
looked disk name reads = by_held (disk name) refl where
  by_size : (bytes : List ℕ) → disk name ≡ Some bytes → (b : Bool) → nat_le (length bytes) (read_limit reads.left) ≡ b → Looked disk name reads
  by_size bytes is true fits =
      let within : length bytes ≤ min 4194304 reads.left = leb-true (length bytes) (read_limit reads.left) fits in
      some (number_of reads.names name) bytes (ap (look_of reads name) is ∙ ap (λ (b : Bool). if b then given (number_of reads.names name) bytes else too_large (number_of reads.names name)) fits) (omega arith)
  by_size bytes is false over = many (number_of reads.names name) (ap (look_of reads name) is ∙ ap (λ (b : Bool). if b then given (number_of reads.names name) bytes else too_large (number_of reads.names name)) over)

  by_held : (held : Option (List ℕ)) → disk name ≡ held → Looked disk name reads
  by_held None is = none is
  by_held (Some bytes) is = by_size bytes is (nat_le (length bytes) (read_limit reads.left)) refl

-- A file is read over a disk: it can be, or it isn't there, or it is too large.
record IsRead (disk : Disk) (name : List ℕ) (reads : ReadSoFar) : Type 0 where
  result : Result (List Cell) LexFault
  later : ReadSoFar
  opens : Opens disk name reads result later
  is_true : AreAbsent disk (unread_in result)

is_read : (disk : Disk) (name : List ℕ) (reads : ReadSoFar) → IsRead disk name reads
is_read disk name reads = by_look (looked disk name reads) where
  by_look : Looked disk name reads → IsRead disk name reads
  by_look (none gone) = record { result = _; later = _; opens = unread; is_true = (gone, tt) }
  by_look (many number look) = record { result = _; later = _; opens = large look; is_true = tt }
  by_look (some number bytes look few) = record { result = _; later = _; opens = opened look; is_true = tt }

-- How much is left to do of a unit.
unfoldable pub dollars_below : List (List Cell) → ℕ
dollars_below [] = 0
dollars_below (cells ∷ more) = dollars cells + dollars_below more

unfoldable pub cells_below : List (List Cell) → ℕ
cells_below [] = 0
cells_below (cells ∷ more) = 2 * length cells + 1 + cells_below more

unfoldable pub dollars_left : Standing → ReadSoFar → ℕ
dollars_left unit reads = dollars unit.top + dollars_below unit.below + reads.left

unfoldable pub cells_left : Standing → ReadSoFar → ℕ
cells_left unit reads = 2 * length unit.top + cells_below unit.below + 2 * reads.left

abbrev pub LeavesLess : Standing → ReadSoFar → Standing → ReadSoFar → Type 0
LeavesLess next later unit reads = IsBelow (dollars_left next later) (cells_left next later) (dollars_left unit reads) (cells_left unit reads)

-- behind a statement of the innermost file
pub top_less : (unit : Standing) (changed : Table) (after : List Cell) (reads : ReadSoFar) → IsLess after unit.top → LeavesLess (record { macros = changed; top = after; below = unit.below }) reads unit reads
unfolding dollars_left cells_left
top_less unit changed after reads (inl p) = inl (omega arith)
top_less unit changed after reads (inr p) = inr (omega (arith, p.0), omega (arith, p.1))

-- a file's bytes are taken from those that may be read
pub file_less : (unit : Standing) (changed : Table) (after cells : List Cell) (reads : ReadSoFar) (names : List (List ℕ)) (bytes : List ℕ) → IsLess after unit.top → dollars cells ≤ length bytes → length cells ≤ length bytes → length bytes ≤ reads.left
    → LeavesLess (record { macros = changed; top = cells; below = after ∷ unit.below }) (record { names = names; left = reads.left - length bytes }) unit reads
unfolding dollars_left cells_left dollars_below cells_below
file_less unit changed after cells reads names bytes (inl p) few short fits = let taken : (reads.left - length bytes) + length bytes ≡ reads.left = omega arith in inl (omega arith)
file_less unit changed after cells reads names bytes (inr p) few short fits =
    let taken : (reads.left - length bytes) + length bytes ≡ reads.left = omega arith in
    inr (omega (arith, p.0), omega (arith, p.1))

-- where a file ends, one file less is open
pub end_less : (unit : Standing) (changed : Table) (next : List Cell) (more : List (List Cell)) (reads : ReadSoFar) → unit.below ≡ next ∷ more → LeavesLess (record { macros = changed; top = next; below = more }) reads unit reads
unfolding dollars_left cells_left dollars_below cells_below
end_less unit changed next more reads is = inr (omega (arith, ap dollars_below is), omega (arith, ap cells_below is))

-- the fault of a statement names no file that can't be read
fault_true : (disk : Disk) (cause : Cause) (place : Place) → AreAbsent disk (unread_by (lexical cause place))
fault_true disk causes.BadByte place = tt
fault_true disk causes.Unterminated place = tt
fault_true disk (causes.MacroUndefined name) place = tt
fault_true disk causes.MacroName place = tt
fault_true disk causes.IncludeDepth place = tt
fault_true disk causes.TooLarge place = tt
fault_true disk causes.Syntax place = tt

-- What the next statement of a unit leads to.
data Moves (disk : Disk) (unit : Standing) (reads : ReadSoFar) : Type 0 where
  passes : {next : Standing} {later : ReadSoFar} → Passes disk unit reads next later → LeavesLess next later unit reads → Moves disk unit reads
  hands : {next : Standing} {later : ReadSoFar} {statement : Statement} → Answers disk unit reads (Ok (Some statement)) (going next) later → LeavesLess next later unit reads → Moves disk unit reads
  over : {next : Stage} {later : ReadSoFar} → Answers disk unit reads (Ok None) next later → Moves disk unit reads
  stops : {next : Stage} {later : ReadSoFar} {fault : LexFault} → Answers disk unit reads (Err fault) next later → IsTrueTo disk (Some fault) → Moves disk unit reads

module _ (disk : Disk) where
  module _ (unit : Standing) (reads : ReadSoFar) (changed : Table) (after : List Cell) where
    abbrev DoesHere : Deed → Type 0
    DoesHere deed = Does (length unit.below) unit.macros unit.top deed changed after

    move_into : (name : List ℕ) → DoesHere (deeds.Includes name) → IsLess after unit.top → Looked disk name reads → Moves disk unit reads
    move_into name does less (none gone) = stops (Answers.unopened does unread) (gone, tt)
    move_into name does less (many number look) = stops (Answers.unopened does (large look)) tt
    move_into name does less (some number bytes look fits) =
        let few = cells_few (record { file = number; line = 1 }) bytes in
        passes (Passes.included does (opened look)) (file_less unit changed after (cells_from (record { file = number; line = 1 }) bytes) reads _ bytes less few.0 few.1 fits)

    move_out : DoesHere deeds.Ends → (files : List (List Cell)) → unit.below ≡ files → Moves disk unit reads
    move_out does [] is = over (Answers.over does is)
    move_out does (next ∷ more) is = passes (Passes.file_ends does is) (end_less unit changed next more reads is)

    move : (deed : Deed) → DoesHere deed → Lessens deed after unit.top → Moves disk unit reads
    move deeds.Nothing does less = passes (Passes.passed does) (top_less unit changed after reads less)
    move (deeds.Hands statement) does less = hands (Answers.hands does) (top_less unit changed after reads less)
    move (deeds.Includes name) does less = move_into name does less (looked disk name reads)
    move deeds.Ends does less = move_out does unit.below refl
    move (deeds.Fails fault) does less = stops (Answers.fails does) (fault_true disk fault.cause fault.place)

  -- behind a statement that hands nothing out
  lead_further : {unit next : Standing} {stage last : Stage} {reads later latest : ReadSoFar} {answer : Answer} → Passes disk unit reads next later → Leads disk stage later answer last latest → stage ≡ going next → Leads disk (going unit) reads answer last latest
  lead_further {next = next} {later = later} one (Leads.comes {unit = unit} {next = last} {later = latest} goes answers) is =
      let same : unit ≡ next = cc in
      Leads.comes (further one (subst (λ (u : Standing). GoesTo disk u later last latest) same goes)) answers
  lead_further one Leads.again is = cc

  hand_further : {unit next : Standing} {stage : Stage} {reads later latest : ReadSoFar} {statements : List Statement} {fault : Option LexFault} → Passes disk unit reads next later → Handed disk stage later statements fault latest → stage ≡ going next → Handed disk (going unit) reads statements fault latest
  hand_further one (Handed.ended lead) is = Handed.ended (lead_further one lead is)
  hand_further one (Handed.stopped lead) is = Handed.stopped (lead_further one lead is)
  hand_further one (Handed.next lead rest) is = Handed.next (lead_further one lead is) rest

  -- The statements of a unit from where it stands.
  record Hands (unit : Standing) (reads : ReadSoFar) : Type 0 where
    statements : List Statement
    fault : Option LexFault
    latest : ReadSoFar
    handed : Handed disk (going unit) reads statements fault latest
    is_true : IsTrueTo disk fault

  module _ (has_deed : (includes : ℕ) (macros : Table) (cells : List Cell) → HasDeed includes macros cells) (descends : (a b : ℕ) → Descends a b) where
    hands_from : (unit : Standing) (reads : ReadSoFar) → ((next : Standing) (later : ReadSoFar) → LeavesLess next later unit reads → Hands next later) → Moves disk unit reads → Hands unit reads
    hands_from unit reads more (passes {next = next} {later = later} one less) =
        let rest = more next later less in
        record { statements = rest.statements; fault = rest.fault; latest = rest.latest; handed = hand_further one rest.handed refl; is_true = rest.is_true }
    hands_from unit reads more (hands {next = next} {later = later} {statement = statement} answers less) =
        let rest = more next later less in
        record { statements = statement ∷ rest.statements; fault = rest.fault; latest = rest.latest; handed = Handed.next (Leads.comes here answers) rest.handed; is_true = rest.is_true }
    hands_from unit reads more (over {later = later} answers) = record { statements = []; fault = None; latest = later; handed = Handed.ended (Leads.comes here answers); is_true = tt }
    hands_from unit reads more (stops {later = later} {fault = fault} answers honest) = record { statements = []; fault = Some fault; latest = later; handed = Handed.stopped (Leads.comes here answers); is_true = honest }

    moves : (unit : Standing) (reads : ReadSoFar) → Moves disk unit reads
    moves unit reads = let deed = has_deed (length unit.below) unit.macros unit.top in move unit reads deed.changed deed.after deed.deed deed.does deed.less

    hands_by : {a b : ℕ} → Descends a b → (unit : Standing) (reads : ReadSoFar) → dollars_left unit reads ≡ a → cells_left unit reads ≡ b → Hands unit reads
    hands_by {a} {b} (below lower) unit reads p q =
        hands_from unit reads
        (λ next later less. hands_by (lower (dollars_left next later) (cells_left next later) (subst (λ n. IsBelow (dollars_left next later) (cells_left next later) n b) p (subst (λ n. IsBelow (dollars_left next later) (cells_left next later) (dollars_left unit reads) n) q less))) next later refl refl)
        (moves unit reads)

    -- the statements from where a unit stands
    hands_on : (unit : Standing) (reads : ReadSoFar) → Hands unit reads
    hands_on unit reads = hands_by (descends (dollars_left unit reads) (cells_left unit reads)) unit reads refl refl

    first_lead : {stage : Stage} {reads latest : ReadSoFar} {statements : List Statement} {fault : Option LexFault} → Handed disk stage reads statements fault latest → IsTrueTo disk fault → (unit : Standing) → stage ≡ going unit → HasLead disk unit reads
    first_lead {reads = reads} (Handed.ended {next = next} {later = later} lead) honest unit is =
        record { answer = Ok None; next = next; later = later; leads = subst (λ (s : Stage). Leads disk s reads (Ok None) next later) is lead; is_true = tt }
    first_lead {reads = reads} (Handed.stopped {next = next} {later = later} {fault = fault} lead) honest unit is =
        record { answer = Err fault; next = next; later = later; leads = subst (λ (s : Stage). Leads disk s reads (Err fault) next later) is lead; is_true = honest }
    first_lead {reads = reads} (Handed.next {next = next} {later = later} {statement = statement} lead rest) honest unit is =
        record { answer = Ok (Some statement); next = next; later = later; leads = subst (λ (s : Stage). Leads disk s reads (Ok (Some statement)) next later) is lead; is_true = tt }

    -- something comes next of a unit
    pub has_lead : (unit : Standing) (reads : ReadSoFar) → HasLead disk unit reads
    has_lead unit reads = let all = hands_on unit reads in first_lead all.handed all.is_true unit refl

    -- a unit has its statements
    pub has_statements : (macros : Table) (name : List ℕ) (reads : ReadSoFar) → HasStatements disk macros name reads
    has_statements macros name reads = by_result (is_read disk name reads) where
      by_opening : (result : Result (List Cell) LexFault) (later : ReadSoFar) → Opens disk name reads result later → AreAbsent disk (unread_in result) → HasStatements disk macros name reads
      by_opening (Ok cells) later opens honest =
          let rest = hands_on (record { macros = macros; top = cells; below = [] }) later in
          record { statements = rest.statements; fault = rest.fault; later = rest.latest; unit = UnitOf.begun (record { cells = cells; opens = opens; starts = refl }) rest.handed; is_true = rest.is_true }
      by_opening (Err fault) later opens honest = record { statements = []; fault = Some fault; later = later; unit = UnitOf.unopened opens; is_true = honest }

      by_result : IsRead disk name reads → HasStatements disk macros name reads
      by_result one = by_opening one.result one.later one.opens one.is_true
