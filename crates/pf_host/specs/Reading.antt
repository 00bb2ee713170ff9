-- What the readers of a facts file give.
use Rattle.std.specs.Prelude.{◌≡◌, ℕ, true, List, [], ◌∷◌, ◌++◌, Option, Some, None, Result, MatchResult}
use Rattle.std.specs.Option.{option_copied}
use Rattle.pf_base.specs.Text.{fields_of}
use Rattle.pf_host.specs.declared.fault.FactsCause.{FactsCause}
use Rattle.pf_host.specs.declared.fault.FactsFault.{FactsFault}
use Rattle.pf_host.specs.declared.fault.FactsFault.TheVariants as facts_fault
use Rattle.pf_host.specs.declared.fault.LineFault.{LineFault}
use Rattle.pf_host.specs.declared.fault.LineFault.TheVariants.{Cause, NoMemory}
use Rattle.pf_host.specs.declared.kind.Kind.{Kind}
use Rattle.pf_host.specs.declared.kind.Kind.TheVariants as kind
use Rattle.pf_host.specs.declared.statement.Statement.{Statement}
use Rattle.pf_host.specs.declared.statement.Statement.TheVariants as statement
use Rattle.pf_host.specs.Facts.{HostFacts}
use Rattle.pf_host.specs.Line.{Line, is_rest, lines_said}
use Rattle.pf_host.specs.Meaning.{AreSaid, HasCause, HasFault, IsFirst}

-- the fault of a line as that of the text
abbrev pub fault_at : LineFault → ℕ → FactsFault
fault_at (Cause cause) number = facts_fault.Line number cause
fault_at NoMemory number = facts_fault.NoMemory

-- where a line has a fault, a fact about its cause
abbrev pub IfCause : LineFault → (FactsCause → Type 0) → Type 0
IfCause (Cause cause) P = P cause
IfCause NoMemory P = Unit {0}

-- where a text has a fault, a fact about the line and the cause
abbrev pub IfLine : FactsFault → (ℕ → FactsCause → Type 0) → Type 0
IfLine (facts_fault.Line number cause) P = P number cause
IfLine facts_fault.NoMemory P = Unit {0}

-- the words of what is left, where something is left
abbrev pub fields_left : Option (List ℕ) → List (List ℕ)
fields_left None = []
fields_left (Some text) = fields_of text

-- a line with one word behind the name
abbrev pub line_with : Kind → List ℕ → List ℕ → Line
line_with about name word = record { kind = about; name = name; rest = word ∷ [] }

-- the line that was read
abbrev pub line_read : Statement → Line
line_read (statement.Interface name rest) = record { kind = kind.Interface; name = name; rest = fields_left (option_copied rest) }
line_read (statement.Address name word) = line_with kind.Address name word.now
line_read (statement.Host name word) = line_with kind.Host name word.now
line_read (statement.User name word) = line_with kind.User name word.now
line_read (statement.Group name word) = line_with kind.Group name word.now
line_read (statement.Service name word) = line_with kind.Service name word.now

-- what stands behind the name of a line that was read may stand there
abbrev pub IsFit : Statement → Type 0
IsFit read = is_rest (line_read read).kind (line_read read).rest ≡ true

-- the line of a kind, a name and the words behind it was read, and they may stand there
pub record IsRead (read : Statement) (about : Kind) (name : List ℕ) (rest : List (List ℕ)) : Type 0 where
  pub line : line_read read ≡ (record { kind = about; name = name; rest = rest })
  pub fits : is_rest about rest ≡ true

-- a line that has no fault after the lines before it adds what it says
pub record Takes (before : List Line) (line : Line) (facts : HostFacts) : Type 0 where
  pub sound : (cause : FactsCause) → HasCause before line cause → ⊥
  pub said : AreSaid (before ++ line ∷ []) facts

-- A line is taken, or it has this first cause. Where it is taken, the new facts are said by one line more.
abbrev pub TakesOr : Result Unit LineFault → Line → HostFacts → HostFacts → Type 0
TakesOr result line old new = MatchResult result
    (λ _. (before : List Line) → AreSaid before old → Takes before line new)
    (λ fault. IfCause fault (λ cause. (before : List Line) → AreSaid before old → IsFirst (HasCause before line) cause))

-- the same of a line of a text
pub record TakesText (before : List (List ℕ)) (text : List ℕ) (facts : HostFacts) : Type 0 where
  pub sound : (cause : FactsCause) → HasFault before text cause → ⊥
  pub said : AreSaid (lines_said (before ++ text ∷ [])) facts

abbrev pub TakesTextOr : Result Unit LineFault → List ℕ → HostFacts → HostFacts → Type 0
TakesTextOr result text old new = MatchResult result
    (λ _. (before : List (List ℕ)) → AreSaid (lines_said before) old → TakesText before text new)
    (λ fault. IfCause fault (λ cause. (before : List (List ℕ)) → AreSaid (lines_said before) old → IsFirst (HasFault before text) cause))
