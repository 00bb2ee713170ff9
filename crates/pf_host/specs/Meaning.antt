-- What a facts file says: the facts of its lines, and the faults of a line after the lines before it.
use Rattle.std.specs.Prelude.{◌≡◌, ℕ, ◌+◌, ◌≤◌, Bool, true, false, not, ◌&&◌, nat_le, IsTrue, List, ◌∷◌, ◌++◌, length, map, Some, None}
use Rattle.std.specs.List.{list_any, flat_map, AllZip}
use Rattle.std.specs.Option.{IsSomeAnd}
use Rattle.std.specs.Str.{bytes_eq}
use Rattle.pf_base.specs.Decimal.{decimal_of}
use Rattle.pf_base.specs.Text.{fields_of, lines_of}
use Rattle.pf_addr.specs.Grammar.{IsAddrText}
use Rattle.pf_addr.specs.PrefixText.{IsMaskedText}
use Rattle.pf_addr.specs.declared.addr.Addr.{Addr}
use Rattle.pf_addr.specs.declared.parse.Masked.{Masked}
use Rattle.pf_host.specs.declared.fault.FactsCause.{FactsCause}
use Rattle.pf_host.specs.declared.fault.FactsCause.TheVariants.{BadLine, Unknown, Twice, BadAddress, BadNumber, Full}
use Rattle.pf_host.specs.declared.kind.Kind.{Kind}
use Rattle.pf_host.specs.declared.kind.Kind.TheVariants.{Interface, Address, Host, User, Group, Service}
use Rattle.pf_host.specs.declared.row.Row.{Row}
use Rattle.pf_host.specs.Facts.{HostFacts}
use Rattle.pf_host.specs.Line.{Line, is_about, is_passed_over, line_of, line_said, lines_about, lines_said, word_of}

-- the greatest user or group, and the greatest port
abbrev pub most_id : ℕ
most_id = 4294967295

abbrev pub most_port : ℕ
most_port = 65535

-- the line says that its interface has this address, with its mask
pub record SaysAddress (line : Line) (said : Row Masked) : Type 0 where
  pub name : said.name ≡ line.name
  pub address : IsMaskedText (word_of line.rest) said.value

-- the line says that its host has this address
pub record SaysHost (line : Line) (said : Row Addr) : Type 0 where
  pub name : said.name ≡ line.name
  pub address : IsAddrText (word_of line.rest) said.value

-- the line says that its name has this number; leading zeros may stand
pub record SaysNumber (most : ℕ) (line : Line) (said : Row ℕ) : Type 0 where
  pub name : said.name ≡ line.name
  pub number : decimal_of most (word_of line.rest) ≡ Some said.value

-- the groups of an interface
abbrev pub groups_of : List ℕ → List (List ℕ) → List (Row (List ℕ))
groups_of iface groups = map (λ group. record { name = iface; value = group }) groups

-- the groups of a line about an interface
abbrev pub groups_said : Line → List (Row (List ℕ))
groups_said line = groups_of line.name line.rest

-- the names of the lines about this
abbrev pub names_about : Kind → List Line → List (List ℕ)
names_about kind lines = map (λ line. line.name) (lines_about kind lines)

-- the facts are those of these lines, in their order
pub record AreSaid (lines : List Line) (facts : HostFacts) : Type 0 where
  pub interfaces : facts.interfaces ≡ names_about Interface lines
  pub members : facts.members ≡ flat_map groups_said (lines_about Interface lines)
  pub addresses : AllZip SaysAddress (lines_about Address lines) facts.addresses
  pub hosts : AllZip SaysHost (lines_about Host lines) facts.hosts
  pub users : AllZip (SaysNumber most_id) (lines_about User lines) facts.users
  pub groups : AllZip (SaysNumber most_id) (lines_about Group lines) facts.groups
  pub services : AllZip (SaysNumber most_port) (lines_about Service lines) facts.services

-- a line about this has the name
abbrev pub is_named : Kind → List Line → List ℕ → Bool
is_named kind lines name = list_any (λ known. bytes_eq known name) (names_about kind lines)

-- a second line with the same name says nothing more
abbrev pub is_single : Kind → Bool
is_single Address = false
is_single Host = false
is_single kind = true

-- of these lines 1,024 may stand
abbrev pub is_limited : Kind → Bool
is_limited Interface = true
is_limited Address = true
is_limited kind = false

-- the word behind the name is no address, of an interface with its mask
abbrev pub HasBadAddress : Kind → List ℕ → Type 0
HasBadAddress Address word = (address : Masked) → IsMaskedText word address → ⊥
HasBadAddress Host word = (address : Addr) → IsAddrText word address → ⊥
HasBadAddress kind word = ⊥

-- the word behind the name is no number
abbrev pub HasBadNumber : Kind → List ℕ → Type 0
HasBadNumber User word = decimal_of most_id word ≡ None
HasBadNumber Group word = decimal_of most_id word ≡ None
HasBadNumber Service word = decimal_of most_port word ≡ None
HasBadNumber kind word = ⊥

-- what is wrong with a line that has the form of one, after the lines before it
abbrev pub HasCause : List Line → Line → FactsCause → Type 0
HasCause before line BadLine = ⊥
HasCause before line Unknown = IsTrue (is_about Address line.kind && not (is_named Interface before line.name))
HasCause before line Twice = IsTrue (is_single line.kind && is_named line.kind before line.name)
HasCause before line BadAddress = HasBadAddress line.kind (word_of line.rest)
HasCause before line BadNumber = HasBadNumber line.kind (word_of line.rest)
HasCause before line Full = IsTrue (is_limited line.kind && nat_le 1024 (length (lines_about line.kind before)))

-- a line that isn't passed over and has no form
pub record IsBadLine (text : List ℕ) : Type 0 where
  pub said : is_passed_over text ≡ false
  pub formless : line_of (fields_of text) ≡ None

-- what is wrong with a line of a text, after the lines before it
abbrev pub HasFault : List (List ℕ) → List ℕ → FactsCause → Type 0
HasFault before text BadLine = IsBadLine text
HasFault before text cause = IsSomeAnd (line_said text) (λ line. HasCause (lines_said before) line cause)

-- the order in which the causes are tried
abbrev pub rank : FactsCause → ℕ
rank BadLine = 0
rank Unknown = 1
rank Twice = 2
rank BadAddress = 3
rank BadNumber = 4
rank Full = 5

-- a cause that has happened, and none that is tried before it
pub record IsFirst (Has : FactsCause → Type 0) (cause : FactsCause) : Type 0 where
  pub has : Has cause
  pub first : (other : FactsCause) → rank other + 1 ≤ rank cause → Has other → ⊥

-- the line and those before it in a list
pub record StandsAt (lines before : List (List ℕ)) (line : List ℕ) : Type 0 where
  pub behind : List (List ℕ)
  pub joined : lines ≡ before ++ line ∷ behind

-- no line has a fault
abbrev pub IsSound : List (List ℕ) → Type 0
IsSound lines = (before : List (List ℕ)) (line : List ℕ) → StandsAt lines before line → (cause : FactsCause) → HasFault before line cause → ⊥

-- the text is a facts file and says these facts
pub record IsFactsText (text : List ℕ) (facts : HostFacts) : Type 0 where
  pub sound : IsSound (lines_of text)
  pub said : AreSaid (lines_said (lines_of text)) facts

-- The line of this number, from 1, is the first with a fault, and this is the first cause. Every line counts.
pub record IsFaultAt (text : List ℕ) (number : ℕ) (cause : FactsCause) : Type 0 where
  pub before : List (List ℕ)
  pub line : List ℕ
  pub stands : StandsAt (lines_of text) before line
  pub counted : number ≡ length before + 1
  pub sound : IsSound before
  pub fault : IsFirst (HasFault before line) cause
