-- The lines of a facts file: words between single spaces, of which the first says what the line is about and
-- the second is a name.
use Rattle.std.specs.Prelude.{ℕ, Bool, true, false, not, ◌&&◌, ◌==◌, List, [], ◌∷◌, Option, Some, None, codes, filter, if◌then◌else◌}
use Rattle.std.specs.List.{list_all, filter_map}
use Rattle.std.specs.Str.{bytes_eq}
use Rattle.pf_base.specs.Name.{is_plain_name}
use Rattle.pf_base.specs.Text.{fields_of, is_nothing}
use Rattle.pf_host.specs.declared.kind.Kind.{Kind}
use Rattle.pf_host.specs.declared.kind.Kind.TheVariants.{Interface, Address, Host, User, Group, Service}

-- the first words of lines
unfoldable pub kind_named : List ℕ → Option Kind
kind_named word =
    if bytes_eq word (codes "interface") then Some Interface
    else if bytes_eq word (codes "address") then Some Address
    else if bytes_eq word (codes "host") then Some Host
    else if bytes_eq word (codes "user") then Some User
    else if bytes_eq word (codes "group") then Some Group
    else if bytes_eq word (codes "service") then Some Service
    else None

-- what a line is about, its name, and the words behind the name
pub record Line : Type 0 where
  pub kind : Kind
  pub name : List ℕ
  pub rest : List (List ℕ)

-- one word that isn't empty
abbrev pub is_one : List (List ℕ) → Bool
is_one (word ∷ []) = not (is_nothing word)
is_one rest = false

-- behind the name of an interface stand the names of its groups, behind any other name one word
abbrev pub is_rest : Kind → List (List ℕ) → Bool
is_rest Interface rest = list_all is_plain_name rest
is_rest kind rest = is_one rest

abbrev pub line_about : Option Kind → List ℕ → List (List ℕ) → Option Line
line_about None name rest = None
line_about (Some kind) name rest =
    if is_plain_name name && is_rest kind rest then Some (record { kind = kind; name = name; rest = rest }) else None

-- the line of these words, where they have the form of one
abbrev pub line_of : List (List ℕ) → Option Line
line_of [] = None
line_of (keyword ∷ []) = None
line_of (keyword ∷ name ∷ rest) = line_about (kind_named keyword) name rest

-- empty lines and lines that begin with `#` are passed over
abbrev pub is_passed_over : List ℕ → Bool
is_passed_over [] = true
is_passed_over (byte ∷ bytes) = byte == 35

-- what a line of the text says
unfoldable pub line_said : List ℕ → Option Line
line_said text = if is_passed_over text then None else line_of (fields_of text)

-- what the lines of a text say, one after the other
unfoldable pub lines_said : List (List ℕ) → List Line
lines_said texts = filter_map line_said texts

abbrev pub is_about : Kind → Kind → Bool
is_about Interface Interface = true
is_about Address Address = true
is_about Host Host = true
is_about User User = true
is_about Group Group = true
is_about Service Service = true
is_about kind other = false

-- the lines about this
unfoldable pub lines_about : Kind → List Line → List Line
lines_about kind lines = filter (λ line. is_about kind line.kind) lines

-- the one word behind the name of a line that isn't about an interface
abbrev pub word_of : List (List ℕ) → List ℕ
word_of [] = []
word_of (word ∷ rest) = word
