-- What the facts of a host are: names of a file, addresses, and numbers in their ranges.
use Rattle.std.proofs.Common.{map, ◌≡◌, ℕ, ◌<◌, ◌≤◌, Bool, true, false, List, [], ◌∷◌, length, Some, None, if◌then◌else◌, refl, sym, subst, inl, inr, arith}
use Rattle.std.specs.Prelude.{◌&&◌, ◌||◌, ◌==◌, not, nat_le, codes}
use Rattle.std.specs.Char.{is_ascii_alphanumeric}
use Rattle.std.specs.Int.{is_in_range}
use Rattle.std.specs.List.{AllZip, list_all, list_any}
use Rattle.std.proofs.lemmas.Bool.{agree_below, agree_below_at, and_from, and_parts, eqb-true, leb-true, or_cases}
use Rattle.pf_addr.specs.Addr.{IsAddr}
use Rattle.pf_addr.specs.declared.addr.Addr.{Addr}
use Rattle.pf_addr.specs.declared.parse.Masked.{Masked}
use Rattle.pf_base.specs.Name.{is_plain_byte, is_plain_name}
use Rattle.pf_base.specs.Text.{fields_of, lines_of}
use Rattle.pf_decl.specs.ReadBack.{is_file_name, is_string_byte}
use Rattle.pf_host.specs.Facts.{HostFacts}
use Rattle.pf_host.specs.Line.{Line, is_passed_over, is_rest, kind_named, line_about, line_of, line_said, lines_about, lines_said, word_of}
use Rattle.pf_host.specs.Meaning.{AreSaid, IsFactsText, SaysAddress, SaysHost, SaysNumber, most_id, most_port}
use Rattle.pf_host.specs.declared.row.Row.{Row}
use Rattle.pf_syntax.specs.Words.{is_name, is_quotable}
use Rattle.pf_token.specs.Bytes.{class_of}
use Rattle.pf_reread.proofs.AddrTexts.{masked_is_addr, network_of_masked, text_is_addr}
use Rattle.pf_reread.proofs.Every.{Every, every_filter, every_from, every_map, every_picked}
use Rattle.pf_reread.proofs.FormWords.{Passes, decimal_fits, some_if}

abbrev pub MaskedIs : Row Masked → Type 0
MaskedIs row = IsAddr row.value.addr × IsAddr row.value.network.addr

abbrev pub HostIs : Row Addr → Type 0
HostIs row = IsAddr row.value

abbrev pub NumberIs : ℕ → Row ℕ → Type 0
NumberIs most row = nat_le row.value most ≡ true

pub record FactsAre (facts : HostFacts) : Type 0 where
  pub interfaces : Every (Passes is_file_name) facts.interfaces
  pub addresses : Every MaskedIs facts.addresses
  pub hosts : Every HostIs facts.hosts
  pub users : Every (NumberIs most_id) facts.users
  pub groups : Every (NumberIs most_id) facts.groups
  pub services : Every (NumberIs most_port) facts.services

-- ---- names

-- a byte of a plain name can stand in a name of a file
abbrev fits_files : ℕ → Bool
fits_files byte = not (is_plain_byte byte) || (is_string_byte byte && is_quotable byte)

abbrev always : ℕ → Bool
always byte = true

all_fit : agree_below fits_files always 128 ≡ true
unfolding is_plain_byte class_of
all_fit = refl

in_span : (low high byte : ℕ) → is_in_range low high byte ≡ true → byte ≤ high
in_span low high byte is = leb-true byte high (and_parts (nat_le low byte) (nat_le byte high) is).1

one_of : (signs : List ℕ) (byte : ℕ) → list_all (λ sign. nat_le sign 127) signs ≡ true → list_any (λ sign. byte == sign) signs ≡ true → byte ≤ 127
one_of [] byte low is = absurd (cc)
one_of (sign ∷ signs) byte low is =
    let parts = and_parts (nat_le sign 127) (list_all (λ other. nat_le other 127) signs) low in
    elim (or_cases (byte == sign) (list_any (λ other. byte == other) signs) is) [
      | inl same ↦ let few : sign ≤ 127 = leb-true sign 127 parts.0 in let equal : byte ≡ sign = eqb-true byte sign same in omega arith
      | inr others ↦ one_of signs byte parts.1 others
    ]

plain_low : (byte : ℕ) → is_plain_byte byte ≡ true → byte < 128
unfolding is_plain_byte
plain_low byte is =
    elim (or_cases (is_ascii_alphanumeric byte) (list_any (λ sign. byte == sign) (codes "_-.:+@")) is) [
      | inl letter ↦ elim (or_cases (is_in_range 48 57 byte || is_in_range 65 90 byte) (is_in_range 97 122 byte) letter) [
        | inl upper ↦ elim (or_cases (is_in_range 48 57 byte) (is_in_range 65 90 byte) upper) [
          | inl digit ↦ let few : byte ≤ 57 = in_span 48 57 byte digit in omega arith
          | inr capital ↦ let few : byte ≤ 90 = in_span 65 90 byte capital in omega arith
        ]
        | inr small ↦ let few : byte ≤ 122 = in_span 97 122 byte small in omega arith
      ]
      | inr sign ↦ let few : byte ≤ 127 = one_of (codes "_-.:+@") byte refl sign in omega arith
    ]

only_then : (first second : Bool) → (not first || second) ≡ true → first ≡ true → second ≡ true
only_then true second is first = is
only_then false second is first = absurd (cc)

plain_fits : (byte : ℕ) → is_plain_byte byte ≡ true → (is_string_byte byte && is_quotable byte) ≡ true
plain_fits byte is = only_then (is_plain_byte byte) (is_string_byte byte && is_quotable byte) (agree_below_at fits_files always 128 byte all_fit (plain_low byte is)) is

plain_bytes : (text : List ℕ) → list_all is_plain_byte text ≡ true → (list_all is_string_byte text ≡ true) × (list_all is_quotable text ≡ true)
plain_bytes [] all = (refl, refl)
plain_bytes (byte ∷ text) all =
    let parts = and_parts (is_plain_byte byte) (list_all is_plain_byte text) all in
    let first = and_parts (is_string_byte byte) (is_quotable byte) (plain_fits byte parts.0) in
    let rest = plain_bytes text parts.1 in
    (and_from (is_string_byte byte) (list_all is_string_byte text) first.0 rest.0, and_from (is_quotable byte) (list_all is_quotable text) first.1 rest.1)

plain_file_name : (name : List ℕ) → is_plain_name name ≡ true → is_file_name name ≡ true
unfolding is_plain_name
plain_file_name name is =
    let parts = and_parts (nat_le 1 (length name) && nat_le (length name) 63) (list_all is_plain_byte name) is in
    let bytes = plain_bytes name parts.1 in
    and_from (is_name name) (list_all is_string_byte name)
    (and_from (nat_le 1 (length name) && nat_le (length name) 63) (list_all is_quotable name) parts.0 bytes.1) bytes.0

-- ---- lines

abbrev Named : Line → Type 0
Named line = is_plain_name line.name ≡ true

words_named : (words : List (List ℕ)) (line : Line) → line_of words ≡ Some line → Named line
words_named [] line is = absurd (cc)
words_named (keyword ∷ []) line is = absurd (cc)
words_named (keyword ∷ name ∷ rest) line is =
    elim (kind_named keyword) as (λ kind. line_about kind name rest ≡ Some line → Named line) [
      | None ↦ λ other. absurd (cc)
      | Some kind ↦ λ other.
          let said : Line = record { kind = kind; name = name; rest = rest } in
          let parts = some_if (is_plain_name name && is_rest kind rest) said line other in
          subst Named parts.1 (and_parts (is_plain_name name) (is_rest kind rest) parts.0).0
    ] is

if_passed : (b : Bool) (words : List (List ℕ)) (line : Line) → if b then None else line_of words ≡ Some line → Named line
if_passed true words line is = absurd (cc)
if_passed false words line is = words_named words line is

line_named : (text : List ℕ) (line : Line) → line_said text ≡ Some line → Named line
unfolding line_said
line_named text line is = if_passed (is_passed_over text) (fields_of text) line is

all_named : (texts : List (List ℕ)) → Every Named (lines_said texts)
unfolding lines_said
all_named texts = every_picked Named line_said line_named texts

names_of : (lines : List Line) → Every Named lines → Every (Passes is_file_name) (map (λ (line : Line). line.name) lines)
names_of lines each =
    every_map (Passes is_file_name) (λ (line : Line). line.name) lines
    (every_from Named (λ (line : Line). is_file_name line.name ≡ true) (λ line is. plain_file_name line.name is) lines each)

interfaces_named : (lines : List Line) (facts : HostFacts) → AreSaid lines facts → Every Named lines → Every (Passes is_file_name) facts.interfaces
unfolding lines_about
interfaces_named lines facts said each = subst (Every (Passes is_file_name)) (sym said.interfaces) (names_of _ (every_filter _ Named lines each))

-- ---- rows

zipped : {A B : Type 0} (R : A → B → Type 0) (P : B → Type 0) → ((a : A) (b : B) → R a b → P b) → (first : List A) (second : List B) → AllZip R first second → Every P second
zipped R P each [] [] h = tt
zipped R P each [] (b ∷ second) h = absurd h
zipped R P each (a ∷ first) [] h = absurd h
zipped R P each (a ∷ first) (b ∷ second) h = (each a b h.0, zipped R P each first second h.1)

said_number : (most : ℕ) (line : Line) (row : Row ℕ) → SaysNumber most line row → NumberIs most row
said_number most line row is = decimal_fits most (word_of line.rest) row.value is.number

-- the facts of a text are such
pub facts_are : (text : List ℕ) (facts : HostFacts) → IsFactsText text facts → FactsAre facts
facts_are text facts is =
    let said = is.said in
    let lines = lines_said (lines_of text) in
    record {
      interfaces = interfaces_named lines facts said (all_named (lines_of text));
      addresses = zipped SaysAddress MaskedIs (λ line row one. (masked_is_addr (word_of line.rest) row.value one.address, network_of_masked (word_of line.rest) row.value one.address)) _ facts.addresses said.addresses;
      hosts = zipped SaysHost HostIs (λ line row one. text_is_addr (word_of line.rest) row.value one.address) _ facts.hosts said.hosts;
      users = zipped (SaysNumber most_id) (NumberIs most_id) (said_number most_id) _ facts.users said.users;
      groups = zipped (SaysNumber most_id) (NumberIs most_id) (said_number most_id) _ facts.groups said.groups;
      services = zipped (SaysNumber most_port) (NumberIs most_port) (said_number most_port) _ facts.services said.services;
    }
