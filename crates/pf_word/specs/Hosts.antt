-- What hosts mean (pf.conf(5), PARAMETERS, from). Where the text of an address is read a meaning is a relation, since
-- texts and addresses are related by a grammar; elsewhere it is a function.
use Rattle.std.specs.Prelude.{◌≡◌, ℕ, Bool, ◌&&◌, ◌||◌, List, [], ◌∷◌, ◌++◌, map, take, Result, Ok, Err, Option, Some, None, if◌then◌else◌}
use Rattle.pf_base.specs.declared.fault.FaultKind.{FaultKind}
use Rattle.pf_base.specs.declared.fault.FaultKind.TheVariants as kinds
use Rattle.pf_addr.specs.declared.addr.Addr.{Addr}
use Rattle.pf_addr.specs.declared.parse.AddrFault.{AddrFault}
use Rattle.pf_addr.specs.declared.parse.AddrFault.TheVariants as texts
use Rattle.pf_addr.specs.declared.ifaces.DynIf.{DynIf}
use Rattle.pf_addr.specs.declared.prefix.Prefix.{Prefix}
use Rattle.pf_addr.specs.declared.range.Range.{Range}
use Rattle.pf_addr.specs.Addr.{SameFamily}
use Rattle.pf_addr.specs.Grammar.{IsAddrText, Writes, slash}
use Rattle.pf_addr.specs.Prefix.{whole}
use Rattle.pf_addr.specs.PrefixText.{IsPrefixText, IsTooLong}
use Rattle.pf_addr.specs.Range.{HasEnds, OutOfOrder}
use Rattle.pf_host.specs.Facts.{HostFacts}
use Rattle.pf_host.specs.Queries.{addresses_of, has_host, host_of, knows}
use Rattle.pf_rule.specs.declared.criteria.AddrSet.{AddrSet}
use Rattle.pf_rule.specs.declared.criteria.AddrSet.TheVariants as sets
use Rattle.pf_rule.specs.declared.criteria.AddrTest.{AddrTest}
use Rattle.pf_rule.specs.declared.criteria.AddrTest.TheVariants as tests
use Rattle.pf_syntax.specs.declared.form.HostForm.{HostForm}
use Rattle.pf_syntax.specs.declared.form.HostForm.TheVariants as forms
use Rattle.pf_syntax.specs.declared.form.HostItem.{HostItem}
use Rattle.pf_word.specs.Suffixes.{taken_apart}
use Rattle.pf_word.specs.Words.{EachMeans, failed, found, is_name, named}
use Rattle.pf_word.specs.declared.words.Words.{Words}

-- no text of an address
abbrev pub NoAddress : List ℕ → Type 0
NoAddress word = (addr : Addr) → IsAddrText word addr → ⊥

-- a name with `:network` or `:0` that the facts don't know is taken for an interface's
abbrev pub fault_of_name : List ℕ → FaultKind
fault_of_name word =
    let what = taken_apart word in
    if what.network || what.first then kinds.UnknownInterface (named word) else kinds.NotAnAddress (named word)

-- a word that is no address: `self`, an interface or a group that the facts know, with `:network`, `:0` or both behind it;
-- else a host of the facts
unfoldable pub meaning_of_name : HostFacts → List ℕ → Result (List Prefix) FaultKind
meaning_of_name facts word =
    let what = taken_apart word in
    if is_name what.name && knows facts what.name then Ok (addresses_of facts what)
    else if is_name word && has_host facts word then Ok (map whole (host_of facts word))
    else Err (fault_of_name word)

-- a word without a mask: an address is itself
pub data WordMeans (facts : HostFacts) (word : List ℕ) (answer : Result (List Prefix) FaultKind) : Type 0 where
  an_address : (addr : Addr) → IsAddrText word addr → answer ≡ Ok (whole addr ∷ []) → WordMeans facts word answer
  a_name : NoAddress word → answer ≡ meaning_of_name facts word → WordMeans facts word answer

-- a word and a mask: a prefix, and nothing else; it may be none only because the mask's number is too great
pub data MaskedMeans (word mask : List ℕ) (answer : Result (List Prefix) FaultKind) : Type 0 where
  a_prefix : (prefix : Prefix) → IsPrefixText (word ++ slash ∷ mask) prefix → answer ≡ Ok (prefix ∷ []) → MaskedMeans word mask answer
  too_long : (bits : ℕ) → ((prefix : Prefix) → IsPrefixText (word ++ slash ∷ mask) prefix → ⊥) → IsTooLong (word ++ slash ∷ mask) bits → answer ≡ Err (kinds.MaskTooLong bits) → MaskedMeans word mask answer
  no_prefix : ((addr : Addr) (bits : ℕ) → Writes (word ++ slash ∷ mask) addr bits → ⊥) → answer ≡ Err (kinds.NotAnAddress (named word)) → MaskedMeans word mask answer

-- the fault of a word with a mask, as a text of a prefix has it
abbrev pub mask_fault : List ℕ → AddrFault → FaultKind
mask_fault word (texts.MaskTooLong bits) = kinds.MaskTooLong bits
mask_fault word texts.NotAnAddress = kinds.NotAnAddress (named word)

-- the prefixes that a host word means, in order, or its fault
abbrev pub HostWordMeans : HostFacts → List ℕ → Option (List ℕ) → Result (List Prefix) FaultKind → Type 0
HostWordMeans facts word None answer = WordMeans facts word answer
HostWordMeans facts word (Some mask) answer = MaskedMeans word mask answer

-- a word that has to be an address without a mask
pub data AddressMeans (word : List ℕ) (answer : Result Addr FaultKind) : Type 0 where
  is_address : (addr : Addr) → IsAddrText word addr → answer ≡ Ok addr → AddressMeans word answer
  no_address : NoAddress word → answer ≡ Err (kinds.NotAnAddress (named word)) → AddressMeans word answer

-- `low - high` with two addresses as ends; `low` is the word of the first
pub data RangeMeans (low : List ℕ) (negated : Bool) (first last : Addr) (words : Words AddrTest) : Type 0 where
  a_range : (range : Range) → HasEnds first last range → words ≡ found (tests.Test negated (sets.Range range)) → RangeMeans low negated first last words
  two_families : (SameFamily first last → ⊥) → words ≡ failed kinds.FamilyMismatch → RangeMeans low negated first last words
  falls : OutOfOrder first last → words ≡ failed (kinds.NotAnAddress (named low)) → RangeMeans low negated first last words

-- the same where an end may be no address: then those faults, the low end's first
abbrev pub EndsMean : List ℕ → Bool → Result Addr FaultKind → Result Addr FaultKind → Words AddrTest → Type 0
EndsMean low negated (Ok first) (Ok last) words = RangeMeans low negated first last words
EndsMean low negated (Ok first) (Err fault) words = words ≡ failed fault
EndsMean low negated (Err fault) (Ok last) words = words ≡ failed fault
EndsMean low negated (Err fault) (Err second) words = words ≡ record { values = []; faults = fault ∷ second ∷ [] }

-- tests of a list of prefixes, one each
abbrev pub prefix_tests : Bool → List Prefix → List AddrTest
prefix_tests negated prefixes = map (λ prefix. tests.Test negated (sets.Prefix prefix)) prefixes

-- a word that names several addresses is that many tests
abbrev pub tests_of_word : Bool → Result (List Prefix) FaultKind → Words AddrTest
tests_of_word negated (Ok prefixes) = record { values = prefix_tests negated prefixes; faults = [] }
tests_of_word negated (Err fault) = failed fault

-- `(name)`: the addresses of an interface as they are at the moment; the facts need not know it
abbrev pub dynamic_test : Bool → List ℕ → Words AddrTest
dynamic_test negated word =
    let what = taken_apart word in
    if is_name what.name then found (tests.Test negated (sets.Dynamic what)) else failed (kinds.NotAnAddress (named word))

-- a word with or without a mask, and what is made of its meaning
pub record IsWord (facts : HostFacts) (negated : Bool) (word : List ℕ) (mask : Option (List ℕ)) (words : Words AddrTest) : Type 0 where
  pub answer : Result (List Prefix) FaultKind
  pub means : HostWordMeans facts word mask answer
  pub are : words ≡ tests_of_word negated answer

-- a range, and what its ends mean
pub record IsRange (negated : Bool) (low high : List ℕ) (words : Words AddrTest) : Type 0 where
  pub first : Result Addr FaultKind
  pub last : Result Addr FaultKind
  pub low_end : AddressMeans low first
  pub high_end : AddressMeans high last
  pub mean : EndsMean low negated first last words

abbrev pub FormMeans : HostFacts → Bool → HostForm → Words AddrTest → Type 0
FormMeans facts negated forms.Any words = words ≡ found tests.Any
FormMeans facts negated (forms.Word word mask) words = IsWord facts negated word mask words
FormMeans facts negated (forms.Range low high) words = IsRange negated low high words
FormMeans facts negated (forms.Dynamic word) words = words ≡ dynamic_test negated word
FormMeans facts negated (forms.Table name) words = words ≡ found (tests.Test negated (sets.Table name))

-- a host of `from` or `to`
abbrev pub HostMeans : HostFacts → HostItem → Words AddrTest → Type 0
HostMeans facts item words = FormMeans facts item.negated item.what words

-- the hosts of a list
abbrev pub HostsMean : HostFacts → List HostItem → Words AddrTest → Type 0
HostsMean facts items words = EachMeans (HostMeans facts) items words
