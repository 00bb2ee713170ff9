-- Words mean something: it can't be that no answer is their meaning.
use Rattle.std.proofs.Common.{◌≡◌, ℕ, ◌≤◌, ◌<◌, Bool, List, [], ◌∷◌, ◌++◌, Result, Ok, Err, Option, Some, None, refl, subst, sym, arith}
use Rattle.std.specs.List.{AllZip}
use Rattle.pf_base.specs.declared.fault.FaultKind.{FaultKind}
use Rattle.pf_base.specs.declared.fault.FaultKind.TheVariants as kinds
use Rattle.pf_addr.specs.declared.addr.Addr.{Addr}
use Rattle.pf_addr.specs.declared.prefix.Prefix.{Prefix}
use Rattle.pf_addr.specs.declared.range.Range.{Range}
use Rattle.pf_addr.specs.Addr.{SameFamily, network, number, width}
use Rattle.pf_addr.specs.Grammar.{IsAddrText, Writes, slash}
use Rattle.pf_addr.specs.NetworkLaws.{network-host_bits, network-width}
use Rattle.pf_addr.specs.Prefix.{whole}
use Rattle.pf_addr.specs.PrefixText.{IsPrefixText, IsTooLong}
use Rattle.pf_addr.specs.Range.{HasEnds, OutOfOrder}
use Rattle.pf_host.specs.Facts.{HostFacts}
use Rattle.pf_rule.specs.declared.criteria.AddrSet.TheVariants as sets
use Rattle.pf_rule.specs.declared.criteria.AddrTest.{AddrTest}
use Rattle.pf_rule.specs.declared.criteria.AddrTest.TheVariants as tests
use Rattle.pf_rule.specs.declared.translation.Target.{Target}
use Rattle.pf_syntax.specs.declared.form.HostForm.{HostForm}
use Rattle.pf_syntax.specs.declared.form.HostForm.TheVariants as forms
use Rattle.pf_syntax.specs.declared.form.HostItem.{HostItem}
use Rattle.pf_syntax.specs.declared.form.TargetWords.{TargetWords}
use Rattle.pf_word.specs.Hosts.{AddressMeans, EndsMean, FormMeans, HostMeans, HostWordMeans, HostsMean, MaskedMeans, RangeMeans, WordMeans, a_name, a_prefix, a_range, an_address, dynamic_test, falls, is_address, meaning_of_name, no_address, no_prefix, tests_of_word, too_long, two_families}
use Rattle.pf_word.specs.Targets.{TargetMeans, target_of, target_port}
use Rattle.pf_word.specs.Words.{all_of, failed, found, named}
use Rattle.pf_word.specs.declared.words.Words.{Words}

word_means : (facts : HostFacts) (word : List ℕ) → ((answer : Result (List Prefix) FaultKind) → WordMeans facts word answer → ⊥) → ⊥
word_means facts word never = never (meaning_of_name facts word) (a_name (λ addr is. never (Ok (whole addr ∷ [])) (an_address addr is refl)) refl)

-- the prefix of an address and a mask that its family has
abbrev prefix_at : (addr : Addr) (bits : ℕ) → bits ≤ width addr → Prefix
prefix_at addr bits fits = record { addr = network addr bits; len = bits; fits = subst (λ (w : ℕ). bits ≤ w) (sym (network-width addr bits)) fits; no_host_bits = network-host_bits addr bits }

prefix_text : (text : List ℕ) (addr : Addr) (bits : ℕ) → Writes text addr bits → (fits : bits ≤ width addr) → IsPrefixText text (prefix_at addr bits fits)
prefix_text text addr bits writes fits = record { addr = addr; writes = writes; fits = fits; cleared = refl }

not_over : (bits most : ℕ) → (most < bits → ⊥) → bits ≤ most
not_over bits most h = omega arith

masked_means : (word mask : List ℕ) → ((answer : Result (List Prefix) FaultKind) → MaskedMeans word mask answer → ⊥) → ⊥
masked_means word mask never =
    let text : List ℕ = word ++ slash ∷ mask in
    let no_text : (prefix : Prefix) → IsPrefixText text prefix → ⊥ = λ prefix is. never (Ok (prefix ∷ [])) (a_prefix prefix is refl) in
    let fits : (addr : Addr) (bits : ℕ) → Writes text addr bits → bits ≤ width addr = λ addr bits writes.
    not_over bits (width addr) (λ over. never (Err (kinds.MaskTooLong bits)) (too_long bits no_text (record { addr = addr; writes = writes; over = over }) refl)) in
    never (Err (kinds.NotAnAddress (named word)))
    (no_prefix (λ addr bits writes. no_text (prefix_at addr bits (fits addr bits writes)) (prefix_text text addr bits writes (fits addr bits writes))) refl)

pub host_word_means : (facts : HostFacts) (word : List ℕ) (mask : Option (List ℕ)) → ((answer : Result (List Prefix) FaultKind) → HostWordMeans facts word mask answer → ⊥) → ⊥
host_word_means facts word None never = word_means facts word never
host_word_means facts word (Some mask) never = masked_means word mask never

address_means : (word : List ℕ) → ((answer : Result Addr FaultKind) → AddressMeans word answer → ⊥) → ⊥
address_means word never = never (Err (kinds.NotAnAddress (named word))) (no_address (λ addr is. never (Ok addr) (is_address addr is refl)) refl)

between_means : (low : List ℕ) (negated : Bool) (first last : Addr) → ((words : Words AddrTest) → RangeMeans low negated first last words → ⊥) → ⊥
between_means low negated first last never =
    let no_range : SameFamily first last → ⊥ = λ same.
    let rises : number first ≤ number last = not_over (number first) (number last) (λ above. never (failed (kinds.NotAnAddress (named low))) (falls (record { one_family = same; above = above }) refl)) in
    let range : Range = record { low = first; high = last; one_family = same; in_order = rises } in
    never (found (tests.Test negated (sets.Range range))) (a_range range (record { low_end = refl; high_end = refl }) refl) in
    never (failed kinds.FamilyMismatch) (two_families no_range refl)

ends_mean : (low : List ℕ) (negated : Bool) (first last : Result Addr FaultKind) → ((words : Words AddrTest) → EndsMean low negated first last words → ⊥) → ⊥
ends_mean low negated (Ok first) (Ok last) never = between_means low negated first last never
ends_mean low negated (Ok first) (Err fault) never = never (failed fault) refl
ends_mean low negated (Err fault) (Ok last) never = never (failed fault) refl
ends_mean low negated (Err fault) (Err second) never = never (record { values = []; faults = fault ∷ second ∷ [] }) refl

form_means : (facts : HostFacts) (negated : Bool) (what : HostForm) → ((words : Words AddrTest) → FormMeans facts negated what words → ⊥) → ⊥
form_means facts negated forms.Any never = never (found tests.Any) refl
form_means facts negated (forms.Word word mask) never =
    host_word_means facts word mask (λ answer means. never (tests_of_word negated answer) (record { answer = answer; means = means; are = refl }))
form_means facts negated (forms.Range low high) never =
    address_means low (λ first low_end. address_means high (λ last high_end. ends_mean low negated first last (λ words mean.
    never words (record { first = first; last = last; low_end = low_end; high_end = high_end; mean = mean }))))
form_means facts negated (forms.Dynamic word) never = never (dynamic_test negated word) refl
form_means facts negated (forms.Table name) never = never (found (tests.Test negated (sets.Table name))) refl

each_means : {I X : Type 0} (Means : I → Words X → Type 0) → ((item : I) → ((words : Words X) → Means item words → ⊥) → ⊥) → (items : List I) → ((readings : List (Words X)) → AllZip Means items readings → ⊥) → ⊥
each_means Means each [] never = never [] tt
each_means Means each (item ∷ items) never = each item (λ words means. each_means Means each items (λ readings mean. never (words ∷ readings) (means, mean)))

pub list_means : (facts : HostFacts) (items : List HostItem) → ((words : Words AddrTest) → HostsMean facts items words → ⊥) → ⊥
list_means facts items never =
    each_means (HostMeans facts) (λ item. form_means facts item.negated item.what) items (λ readings each. never (all_of readings) (record { readings = readings; each = each; are = refl }))

pub target_means : (facts : HostFacts) (target : TargetWords) → ((words : Words Target) → TargetMeans facts target words → ⊥) → ⊥
target_means facts target never = address_means target.addr (λ addr address. never (target_of addr (target_port facts target.port)) (record { addr = addr; address = address; are = refl }))
