-- Declarations come to something: it can't be that nothing is what one comes to.
use Rattle.std.proofs.Common.{◌≡◌, ℕ, zero, suc, ◌+◌, ◌<◌, ◌≤◌, Bool, true, false, List, [], ◌∷◌, ◌++◌, length, take, Option, Some, None, Result, Ok, Err, refl, sym, ap, ◌∙◌, subst, inl, inr, arith}
use Rattle.std.specs.Prelude.{◌⊎◌, slice_get}
use Rattle.std.specs.List.{AllZip}
use Rattle.pf_base.specs.declared.fault.FaultKind.{FaultKind}
use Rattle.pf_base.specs.declared.fault.FaultKind.TheVariants as kinds
use Rattle.pf_base.specs.declared.fault.Place.{Place}
use Rattle.pf_addr.specs.Addr.{network, width}
use Rattle.pf_addr.specs.Grammar.{IsAddrText, Writes, slash}
use Rattle.pf_addr.specs.NetworkLaws.{network-host_bits, network-width}
use Rattle.pf_addr.specs.Prefix.{whole}
use Rattle.pf_addr.specs.PrefixText.{IsPrefixText, IsTooLong}
use Rattle.pf_addr.specs.declared.addr.Addr.{Addr}
use Rattle.pf_addr.specs.declared.prefix.Prefix.{Prefix}
use Rattle.pf_decl.specs.declared.form.TableForm.{TableForm}
use Rattle.pf_host.specs.Facts.{HostFacts}
use Rattle.pf_lexer.specs.ReadSoFar.{ReadSoFar}
use Rattle.pf_lexer.specs.declared.reads.ReadFile.{ReadFile}
use Rattle.pf_shelf.specs.declared.decl.TableDecl.{TableDecl}
use Rattle.pf_source.specs.Disk.{Disk}
use Rattle.pf_table.specs.declared.entry.Entry.{Entry}
use Rattle.pf_word.specs.Hosts.{HostWordMeans, MaskedMeans, WordMeans, a_name, an_address, meaning_of_name}
use Rattle.pf_word.specs.Hosts as hosts
use Rattle.pf_word.specs.Words.{named}
use Rattle.pf_entries.specs.FileWords.{TextMeans, a_bad_byte, a_prefix, a_word, no_prefix, too_long, unsigned}
use Rattle.pf_entries.specs.TableFiles.{contents_of}
use Rattle.pf_entries.specs.Tables.{ComesOf, Means, Piece, PieceMeans, Reading, TableComes, Written, an_item, answer_with, declared_with, distinct, in_file, laid, nothing_gathered, signed, table_fault, written_in}
use Rattle.pf_fault.specs.declared.fault.Fault.{Fault}
use Rattle.pf_fault.specs.declared.fault.Stop.{Stop}

-- the prefix of an address and a mask that its family has
abbrev prefix_at : (addr : Addr) (bits : ℕ) → bits ≤ width addr → Prefix
prefix_at addr bits fits = record { addr = network addr bits; len = bits; fits = subst (λ (w : ℕ). bits ≤ w) (sym (network-width addr bits)) fits; no_host_bits = network-host_bits addr bits }

not_over : (bits most : ℕ) → (most < bits → ⊥) → bits ≤ most
not_over bits most h = omega arith

-- a text of no prefix and with no mask too long writes no address
writes_none : (text : List ℕ) → ((prefix : Prefix) → IsPrefixText text prefix → ⊥) → ((bits : ℕ) → IsTooLong text bits → ⊥) → (addr : Addr) (bits : ℕ) → Writes text addr bits → ⊥
writes_none text none never addr bits writes =
    let fits : bits ≤ width addr = not_over bits (width addr) (λ over. never bits (record { addr = addr; writes = writes; over = over })) in
    none (prefix_at addr bits fits) (record { addr = addr; writes = writes; fits = fits; cleared = refl })

text_means : (negated : Bool) (text : List ℕ) → ((answer : Result (List Entry) FaultKind) → TextMeans negated text answer → ⊥) → ⊥
text_means negated text never =
    let none : (prefix : Prefix) → IsPrefixText text prefix → ⊥ = λ prefix is. never (Ok (record { prefix = prefix; negated = negated } ∷ [])) (a_prefix prefix is refl) in
    let fits : (bits : ℕ) → IsTooLong text bits → ⊥ = λ bits is. never (Err (kinds.MaskTooLong bits)) (too_long bits none is refl) in
    never (Err (kinds.NotAnAddress (named text))) (no_prefix (writes_none text none fits) refl)

word_means : (facts : HostFacts) (word : List ℕ) (mask : Option (List ℕ)) → ((answer : Result (List Prefix) FaultKind) → HostWordMeans facts word mask answer → ⊥) → ⊥
word_means facts word None never = never (meaning_of_name facts word) (a_name (λ addr is. never (Ok (whole addr ∷ [])) (an_address addr is refl)) refl)
word_means facts word (Some mask) never =
    let text : List ℕ = word ++ slash ∷ mask in
    let none : (prefix : Prefix) → IsPrefixText text prefix → ⊥ = λ prefix is. never (Ok (prefix ∷ [])) (hosts.a_prefix prefix is refl) in
    let fits : (bits : ℕ) → IsTooLong text bits → ⊥ = λ bits is. never (Err (kinds.MaskTooLong bits)) (hosts.too_long bits none is refl) in
    never (Err (kinds.NotAnAddress (named word))) (hosts.no_prefix (writes_none text none fits) refl)

piece_means : (facts : HostFacts) (piece : Piece) → ((answer : Result (List Entry) FaultKind) → PieceMeans facts piece answer → ⊥) → ⊥
piece_means facts (an_item item) never =
    word_means facts item.word item.mask (λ prefixes means. never (signed item.negated prefixes) (record { prefixes = prefixes; means = means; are = refl }))
piece_means facts (in_file (a_word text)) never = text_means (unsigned text).negated (unsigned text).word never
piece_means facts (in_file a_bad_byte) never = never (Err kinds.BadByte) refl

each_means : (facts : HostFacts) (written : List Written) → ((readings : List Reading) → AllZip (Means facts) written readings → ⊥) → ⊥
each_means facts [] never = never [] tt
each_means facts (one ∷ written) never =
    piece_means facts one.piece (λ answer means. each_means facts written (λ readings each.
    never (record { means = answer; place = one.place } ∷ readings) (record { means = means; place = refl }, each)))

comes_of : (facts : HostFacts) (tables : List TableDecl) (form : TableForm) (place : Place) (files : Result (List ReadFile) Stop) → ((answer : Result TableDecl Stop) → ComesOf facts tables form place files answer → ⊥) → ⊥
comes_of facts tables form place (Err stop) never = never (Err stop) refl
comes_of facts tables form place (Ok files) never =
    each_means facts (written_in form place files) (λ readings each.
    never (answer_with (table_fault tables form place (laid nothing_gathered readings)) (declared_with form (distinct (laid nothing_gathered readings).placed)))
    (record { all = laid nothing_gathered readings; read = record { readings = readings; each = each; are = refl }; gives = refl }))

pub table_comes : (disk : Disk) (facts : HostFacts) (tables : List TableDecl) (form : TableForm) (place : Place) (reads : ReadSoFar)
    → ((answer : Result TableDecl Stop) (later : ReadSoFar) → TableComes disk facts tables form place reads answer later → ⊥) → ⊥
table_comes disk facts tables form place reads never =
    let contents = contents_of disk form.files reads in
    comes_of facts tables form place contents.files (λ answer comes. never answer contents.later (record { comes = comes; read = refl }))
