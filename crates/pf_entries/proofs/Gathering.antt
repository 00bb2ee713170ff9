-- What is laid on what was gathered, piece by piece.
use Rattle.std.proofs.Common.{◌≡◌, ℕ, suc, ◌+◌, ◌<◌, ◌↔◌, Bool, true, false, cond, List, [], ◌∷◌, ◌++◌, length, get_or, take, map, Option, Some, None, Result, Ok, Err, OnOk, refl, sym, ap, ◌∙◌, subst, append_assoc, append-nil, add-zero, arith}
use Rattle.std.specs.List.{AllZip, flat_map, list_any}
use Rattle.std.proofs.lemmas.List.{map-append, take_more}
use Rattle.std.proofs.lemmas.List.Concat.{flat_map-append}
use Rattle.pf_base.specs.declared.fault.FaultKind.{FaultKind}
use Rattle.pf_base.specs.declared.fault.FaultKind.TheVariants as kinds
use Rattle.pf_base.specs.declared.fault.Place.{Place}
use Rattle.pf_addr.specs.Grammar.{Writes}
use Rattle.pf_addr.specs.PrefixText.{IsPrefixText, IsTooLong}
use Rattle.pf_addr.specs.declared.addr.Addr.{Addr}
use Rattle.pf_addr.specs.declared.parse.AddrFault.{AddrFault}
use Rattle.pf_addr.specs.declared.parse.AddrFault.TheVariants as texts
use Rattle.pf_addr.specs.declared.prefix.Prefix.{Prefix}
use Rattle.pf_word.specs.Hosts.{mask_fault}
use Rattle.pf_decl.specs.declared.form.TableItem.{TableItem}
use Rattle.pf_host.specs.Facts.{HostFacts}
use Rattle.pf_lexer.specs.declared.reads.ReadFile.{ReadFile}
use Rattle.pf_table.specs.declared.entry.Entry.{Entry}
use Rattle.pf_entries.specs.FileWords.{Bit, EntryMeans, PlacedBit, Signed, TextMeans, a_bad_byte, a_word, bits_at, bits_from, is_bad, no_prefix, too_long, unsigned, visible, words_in}
use Rattle.pf_fault.specs.Order.{decided, fault_at, first_of}
use Rattle.pf_entries.specs.Tables.{Gathers, Means, PieceMeans, Reading, Written, bit_in, faults_in, faults_of, file_in, in_file, item_at, items_at, laid, line_at, placed_at, placed_in, placed_of, word_at}
use Rattle.pf_fault.specs.declared.fault.Fault.{Fault}
use Rattle.pf_entries.specs.declared.gathered.Gathered.{Gathered}
use Rattle.pf_entries.specs.declared.gathered.Placed.{Placed}
use Rattle.pf_fault.specs.OrderLaws.{decided-append, first-assoc, first-none}

placed-append : (rs ss : List Reading) → placed_in (rs ++ ss) ≡ placed_in rs ++ placed_in ss
placed-append rs ss = flat_map-append (λ (reading : Reading). placed_of reading.place reading.means) rs ss

faults-append : (rs ss : List Reading) → faults_in (rs ++ ss) ≡ faults_in rs ++ faults_in ss
faults-append rs ss = flat_map-append (λ (reading : Reading). faults_of reading.place reading.means) rs ss

pub laid_more : (g : Gathered) (rs ss : List Reading) → laid (laid g rs) ss ≡ laid g (rs ++ ss)
laid_more g rs ss =
    let placed = append_assoc g.placed (placed_in rs) (placed_in ss) ∙ ap (λ (more : List Placed). g.placed ++ more) (sym (placed-append rs ss)) in
    let fault = first-assoc g.fault (decided (faults_in rs)) (decided (faults_in ss))
    ∙ ap (first_of g.fault) (sym (decided-append (faults_in rs) (faults_in ss)) ∙ ap decided (sym (faults-append rs ss))) in
    λ i. record { placed = placed i; fault = fault i }

zip_append : {A B : Type 0} (R : A → B → Type 0) (xs : List A) (ys : List B) (us : List A) (vs : List B) → AllZip R xs ys → AllZip R us vs → AllZip R (xs ++ us) (ys ++ vs)
zip_append R [] [] us vs all more = more
zip_append R [] (y ∷ ys) us vs all more = absurd all
zip_append R (x ∷ xs) [] us vs all more = absurd all
zip_append R (x ∷ xs) (y ∷ ys) us vs all more = (all.0, zip_append R xs ys us vs all.1 more)

pub gathers_more : (facts : HostFacts) (ws vs : List Written) (a b c : Gathered) → Gathers facts ws a b → Gathers facts vs b c → Gathers facts (ws ++ vs) a c
gathers_more facts ws vs a b c h k = record {
  readings = h.readings ++ k.readings;
  each = zip_append (Means facts) ws h.readings vs k.readings h.each k.each;
  are = k.are ∙ ap (λ (g : Gathered). laid g k.readings) h.are ∙ laid_more a h.readings k.readings;
}

pub gathers_entries : (facts : HostFacts) (one : Written) (entries : List Entry) (old new : Gathered) → PieceMeans facts one.piece (Ok entries)
    → new ≡ record old { placed = old.placed ++ map (placed_at one.place) entries } → Gathers facts (one ∷ []) old new
gathers_entries facts one entries old new means are = record {
  readings = record { means = Ok entries; place = one.place } ∷ [];
  each = (record { means = means; place = refl }, tt);
  are = are ∙ (λ i. record {
    placed = old.placed ++ sym (append-nil (map (placed_at one.place) entries)) i;
    fault = sym (first-none old.fault) i;
  });
}

pub gathers_fault : (facts : HostFacts) (one : Written) (kind : FaultKind) (old new : Gathered) → PieceMeans facts one.piece (Err kind)
    → new ≡ record old { fault = first_of old.fault (Some (fault_at kind one.place)) } → Gathers facts (one ∷ []) old new
gathers_fault facts one kind old new means are = record {
  readings = record { means = Err kind; place = one.place } ∷ [];
  each = (record { means = means; place = refl }, tt);
  are = are ∙ (λ i. record { placed = sym (append-nil old.placed) i; fault = first_of old.fault (Some (fault_at kind one.place)) });
}

pub on_ok : {A E : Type 0} (r : Result A E) (P Q : Type 0) → (P → Q) → OnOk r P → OnOk r Q
on_ok (Ok value) P Q f holds = f holds
on_ok (Err fault) P Q f holds = tt

-- one item more of the braces
pub items_step : (facts : HostFacts) (place : Place) (items : List TableItem) (i : ℕ) (item : TableItem) (a b c : Gathered) → i < length items → item ≡ get_or items i item
    → Gathers facts (items_at place (take i items)) a b → Gathers facts (item_at place item ∷ []) b c → Gathers facts (items_at place (take (i + 1) items)) a c
items_step facts place items i item a b c low is h k =
    let more : take (i + 1) items ≡ take i items ++ item ∷ [] = take_more items i item low ∙ ap (λ (x : TableItem). take i items ++ x ∷ []) (sym is) in
    let written : items_at place (take (i + 1) items) ≡ items_at place (take i items) ++ item_at place item ∷ [] = ap (items_at place) more ∙ map-append (item_at place) (take i items) (item ∷ []) in
    subst (λ (ws : List Written). Gathers facts ws a c) (sym written) (gathers_more facts (items_at place (take i items)) (item_at place item ∷ []) a b c h k)

-- one file more
pub files_step : (facts : HostFacts) (files : List ReadFile) (i : ℕ) (file : ReadFile) (a b c : Gathered) → i < length files → file ≡ get_or files i file
    → Gathers facts (flat_map file_in (take i files)) a b → Gathers facts (file_in file) b c → Gathers facts (flat_map file_in (take (i + 1) files)) a c
files_step facts files i file a b c low is h k =
    let more : take (i + 1) files ≡ take i files ++ file ∷ [] = take_more files i file low ∙ ap (λ (x : ReadFile). take i files ++ x ∷ []) (sym is) in
    let written : flat_map file_in (take (i + 1) files) ≡ flat_map file_in (take i files) ++ file_in file =
    ap (flat_map file_in) more ∙ flat_map-append file_in (take i files) (file ∷ []) ∙ ap (λ (ws : List Written). flat_map file_in (take i files) ++ ws) (append-nil (file_in file)) in
    subst (λ (ws : List Written). Gathers facts ws a c) (sym written) (gathers_more facts (flat_map file_in (take i files)) (file_in file) a b c h k)

-- one word more of a line
pub words_step : (facts : HostFacts) (place : Place) (seen : List (List ℕ)) (word : List ℕ) (a b c : Gathered)
    → Gathers facts (map (word_at place) seen) a b → Gathers facts (word_at place word ∷ []) b c → Gathers facts (map (word_at place) (seen ++ word ∷ [])) a c
words_step facts place seen word a b c h k =
    subst (λ (ws : List Written). Gathers facts ws a c) (sym (map-append (word_at place) seen (word ∷ []))) (gathers_more facts (map (word_at place) seen) (word_at place word ∷ []) a b c h k)

-- lines of a file, one more
bits-push : (file number : ℕ) (lines : List (List ℕ)) (line : List ℕ) → bits_from file number (lines ++ line ∷ []) ≡ bits_from file number lines ++ bits_at (record { file = file; line = number + length lines }) line
bits-push file number [] line =
    append-nil (bits_at (record { file = file; line = number }) line)
    ∙ ap (λ (n : ℕ). bits_at (record { file = file; line = n }) line) (sym (add-zero number))
bits-push file number (first ∷ lines) line =
    let first_bits = bits_at (record { file = file; line = number }) first in
    let count : number + 1 + length lines ≡ number + length (first ∷ lines) = omega arith in
    ap (λ (bits : List PlacedBit). first_bits ++ bits) (bits-push file (number + 1) lines line
    ∙ ap (λ (n : ℕ). bits_from file (number + 1) lines ++ bits_at (record { file = file; line = n }) line) count)
    ∙ sym (append_assoc first_bits (bits_from file (number + 1) lines) (bits_at (record { file = file; line = number + length (first ∷ lines) }) line))

-- the lines of a file so far
abbrev pub lines_in : ℕ → List (List ℕ) → List Written
lines_in file lines = map bit_in (bits_from file 1 lines)

pub lines_step : (facts : HostFacts) (file : ℕ) (seen : List (List ℕ)) (line : List ℕ) (number : ℕ) (a b c : Gathered) → 1 + length seen ≡ number
    → Gathers facts (lines_in file seen) a b → Gathers facts (line_at (record { file = file; line = number }) line) b c → Gathers facts (lines_in file (seen ++ line ∷ [])) a c
lines_step facts file seen line number a b c counted h k =
    let place : ℕ → Place = λ n. record { file = file; line = n } in
    let written : lines_in file (seen ++ line ∷ []) ≡ lines_in file seen ++ line_at (place number) line =
    ap (map bit_in) (bits-push file 1 seen line) ∙ map-append bit_in (bits_from file 1 seen) (bits_at (place (1 + length seen)) line)
    ∙ ap (λ (n : ℕ). lines_in file seen ++ line_at (place n) line) counted in
    subst (λ (ws : List Written). Gathers facts ws a c) (sym written) (gathers_more facts (lines_in file seen) (line_at (place number) line) a b c h k)

-- a word of a file

-- a word that is no prefix
pub word_fails : (negated : Bool) (word : List ℕ) (fault : AddrFault) → ((p : Prefix) → IsPrefixText word p → ◌≡◌ {A = Result Prefix AddrFault} (Err fault) (Ok p))
    → ((n : ℕ) → (◌≡◌ {A = Result Prefix AddrFault} (Err fault) (Err (texts.MaskTooLong n))) ↔ IsTooLong word n)
    → ((◌≡◌ {A = Result Prefix AddrFault} (Err fault) (Err texts.NotAnAddress)) ↔ ((a : Addr) (n : ℕ) → Writes word a n → ⊥)) → TextMeans negated word (Err (mask_fault word fault))
word_fails negated word (texts.MaskTooLong n) only long none = too_long n (λ p is. let both = only p is in absurd cc) ((long n).0 refl) refl
word_fails negated word texts.NotAnAddress only long none = no_prefix (none.0 refl) refl

-- what is meant by the text behind its sign is meant by the word
pub by_sign : (text : List ℕ) (negated : Bool) (word : List ℕ) (answer : Result (List Entry) FaultKind) → unsigned text ≡ record { negated = negated; word = word } → TextMeans negated word answer → EntryMeans text answer
by_sign text negated word answer same means = subst (λ (s : Signed). TextMeans s.negated s.word answer) (sym same) means

-- the parts of a line

abbrev bad_at : Place → Written
bad_at place = record { piece = in_file a_bad_byte; place = place }

abbrev placed_bit : Place → Bit → PlacedBit
placed_bit place bit = record { bit = bit; place = place }

words_mapped : (place : Place) (words : List (List ℕ)) → map bit_in (map (placed_bit place) (map a_word words)) ≡ map (word_at place) words
words_mapped place [] = refl
words_mapped place (word ∷ words) = ap (λ (ws : List Written). word_at place word ∷ ws) (words_mapped place words)

bad_line : (place : Place) (line : List ℕ) → list_any is_bad (visible line) ≡ true → line_at place line ≡ (bad_at place ∷ []) ++ map (word_at place) (words_in (visible line))
bad_line place line bad =
    ap (λ (b : Bool). map bit_in (map (placed_bit place) (cond b (a_bad_byte ∷ []) [] ++ map a_word (words_in (visible line))))) bad
    ∙ ap (λ (ws : List Written). bad_at place ∷ ws) (words_mapped place (words_in (visible line)))

good_line : (place : Place) (line : List ℕ) → list_any is_bad (visible line) ≡ false → line_at place line ≡ map (word_at place) (words_in (visible line))
good_line place line good =
    ap (λ (b : Bool). map bit_in (map (placed_bit place) (cond b (a_bad_byte ∷ []) [] ++ map a_word (words_in (visible line))))) good
    ∙ words_mapped place (words_in (visible line))

pub gathers_bad_line : (facts : HostFacts) (place : Place) (line : List ℕ) (old middle new : Gathered) → list_any is_bad (visible line) ≡ true
    → middle ≡ record old { fault = first_of old.fault (Some (fault_at kinds.BadByte place)) } → Gathers facts (map (word_at place) (words_in (visible line))) middle new → Gathers facts (line_at place line) old new
gathers_bad_line facts place line old middle new bad first words =
    subst (λ (ws : List Written). Gathers facts ws old new) (sym (bad_line place line bad))
    (gathers_more facts (bad_at place ∷ []) (map (word_at place) (words_in (visible line))) old middle new (gathers_fault facts (bad_at place) kinds.BadByte old middle refl first) words)

pub gathers_good_line : (facts : HostFacts) (place : Place) (line : List ℕ) (old new : Gathered) → list_any is_bad (visible line) ≡ false
    → Gathers facts (map (word_at place) (words_in (visible line))) old new → Gathers facts (line_at place line) old new
gathers_good_line facts place line old new good words = subst (λ (ws : List Written). Gathers facts ws old new) (sym (good_line place line good)) words
