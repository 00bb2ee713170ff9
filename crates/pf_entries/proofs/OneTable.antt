-- Over a disk a declaration comes to one thing.
use Rattle.std.proofs.Common.{◌≡◌, ℕ, Bool, List, [], ◌∷◌, Option, Some, None, Result, Ok, Err, refl, sym, ap, ◌∙◌, subst, inl, inr}
use Rattle.std.specs.Prelude.{◌⊎◌}
use Rattle.std.specs.List.{AllZip}
use Rattle.pf_base.specs.declared.fault.FaultKind.{FaultKind}
use Rattle.pf_base.specs.declared.fault.FaultKind.TheVariants as kinds
use Rattle.pf_base.specs.declared.fault.Place.{Place}
use Rattle.pf_addr.specs.Grammar.{Writes}
use Rattle.pf_addr.specs.PrefixText.{IsPrefixText}
use Rattle.pf_addr.specs.declared.addr.Addr.{Addr}
use Rattle.pf_addr.specs.declared.prefix.Prefix.{Prefix}
use Rattle.pf_decl.specs.declared.form.TableForm.{TableForm}
use Rattle.pf_host.specs.Facts.{HostFacts}
use Rattle.pf_lexer.specs.ReadSoFar.{ReadSoFar}
use Rattle.pf_lexer.specs.declared.reads.ReadFile.{ReadFile}
use Rattle.pf_shelf.specs.declared.decl.TableDecl.{TableDecl}
use Rattle.pf_source.specs.Disk.{Disk, without}
use Rattle.pf_table.specs.declared.entry.Entry.{Entry}
use Rattle.pf_word.specs.Hosts.{HostWordMeans}
use Rattle.pf_entries.specs.FileWords.{Bit, BitMeans, TextMeans, a_bad_byte, a_prefix, a_word, no_prefix, too_long}
use Rattle.pf_entries.specs.TableFiles.{Contents, contents_of}
use Rattle.pf_entries.specs.Tables.{ComesOf, Gathers, IsJudged, Means, Piece, PieceMeans, Reading, TableComes, Written, an_item, answer_with, declared_with, distinct, in_file, laid, nothing_gathered, signed, table_fault, written_in}
use Rattle.pf_entries.specs.Without.{TableStops, TableWithout}
use Rattle.pf_fault.specs.declared.fault.Fault.{Fault}
use Rattle.pf_fault.specs.declared.fault.Stop.{Stop}
use Rattle.pf_fault.specs.declared.fault.Stop.TheVariants.{Unread}
use Rattle.pf_entries.specs.declared.gathered.Gathered.{Gathered}
use Rattle.pf_entries.proofs.TableContents.{contents_without}

-- the laws of words and texts below
abbrev pub WordsOne : Type 0
WordsOne = (facts : HostFacts) (word : List ℕ) (mask : Option (List ℕ)) (answer other : Result (List Prefix) FaultKind) → HostWordMeans facts word mask answer → HostWordMeans facts word mask other → answer ≡ other

abbrev pub PrefixOne : Type 0
PrefixOne = (text : List ℕ) (p q : Prefix) → IsPrefixText text p → IsPrefixText text q → p ≡ q

abbrev pub MaskOne : Type 0
MaskOne = (text : List ℕ) (a b : Addr) (m n : ℕ) → Writes text a m → Writes text b n → m ≡ n

one_text : PrefixOne → MaskOne → (negated : Bool) (text : List ℕ) (a b : Result (List Entry) FaultKind) → TextMeans negated text a → TextMeans negated text b → a ≡ b
one_text prefix mask negated text a b (a_prefix p h e) (a_prefix q k f) = e ∙ ap (λ (r : Prefix). Ok (record { prefix = r; negated = negated } ∷ [])) (prefix text p q h k) ∙ sym f
one_text prefix mask negated text a b (a_prefix p h e) (too_long bits none k f) = absurd (none p h)
one_text prefix mask negated text a b (a_prefix p h e) (no_prefix none f) = absurd (none h.addr p.len h.writes)
one_text prefix mask negated text a b (too_long bits none h e) (a_prefix q k f) = absurd (none q k)
one_text prefix mask negated text a b (too_long m none h e) (too_long n never k f) = e ∙ ap (λ (l : ℕ). Err (kinds.MaskTooLong l)) (mask text h.addr k.addr m n h.writes k.writes) ∙ sym f
one_text prefix mask negated text a b (too_long bits none h e) (no_prefix never f) = absurd (never h.addr bits h.writes)
one_text prefix mask negated text a b (no_prefix none e) (a_prefix q k f) = absurd (none k.addr q.len k.writes)
one_text prefix mask negated text a b (no_prefix none e) (too_long bits never k f) = absurd (none k.addr bits k.writes)
one_text prefix mask negated text a b (no_prefix none e) (no_prefix never f) = e ∙ sym f

module _ (words : WordsOne) (prefix : PrefixOne) (mask : MaskOne) where
  one_piece : (facts : HostFacts) (piece : Piece) (a b : Result (List Entry) FaultKind) → PieceMeans facts piece a → PieceMeans facts piece b → a ≡ b
  one_piece facts (an_item item) a b h k =
      h.are ∙ ap (signed item.negated) (words facts item.word item.mask h.prefixes k.prefixes h.means k.means) ∙ sym k.are
  one_piece facts (in_file (a_word text)) a b h k = one_text prefix mask _ _ a b h k
  one_piece facts (in_file a_bad_byte) a b h k = h ∙ sym k

  one_reading : (facts : HostFacts) (written : Written) (a b : Reading) → Means facts written a → Means facts written b → a ≡ b
  one_reading facts written a b h k =
      let means = one_piece facts written.piece a.means b.means h.means k.means in
      let place = h.place ∙ sym k.place in
      λ i. record { means = means i; place = place i }

  one_readings : (facts : HostFacts) (written : List Written) (a b : List Reading) → AllZip (Means facts) written a → AllZip (Means facts) written b → a ≡ b
  one_readings facts [] [] [] h k = refl
  one_readings facts [] [] (y ∷ b) h k = absurd k
  one_readings facts [] (x ∷ a) b h k = absurd h
  one_readings facts (w ∷ ws) [] b h k = absurd h
  one_readings facts (w ∷ ws) (x ∷ a) [] h k = absurd k
  one_readings facts (w ∷ ws) (x ∷ a) (y ∷ b) h k =
      let first = one_reading facts w x y h.0 k.0 in
      let rest = one_readings facts ws a b h.1 k.1 in
      λ i. first i ∷ rest i

  one_judgement : (facts : HostFacts) (tables : List TableDecl) (form : TableForm) (place : Place) (files : List ReadFile) (a b : Result TableDecl Stop) → IsJudged facts tables form place files a → IsJudged facts tables form place files b → a ≡ b
  one_judgement facts tables form place files a b h k =
      let readings = one_readings facts (written_in form place files) h.read.readings k.read.readings h.read.each k.read.each in
      let all : h.all ≡ k.all = h.read.are ∙ ap (laid nothing_gathered) readings ∙ sym k.read.are in
      h.gives ∙ ap (λ (g : Gathered). answer_with (table_fault tables form place g) (declared_with form (distinct g.placed))) all ∙ sym k.gives

  one_of : (facts : HostFacts) (tables : List TableDecl) (form : TableForm) (place : Place) (files : Result (List ReadFile) Stop) (a b : Result TableDecl Stop) → ComesOf facts tables form place files a → ComesOf facts tables form place files b → a ≡ b
  one_of facts tables form place (Ok files) a b h k = one_judgement facts tables form place files a b h k
  one_of facts tables form place (Err stop) a b h k = h ∙ sym k

  pub one_table : (disk : Disk) (facts : HostFacts) (tables : List TableDecl) (form : TableForm) (place : Place) (reads later latest : ReadSoFar) (a b : Result TableDecl Stop)
      → TableComes disk facts tables form place reads a later → TableComes disk facts tables form place reads b latest → (a ≡ b) × (later ≡ latest)
  one_table disk facts tables form place reads later latest a b h k =
      (one_of facts tables form place (contents_of disk form.files reads).files a b h.comes k.comes, h.read ∙ sym k.read)

-- without one file the same comes of a declaration, or that file can't be read
pub table_without : (disk : Disk) (gone : List ℕ) (facts : HostFacts) (tables : List TableDecl) (form : TableForm) (place : Place) (reads later : ReadSoFar) (answer : Result TableDecl Stop)
    → TableComes disk facts tables form place reads answer later → TableWithout disk gone facts tables form place reads answer later
table_without disk gone facts tables form place reads later answer h = elim (contents_without disk gone form.files reads) [
  | inl same ↦ inl (record {
    comes = subst (λ (c : Contents). ComesOf facts tables form place c.files answer) (sym same) h.comes;
    read = h.read ∙ ap (λ (c : Contents). c.later) (sym same);
  })
  | inr lost ↦ inr (record {
    at = (contents_of (without (Some gone) disk) form.files reads).later;
    comes = record {
      comes = subst (λ (f : Result (List ReadFile) Stop). ComesOf facts tables form place f (Err (Unread gone))) (sym lost) refl;
      read = refl;
    };
  })
]
