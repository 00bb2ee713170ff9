-- What declarations leave of what was read, and in which files their faults stand.
use Rattle.std.proofs.Common.{◌≡◌, ℕ, ◌+◌, ◌-◌, ◌<◌, ◌≤◌, Bool, true, false, cond, List, [], ◌∷◌, ◌++◌, length, Option, Some, None, Result, Ok, Err, refl, sym, ap, ◌∙◌, subst, arith}
use Rattle.std.specs.Prelude.{min, nat_le}
use Rattle.std.proofs.lemmas.Bool.{leb-true}
use Rattle.std.proofs.lemmas.List.Elements.{All-cons}
use Rattle.pf_base.specs.declared.fault.Place.{Place}
use Rattle.pf_decl.specs.declared.form.TableForm.{TableForm}
use Rattle.pf_host.specs.Facts.{HostFacts}
use Rattle.pf_lexer.specs.ReadSoFar.{ReadSoFar}
use Rattle.pf_lexer.specs.Reads.{GoesOn, Look, absent, given, has_numbered, has_read, look_of, number_of, read_limit, too_large, with_name}
use Rattle.pf_lexer.specs.declared.reads.ReadFile.{ReadFile}
use Rattle.pf_shelf.specs.declared.decl.TableDecl.{TableDecl}
use Rattle.pf_source.specs.Disk.{Disk}
use Rattle.pf_fault.specs.Stops.{IsStopWithin, StopWithin}
use Rattle.pf_entries.specs.Numbered.{AreFilesWithin, FilesWithin}
use Rattle.pf_entries.specs.Stays.{TableStays}
use Rattle.pf_entries.specs.TableFiles.{Contents, contents_of, going_on, in_front}
use Rattle.pf_entries.specs.Tables.{ComesOf, TableComes, answer_with, declared_with, distinct, table_fault}
use Rattle.pf_fault.specs.declared.fault.Fault.{Fault}
use Rattle.pf_fault.specs.declared.fault.Stop.{Stop}
use Rattle.pf_fault.specs.declared.fault.Stop.TheVariants as stops
use Rattle.pf_entries.proofs.Judging.{judged_here, still_in}
use Rattle.pf_entries.proofs.TableContents.{goes_further, goes_nowhere, no_files, numbered_inside, with_name_grows}

-- what some readings leave
record ReadsStay (reads : ReadSoFar) (files : Result (List ReadFile) Stop) (later : ReadSoFar) : Type 0 where
  grows : GoesOn reads.names later.names
  left : later.left ≤ reads.left
  within : FilesWithin (length later.names) files
  enough : files ≡ Err stops.NoMemory → ⊥

-- a number that is told is one of the names, and no file is too long
abbrev LookFits : ReadSoFar → List ℕ → Look → Type 0
LookFits reads name absent = Unit {0}
LookFits reads name (too_large number) = number < length (with_name reads.names name)
LookFits reads name (given number bytes) = (number < length (with_name reads.names name)) × (length bytes ≤ 4194304)

low_enough : (size left : ℕ) → size ≤ min 4194304 left → size ≤ 4194304
low_enough size left h = omega arith

look_fits : (reads : ReadSoFar) (name : List ℕ) (held : Option (List ℕ)) → LookFits reads name (look_of reads name held)
look_fits reads name None = tt
look_fits reads name (Some bytes) = by_size (nat_le (length bytes) (read_limit reads.left)) refl
  where
    by_size : (b : Bool) → nat_le (length bytes) (read_limit reads.left) ≡ b → LookFits reads name (cond b (given (number_of reads.names name) bytes) (too_large (number_of reads.names name)))
    by_size true fits = (numbered_inside reads.names name, low_enough (length bytes) reads.left (leb-true (length bytes) (read_limit reads.left) fits))
    by_size false fits = numbered_inside reads.names name

in_front_within : (count : ℕ) (file : ReadFile) (files : Result (List ReadFile) Stop) → file.number < count → length file.text ≤ 4194304 → FilesWithin count files → FilesWithin count (in_front file files)
in_front_within count file (Ok files) low short within = record {
  numbered = All-cons (λ (one : ReadFile). one.number < count) file files low within.numbered;
  short = All-cons (λ (one : ReadFile). length one.text ≤ 4194304) file files short within.short;
}
in_front_within count file (Err stop) low short within = within

in_front_enough : (file : ReadFile) (files : Result (List ReadFile) Stop) → (files ≡ Err stops.NoMemory → ⊥) → in_front file files ≡ Err stops.NoMemory → ⊥
in_front_enough file (Ok files) enough is = cc
in_front_enough file (Err stop) enough is = enough is

lower : (later left size : ℕ) → later ≤ left - size → later ≤ left
lower later left size h = omega arith

going_stays : (reads : ReadSoFar) (name : List ℕ) (look : Look) (rest : ReadSoFar → Contents) → LookFits reads name look → ((r : ReadSoFar) → ReadsStay r (rest r).files (rest r).later)
    → ReadsStay reads (going_on reads name look rest).files (going_on reads name look rest).later
going_stays reads name absent rest fits stay = record { grows = goes_nowhere reads.names; left = omega arith; within = tt; enough = λ is. cc }
going_stays reads name (too_large number) rest fits stay = record { grows = with_name_grows reads.names name; left = omega arith; within = fits; enough = λ is. cc }
going_stays reads name (given number bytes) rest fits stay =
    let after = has_read reads name bytes in
    let more = rest after in
    let so = stay after in
    let file : ReadFile = record { number = number; text = bytes } in
    record {
      grows = goes_further reads.names after.names more.later.names (with_name_grows reads.names name) so.grows;
      left = lower more.later.left reads.left (length bytes) so.left;
      within = in_front_within (length more.later.names) file more.files (still_in after.names more.later.names number so.grows fits.0) fits.1 so.within;
      enough = in_front_enough file more.files so.enough;
    }

contents_stay : (disk : Disk) (names : List (List ℕ)) (reads : ReadSoFar) → ReadsStay reads (contents_of disk names reads).files (contents_of disk names reads).later
contents_stay disk [] reads = record { grows = goes_nowhere reads.names; left = omega arith; within = no_files (length reads.names); enough = λ is. cc }
contents_stay disk (name ∷ names) reads = going_stays reads name (look_of reads name (disk name)) (contents_of disk names) (look_fits reads name (disk name)) (contents_stay disk names)

never_short : (fault : Option Fault) (decl : TableDecl) → answer_with fault decl ≡ Err stops.NoMemory → ⊥
never_short None decl is = cc
never_short (Some fault) decl is = cc

comes_stay : (facts : HostFacts) (tables : List TableDecl) (form : TableForm) (place : Place) (reads later : ReadSoFar) (files : Result (List ReadFile) Stop) (answer : Result TableDecl Stop)
    → ReadsStay reads files later → ComesOf facts tables form place files answer → place.file < length reads.names → TableStays reads answer later
comes_stay facts tables form place reads later (Ok files) answer stay judged low = record {
  grows = stay.grows;
  left = stay.left;
  within = judged_here (length later.names) facts tables form place files answer judged (still_in reads.names later.names place.file stay.grows low) stay.within.numbered;
  enough = λ is. never_short (table_fault tables form place judged.all) (declared_with form (distinct judged.all.placed)) (sym judged.gives ∙ is);
}
comes_stay facts tables form place reads later (Err stop) answer stay told low = record {
  grows = stay.grows;
  left = stay.left;
  within = subst (StopWithin (length later.names)) (sym told) stay.within;
  enough = λ is. stay.enough (other_kind stop (sym told ∙ is));
}
  where
    other_kind : (stop : Stop) → ◌≡◌ {A = Result TableDecl Stop} (Err stop) (Err stops.NoMemory) → ◌≡◌ {A = Result (List ReadFile) Stop} (Err stop) (Err stops.NoMemory)
    other_kind stop same = let inner : stop ≡ stops.NoMemory = cc in ap (λ (s : Stop). Err s) inner

pub table_stays : (disk : Disk) (facts : HostFacts) (tables : List TableDecl) (form : TableForm) (place : Place) (reads later : ReadSoFar) (answer : Result TableDecl Stop)
    → TableComes disk facts tables form place reads answer later → place.file < length reads.names → TableStays reads answer later
table_stays disk facts tables form place reads later answer comes low =
    let contents = contents_of disk form.files reads in
    subst (TableStays reads answer) (sym comes.read) (comes_stay facts tables form place reads contents.later contents.files answer (contents_stay disk form.files reads) comes.comes low)
