-- What a declaration comes to, once its files were read.
use Rattle.std.proofs.Common.{◌≡◌, ℕ, ◌+◌, ◌<◌, ◌≤◌, Bool, true, false, cond, List, [], ◌∷◌, ◌++◌, length, map, Option, Some, None, Result, Ok, Err, refl, sym, ap, ◌∙◌, subst, arith, length-append}
use Rattle.std.specs.Prelude.{All, IfSome, nat_lt}
use Rattle.std.specs.List.{AllZip, flat_map, list_any}
use Rattle.std.proofs.lemmas.List.Elements.{All-append, All-cons, All-head, All-map, All-nil, All-tail}
use Rattle.pf_base.specs.declared.fault.FaultKind.{FaultKind}
use Rattle.pf_base.specs.declared.fault.FaultKind.TheVariants as kinds
use Rattle.pf_base.specs.declared.fault.Place.{Place}
use Rattle.pf_decl.specs.declared.form.TableForm.{TableForm}
use Rattle.pf_decl.specs.declared.form.TableItem.{TableItem}
use Rattle.pf_host.specs.Facts.{HostFacts}
use Rattle.pf_lexer.specs.ReadSoFar.{ReadSoFar}
use Rattle.pf_lexer.specs.Reads.{GoesOn}
use Rattle.pf_lexer.specs.declared.reads.ReadFile.{ReadFile}
use Rattle.pf_shelf.specs.declared.decl.TableDecl.{TableDecl}
use Rattle.pf_source.specs.Disk.{Disk}
use Rattle.pf_table.specs.declared.entry.Entry.{Entry}
use Rattle.pf_base.specs.Text.{lines_of}
use Rattle.pf_entries.specs.FileWords.{Bit, PlacedBit, bits_at, bits_from, bits_in, visible}
use Rattle.pf_fault.specs.Stops.{StopWithin}
use Rattle.pf_fault.specs.Order.{decided, fault_at, first_of, rank}
use Rattle.pf_fault.specs.Stops.{UnlessShort}
use Rattle.pf_entries.specs.TableFiles.{Contents, IsRead}
use Rattle.pf_entries.specs.Tables.{ComesOf, Gathers, IsJudged, MayCome, Means, Reading, Written, answer_with, bit_in, conflict_behind, conflict_fault, conflict_in, contradicts, declared_with, distinct, faults_in, faults_of, file_in, is_declared, item_at, items_at, items_of, laid, name_fault, nothing_gathered, placed_at, placed_in, placed_of, table_fault, where_so, written_in}
use Rattle.pf_fault.specs.declared.fault.Fault.{Fault}
use Rattle.pf_fault.specs.declared.fault.Stop.{Stop}
use Rattle.pf_fault.specs.declared.fault.Stop.TheVariants as stops
use Rattle.pf_entries.specs.declared.gathered.Gathered.{Gathered}
use Rattle.pf_entries.specs.declared.gathered.Placed.{Placed}
use Rattle.pf_fault.specs.OrderLaws.{first-none}

-- the answer

faulty : (b : Bool) (one other : Fault) (decl empty : TableDecl) → answer_with (cond b (Some one) (Some other)) decl ≡ answer_with (cond b (Some one) (Some other)) empty
faulty true one other decl empty = refl
faulty false one other decl empty = refl

-- with a fault the declaration doesn't matter
some_fault : (before : Option Fault) (fault : Fault) (decl empty : TableDecl) → answer_with (first_of before (Some fault)) decl ≡ answer_with (first_of before (Some fault)) empty
some_fault None fault decl empty = refl
some_fault (Some one) fault decl empty = faulty (nat_lt (rank fault.kind) (rank one.kind)) fault one decl empty

module _ (facts : HostFacts) (tables : List TableDecl) (form : TableForm) (place : Place) (files : List ReadFile) (all : Gathered) (read : Gathers facts (written_in form place files) nothing_gathered all) (before : Option Fault)
    (first : before ≡ first_of all.fault (name_fault tables form place)) where
  -- with a conflict
  pub conflicts : (at : Place) (conflict : Option Fault) (entries : List Entry) (answer : Result TableDecl Stop) → conflict_in all.placed ≡ Some at
      → conflict ≡ first_of before (Some (fault_at kinds.TableConflict at)) → answer ≡ answer_with conflict (declared_with form entries) → IsJudged facts tables form place files answer
  conflicts at conflict entries answer is same gives = record {
    all = all;
    read = read;
    gives =
        gives ∙ ap (λ (f : Option Fault). answer_with f (declared_with form entries)) same
        ∙ some_fault before (fault_at kinds.TableConflict at) (declared_with form entries) (declared_with form (distinct all.placed))
        ∙ ap (λ (f : Option Fault). answer_with (first_of f (Some (fault_at kinds.TableConflict at))) (declared_with form (distinct all.placed))) first
        ∙ ap (λ (f : Option Place). answer_with (first_of (first_of all.fault (name_fault tables form place)) (conflict_fault f)) (declared_with form (distinct all.placed))) (sym is);
  }

  -- without one
  pub agrees : (entries : List Entry) (answer : Result TableDecl Stop) → conflict_in all.placed ≡ None → entries ≡ distinct all.placed
      → answer ≡ answer_with before (declared_with form entries) → IsJudged facts tables form place files answer
  agrees entries answer is same gives = record {
    all = all;
    read = read;
    gives =
        gives ∙ ap (λ (es : List Entry). answer_with before (declared_with form es)) same
        ∙ ap (λ (f : Option Fault). answer_with f (declared_with form (distinct all.placed))) (first ∙ sym (first-none (first_of all.fault (name_fault tables form place))))
        ∙ ap (λ (f : Option Place). answer_with (first_of (first_of all.fault (name_fault tables form place)) (conflict_fault f)) (declared_with form (distinct all.placed))) (sym is);
  }

-- places

module _ (count : ℕ) where
  abbrev IsPlaceIn : Place → Type 0
  IsPlaceIn place = place.file < count

  abbrev IsWrittenIn : Written → Type 0
  IsWrittenIn one = one.place.file < count

  abbrev IsBitIn : PlacedBit → Type 0
  IsBitIn one = one.place.file < count

  abbrev IsReadingIn : Reading → Type 0
  IsReadingIn one = one.place.file < count

  abbrev IsPlacedIn : Placed → Type 0
  IsPlacedIn one = one.place.file < count

  abbrev IsFaultIn : Option Fault → Type 0
  IsFaultIn fault = IfSome fault (λ one. one.place.file < count)

  bits_here : (place : Place) → IsPlaceIn place → (bits : List Bit) → All IsBitIn (map (λ (bit : Bit). record { bit = bit; place = place }) bits)
  bits_here place h [] = All-nil IsBitIn
  bits_here place h (bit ∷ bits) = All-cons IsBitIn (record { bit = bit; place = place }) (map (λ (one : Bit). record { bit = one; place = place }) bits) h (bits_here place h bits)

  lines_here : (file : ℕ) → file < count → (number : ℕ) (lines : List (List ℕ)) → All IsBitIn (bits_from file number lines)
  lines_here file h number [] = All-nil IsBitIn
  lines_here file h number (line ∷ lines) =
      let place : Place = record { file = file; line = number } in
      All-append IsBitIn (bits_at place line) (bits_from file (number + 1) lines) (bits_here place h (bits_in (visible line))) (lines_here file h (number + 1) lines)

  files_here : (files : List ReadFile) → All (λ (file : ReadFile). file.number < count) files → All IsWrittenIn (flat_map file_in files)
  files_here [] all = All-nil IsWrittenIn
  files_here (file ∷ files) all =
      All-append IsWrittenIn (file_in file) (flat_map file_in files)
      (All-map IsWrittenIn bit_in (bits_from file.number 1 (lines_of file.text)) (lines_here file.number (All-head (λ (one : ReadFile). one.number < count) file files all) 1 (lines_of file.text)))
      (files_here files (All-tail (λ (one : ReadFile). one.number < count) file files all))

  items_here : (place : Place) → IsPlaceIn place → (items : List TableItem) → All IsWrittenIn (items_at place items)
  items_here place h [] = All-nil IsWrittenIn
  items_here place h (item ∷ items) = All-cons IsWrittenIn (item_at place item) (items_at place items) h (items_here place h items)

  readings_here : (facts : HostFacts) (written : List Written) (readings : List Reading) → AllZip (Means facts) written readings → All IsWrittenIn written → All IsReadingIn readings
  readings_here facts [] [] each all = All-nil IsReadingIn
  readings_here facts [] (reading ∷ readings) each all = absurd each
  readings_here facts (one ∷ written) [] each all = absurd each
  readings_here facts (one ∷ written) (reading ∷ readings) each all =
      All-cons IsReadingIn reading readings (subst IsPlaceIn (sym each.0.place) (All-head IsWrittenIn one written all)) (readings_here facts written readings each.1 (All-tail IsWrittenIn one written all))

  first_here : (one other : Option Fault) → IsFaultIn one → IsFaultIn other → IsFaultIn (first_of one other)
  first_here None other h k = k
  first_here (Some one) None h k = h
  first_here (Some one) (Some other) h k = by_rank (nat_lt (rank other.kind) (rank one.kind)) one other h k
    where
      by_rank : (b : Bool) (one other : Fault) → one.place.file < count → other.place.file < count → IsFaultIn (cond b (Some other) (Some one))
      by_rank true one other h k = k
      by_rank false one other h k = h

  faults_here : (place : Place) (means : Result (List Entry) FaultKind) (rest : List Fault) → IsPlaceIn place → IsFaultIn (decided rest) → IsFaultIn (decided (faults_of place means ++ rest))
  faults_here place (Ok entries) rest h k = k
  faults_here place (Err kind) rest h k = first_here (Some (fault_at kind place)) (decided rest) h k

  decided_here : (readings : List Reading) → All IsReadingIn readings → IsFaultIn (decided (faults_in readings))
  decided_here [] all = tt
  decided_here (reading ∷ readings) all =
      faults_here reading.place reading.means (faults_in readings) (All-head IsReadingIn reading readings all) (decided_here readings (All-tail IsReadingIn reading readings all))

  entries_here : (place : Place) → IsPlaceIn place → (means : Result (List Entry) FaultKind) → All IsPlacedIn (placed_of place means)
  entries_here place h (Ok []) = All-nil IsPlacedIn
  entries_here place h (Ok (entry ∷ entries)) = All-cons IsPlacedIn (placed_at place entry) (map (placed_at place) entries) h (entries_here place h (Ok entries))
  entries_here place h (Err kind) = All-nil IsPlacedIn

  placed_here : (readings : List Reading) → All IsReadingIn readings → All IsPlacedIn (placed_in readings)
  placed_here [] all = All-nil IsPlacedIn
  placed_here (reading ∷ readings) all =
      All-append IsPlacedIn (placed_of reading.place reading.means) (placed_in readings)
      (entries_here reading.place (All-head IsReadingIn reading readings all) reading.means)
      (placed_here readings (All-tail IsReadingIn reading readings all))

  by_test : (b : Bool) (place : Place) (rest : Option Place) → IsPlaceIn place → IfSome rest IsPlaceIn → IfSome (cond b (Some place) rest) IsPlaceIn
  by_test true place rest h k = h
  by_test false place rest h k = k

  conflict_here : (earlier placed : List Placed) → All IsPlacedIn placed → IfSome (conflict_behind earlier placed) IsPlaceIn
  conflict_here earlier [] all = tt
  conflict_here earlier (one ∷ placed) all =
      by_test (list_any (contradicts one.entry) earlier) one.place (conflict_behind (earlier ++ one ∷ []) placed) (All-head IsPlacedIn one placed all)
      (conflict_here (earlier ++ one ∷ []) placed (All-tail IsPlacedIn one placed all))

  where_here : (b : Bool) (kind : FaultKind) (place : Place) → IsPlaceIn place → IsFaultIn (where_so b kind place)
  where_here true kind place h = h
  where_here false kind place h = tt

  conflict_fault_here : (at : Option Place) → IfSome at IsPlaceIn → IsFaultIn (conflict_fault at)
  conflict_fault_here None h = tt
  conflict_fault_here (Some at) h = h

  answer_here : (fault : Option Fault) (decl : TableDecl) → IsFaultIn fault → StopWithin count (answer_with fault decl)
  answer_here None decl h = tt
  answer_here (Some fault) decl h = h

  -- the fault of a declaration stands at its statement or in its files
  pub judged_here : (facts : HostFacts) (tables : List TableDecl) (form : TableForm) (place : Place) (files : List ReadFile) (answer : Result TableDecl Stop) → IsJudged facts tables form place files answer
      → place.file < count → All (λ (file : ReadFile). file.number < count) files → StopWithin count answer
  judged_here facts tables form place files answer judged h numbered =
      let written = All-append IsWrittenIn (items_at place (items_of form)) (flat_map file_in files) (items_here place h (items_of form)) (files_here files numbered) in
      let readings = readings_here facts (written_in form place files) judged.read.readings judged.read.each written in
      let all : Gathered = laid nothing_gathered judged.read.readings in
      let words : IsFaultIn all.fault = first_here None (decided (faults_in judged.read.readings)) tt (decided_here judged.read.readings readings) in
      let named : IsFaultIn (name_fault tables form place) = named_here tables form place h in
      let conflict : IsFaultIn (conflict_fault (conflict_in all.placed)) = conflict_fault_here (conflict_in all.placed) (conflict_here [] all.placed (placed_here judged.read.readings readings)) in
      let fault : IsFaultIn (table_fault tables form place all) = first_here (first_of all.fault (name_fault tables form place)) (conflict_fault (conflict_in all.placed)) (first_here all.fault (name_fault tables form place) words named) conflict in
      let with_all : IsFaultIn (table_fault tables form place judged.all) = subst (λ (g : Gathered). IsFaultIn (table_fault tables form place g)) (sym judged.read.are) fault in
      subst (StopWithin count) (sym judged.gives) (answer_here (table_fault tables form place judged.all) (declared_with form (distinct judged.all.placed)) with_all)
    where
      named_here : (tables : List TableDecl) (form : TableForm) (place : Place) → IsPlaceIn place → IsFaultIn (name_fault tables form place)
      named_here tables form place h = first_here (where_so _ kinds.TableTwice place) (where_so _ kinds.TableName place) (where_here _ kinds.TableTwice place h) (where_here _ kinds.TableName place h)

pub judged_within : (facts : HostFacts) (tables : List TableDecl) (form : TableForm) (place : Place) (files : List ReadFile) (answer : Result TableDecl Stop) → UnlessShort (IsJudged facts tables form place files) answer
    → (count : ℕ) → place.file < count → All (λ (file : ReadFile). file.number < count) files → StopWithin count answer
judged_within facts tables form place files (Ok decl) judged count h numbered = tt
judged_within facts tables form place files (Err (stops.Fault fault)) judged count h numbered = judged_here count facts tables form place files (Err (stops.Fault fault)) judged h numbered
judged_within facts tables form place files (Err (stops.Unread name)) judged count h numbered = tt
judged_within facts tables form place files (Err stops.NoMemory) judged count h numbered = tt

-- files and judgement together

pub failed_comes : (disk : Disk) (facts : HostFacts) (tables : List TableDecl) (form : TableForm) (place : Place) (reads later : ReadSoFar) (stop : Stop) → IsRead disk form.files reads (Err stop) later
    → MayCome disk facts tables form place reads (Err stop) later
failed_comes disk facts tables form place reads later (stops.Fault fault) read = record {
  comes = subst (λ (c : Contents). ComesOf facts tables form place c.files (Err (stops.Fault fault))) (sym read) refl;
  read = ap (λ (c : Contents). c.later) (sym read);
}
failed_comes disk facts tables form place reads later (stops.Unread name) read = read
failed_comes disk facts tables form place reads later stops.NoMemory read = tt

-- a file that had a number has it later
pub still_in : (old new : List (List ℕ)) (file : ℕ) → GoesOn old new → file < length old → file < length new
still_in old new file more h = let longer : length new ≡ length old + length more.more = ap length more.is ∙ length-append old more.more in omega arith
