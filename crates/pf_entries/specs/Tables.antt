-- The declaration of a table (pf.conf(5), TABLES): the entries in its braces and in its files, judged together.
use Rattle.std.specs.Prelude.{◌≡◌, ℕ, Bool, true, false, ◌&&◌, ◌||◌, not, nat_le, List, [], ◌∷◌, ◌++◌, length, map, Option, Some, None, is_some, Result, Ok, Err, if◌then◌else◌}
use Rattle.std.specs.List.{AllZip, flat_map, list_all, list_any}
use Rattle.std.specs.Str.{bytes_eq}
use Rattle.pf_base.specs.declared.fault.FaultKind.{FaultKind}
use Rattle.pf_base.specs.declared.fault.FaultKind.TheVariants as kinds
use Rattle.pf_base.specs.declared.fault.Place.{Place}
use Rattle.pf_addr.specs.PrefixOrder.{prefix_eq}
use Rattle.pf_addr.specs.declared.prefix.Prefix.{Prefix}
use Rattle.pf_decl.specs.declared.form.TableForm.{TableForm}
use Rattle.pf_decl.specs.declared.form.TableItem.{TableItem}
use Rattle.pf_host.specs.Facts.{HostFacts}
use Rattle.pf_lexer.specs.ReadSoFar.{ReadSoFar}
use Rattle.pf_lexer.specs.declared.reads.ReadFile.{ReadFile}
use Rattle.pf_shelf.specs.declared.decl.TableDecl.{TableDecl}
use Rattle.pf_source.specs.Disk.{Disk, without}
use Rattle.pf_table.specs.declared.entry.Entry.{Entry}
use Rattle.pf_word.specs.Hosts.{HostWordMeans}
use Rattle.pf_word.specs.Tables.{is_table_name}
use Rattle.pf_word.specs.Words.{has_bytes}
use Rattle.pf_entries.specs.FileWords.{Bit, BitMeans, PlacedBit, a_bad_byte, a_word, bits_at, bits_of}
use Rattle.pf_fault.specs.Order.{decided, fault_at, first_of}
use Rattle.pf_entries.specs.TableFiles.{Contents, contents_of}
use Rattle.pf_fault.specs.declared.fault.Fault.{Fault}
use Rattle.pf_fault.specs.declared.fault.Stop.{Stop}
use Rattle.pf_fault.specs.declared.fault.Stop.TheVariants as stops
use Rattle.pf_entries.specs.declared.gathered.Gathered.{Gathered}
use Rattle.pf_entries.specs.declared.gathered.Placed.{Placed}

-- the words of the braces have at least one byte
abbrev pub item_has_word : TableItem → Bool
item_has_word item = has_bytes item.word

abbrev pub items_in : Option (List TableItem) → List TableItem
items_in None = []
items_in (Some items) = items

abbrev pub items_of : TableForm → List TableItem
items_of form = items_in form.items

abbrev pub has_words : TableForm → Bool
has_words form = list_all item_has_word (items_of form)

-- What a declaration is written of, each with its place: the items in braces, and what stands in its files.
pub data Piece : Type 0 where
  an_item : TableItem → Piece
  in_file : Bit → Piece

pub record Written : Type 0 where
  pub piece : Piece
  pub place : Place

abbrev pub item_at : Place → TableItem → Written
item_at place one = record { piece = an_item one; place = place }

abbrev pub bit_in : PlacedBit → Written
bit_in placed = record { piece = in_file placed.bit; place = placed.place }

-- the items stand where the statement begins, and before the files
abbrev pub items_at : Place → List TableItem → List Written
items_at place items = map (item_at place) items

abbrev pub word_at : Place → List ℕ → Written
word_at place text = record { piece = in_file (a_word text); place = place }

abbrev pub line_at : Place → List ℕ → List Written
line_at place line = map bit_in (bits_at place line)

abbrev pub file_in : ReadFile → List Written
file_in file = map bit_in (bits_of file)

abbrev pub written_in : TableForm → Place → List ReadFile → List Written
written_in form place files = items_at place (items_of form) ++ flat_map file_in files

-- the prefixes of a word as entries with its sign
abbrev pub entry_of : Bool → Prefix → Entry
entry_of negated prefix = record { prefix = prefix; negated = negated }

abbrev pub signed : Bool → Result (List Prefix) FaultKind → Result (List Entry) FaultKind
signed negated (Ok prefixes) = Ok (map (entry_of negated) prefixes)
signed negated (Err kind) = Err kind

-- an item of the braces means what a host word means
pub record ItemMeans (facts : HostFacts) (one : TableItem) (answer : Result (List Entry) FaultKind) : Type 0 where
  pub prefixes : Result (List Prefix) FaultKind
  pub means : HostWordMeans facts one.word one.mask prefixes
  pub are : answer ≡ signed one.negated prefixes

-- what something of a declaration means, with its place
pub record Reading : Type 0 where
  pub means : Result (List Entry) FaultKind
  pub place : Place

abbrev pub PieceMeans : HostFacts → Piece → Result (List Entry) FaultKind → Type 0
PieceMeans facts (an_item one) answer = ItemMeans facts one answer
PieceMeans facts (in_file bit) answer = BitMeans bit answer

pub record Means (facts : HostFacts) (written : Written) (reading : Reading) : Type 0 where
  pub means : PieceMeans facts written.piece reading.means
  pub place : reading.place ≡ written.place

abbrev pub placed_at : Place → Entry → Placed
placed_at place entry = record { entry = entry; place = place }

-- the entries of a reading, and its fault
abbrev pub placed_of : Place → Result (List Entry) FaultKind → List Placed
placed_of place (Ok entries) = map (placed_at place) entries
placed_of place (Err kind) = []

abbrev pub faults_of : Place → Result (List Entry) FaultKind → List Fault
faults_of place (Ok entries) = []
faults_of place (Err kind) = fault_at kind place ∷ []

abbrev pub placed_in : List Reading → List Placed
placed_in readings = flat_map (λ (reading : Reading). placed_of reading.place reading.means) readings

abbrev pub faults_in : List Reading → List Fault
faults_in readings = flat_map (λ (reading : Reading). faults_of reading.place reading.means) readings

-- what was gathered, and then some readings more
abbrev pub laid : Gathered → List Reading → Gathered
laid gathered readings = record {
  placed = gathered.placed ++ placed_in readings;
  fault = first_of gathered.fault (decided (faults_in readings));
}

-- these were read, and what they mean is laid on what was gathered
pub record Gathers (facts : HostFacts) (written : List Written) (old new : Gathered) : Type 0 where
  pub readings : List Reading
  pub each : AllZip (Means facts) written readings
  pub are : new ≡ laid old readings

abbrev pub same_sign : Bool → Bool → Bool
same_sign true true = true
same_sign true false = false
same_sign false true = false
same_sign false false = true

-- the other sign of the same prefix
abbrev pub contradicts : Entry → Placed → Bool
contradicts entry other = prefix_eq other.entry.prefix entry.prefix && not (same_sign other.entry.negated entry.negated)

-- the place of the first entry whose prefix an earlier one has with the other sign
abbrev pub conflict_behind : List Placed → List Placed → Option Place
conflict_behind earlier [] = None
conflict_behind earlier (one ∷ placed) =
    if list_any (contradicts one.entry) earlier then Some one.place else conflict_behind (earlier ++ one ∷ []) placed

abbrev pub conflict_in : List Placed → Option Place
conflict_in placed = conflict_behind [] placed

-- each prefix once, where it first stands
abbrev pub new_behind : List Placed → List Placed → List Entry
new_behind earlier [] = []
new_behind earlier (one ∷ placed) =
    if list_any (λ (other : Placed). prefix_eq other.entry.prefix one.entry.prefix) earlier
    then new_behind (earlier ++ one ∷ []) placed
    else one.entry ∷ new_behind (earlier ++ one ∷ []) placed

abbrev pub distinct : List Placed → List Entry
distinct placed = new_behind [] placed

-- faults of a declaration beside those of its words

abbrev pub is_declared : List TableDecl → List ℕ → Bool
is_declared tables name = list_any (λ (table : TableDecl). bytes_eq table.name name) tables

abbrev pub where_so : Bool → FaultKind → Place → Option Fault
where_so true kind place = Some (fault_at kind place)
where_so false kind place = None

abbrev pub conflict_fault : Option Place → Option Fault
conflict_fault None = None
conflict_fault (Some place) = Some (fault_at kinds.TableConflict place)

-- the faults of its name, behind the tables that the unit has declared
abbrev pub name_fault : List TableDecl → TableForm → Place → Option Fault
name_fault tables form place = first_of (where_so (is_declared tables form.name) kinds.TableTwice place) (where_so (not (is_table_name form.name)) kinds.TableName place)

-- the fault that decides
abbrev pub table_fault : List TableDecl → TableForm → Place → Gathered → Option Fault
table_fault tables form place gathered = first_of (first_of gathered.fault (name_fault tables form place)) (conflict_fault (conflict_in gathered.placed))

abbrev pub is_filled : TableForm → Bool
is_filled form = is_some form.items || nat_le 1 (length form.files)

-- the declaration with these entries
abbrev pub declared_with : TableForm → List Entry → TableDecl
declared_with form entries = record {
  name = form.name;
  persist = form.persist;
  constant = form.constant;
  counters = form.counters;
  filled = is_filled form;
  entries = entries;
}

abbrev pub answer_with : Option Fault → TableDecl → Result TableDecl Stop
answer_with None decl = Ok decl
answer_with (Some fault) decl = Err (stops.Fault fault)

-- nothing was read yet
abbrev pub nothing_gathered : Gathered
nothing_gathered = record { placed = []; fault = None }

-- what a declaration whose files were read comes to
pub record IsJudged (facts : HostFacts) (tables : List TableDecl) (form : TableForm) (place : Place) (files : List ReadFile) (answer : Result TableDecl Stop) : Type 0 where
  pub all : Gathered
  pub read : Gathers facts (written_in form place files) nothing_gathered all
  pub gives : answer ≡ answer_with (table_fault tables form place all) (declared_with form (distinct all.placed))

-- what it comes to where its files were read or weren't
abbrev pub ComesOf : HostFacts → List TableDecl → TableForm → Place → Result (List ReadFile) Stop → Result TableDecl Stop → Type 0
ComesOf facts tables form place (Ok files) answer = IsJudged facts tables form place files answer
ComesOf facts tables form place (Err stop) answer = answer ≡ Err stop

-- What a declaration comes to over a disk: its files are read in order, and then all of it is judged together.
pub record TableComes (disk : Disk) (facts : HostFacts) (tables : List TableDecl) (form : TableForm) (place : Place) (reads : ReadSoFar) (answer : Result TableDecl Stop) (later : ReadSoFar) : Type 0 where
  pub comes : ComesOf facts tables form place (contents_of disk form.files reads).files answer
  pub read : later ≡ (contents_of disk form.files reads).later

-- What a call may answer. A file that can't be read is as if absent, and that for the whole call.
abbrev pub MayCome : Disk → HostFacts → List TableDecl → TableForm → Place → ReadSoFar → Result TableDecl Stop → ReadSoFar → Type 0
MayCome disk facts tables form place reads (Ok decl) later = TableComes disk facts tables form place reads (Ok decl) later
MayCome disk facts tables form place reads (Err (stops.Fault fault)) later = TableComes disk facts tables form place reads (Err (stops.Fault fault)) later
MayCome disk facts tables form place reads (Err (stops.Unread name)) later =
    (contents_of (without (Some name) disk) form.files reads).files ≡ Err (stops.Unread name)
MayCome disk facts tables form place reads (Err stops.NoMemory) later = Unit {0}
