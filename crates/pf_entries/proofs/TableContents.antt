-- The files of a table's declaration, one after the other; and the same without one file of the disk.
use Rattle.std.proofs.Common.{◌≡◌, ℕ, suc, add-one, drop, drop-cons, get_or, ◌+◌, ◌<◌, ◌≤◌, length, arith, length-append, Bool, true, false, cond, List, [], ◌∷◌, ◌++◌, Option, Some, None, Result, Ok, Err, refl, sym, ap, ◌∙◌, subst, inl, inr, append_assoc, append-nil}
use Rattle.std.specs.Prelude.{◌⊎◌, Contains, IfErr, IfOk, nat_eq, not, ◌||◌}
use Rattle.std.specs.List.{list_any}
use Rattle.std.specs.Str.{bytes_eq}
use Rattle.std.specs.Cmp.Lexicographic.{pointwise}
use Rattle.std.proofs.lemmas.List.Elements.{All-nil, All-push, All-weaker}
use Rattle.std.proofs.lemmas.Bool.Decides.{Decides-eqb}
use Rattle.std.proofs.lemmas.Slice.Eq.{slice_eq-Decides}
use Rattle.pf_source.specs.Asks.{Asks}
use Rattle.pf_source.specs.AskingLaws.{asked_on, nothing_asked}
use Rattle.pf_source.specs.Told.{FilesTold}
use Rattle.pf_source.specs.Disk.{Disk, without}
use Rattle.pf_source.specs.DiskLaws.{is_absent}
use Rattle.pf_lexer.specs.ReadSoFar.{ReadSoFar}
use Rattle.pf_lexer.specs.Calls.{AsksAndReads}
use Rattle.pf_lexer.specs.Reads.{Made}
use Rattle.pf_lexer.specs.Reads.{GoesOn, Look, absent, given, has_numbered, has_read, look_of, look_up, number_of, read_limit, too_large, with_name}
use Rattle.pf_lexer.specs.declared.reads.ReadFile.{ReadFile}
use Rattle.pf_entries.specs.Numbered.{AreFilesWithin}
use Rattle.pf_fault.specs.Stops.{unread_in}
use Rattle.pf_entries.specs.TableFiles.{Contents, IfUnread, IsOneRead, IsRead, after_one, contents_of, going_on, in_front, large_at}
use Rattle.pf_fault.specs.declared.fault.Stop.{Stop}
use Rattle.pf_fault.specs.declared.fault.Stop.TheVariants.{Fault, NoMemory, Unread}

-- the same, or that file can't be read
abbrev pub SameOrLost : List ℕ → Contents → Contents → Type 0
SameOrLost gone other one = (other ≡ one) ⊎ (other.files ≡ Err (Unread gone))

by_look : (gone name : List ℕ) (reads : ReadSoFar) (other rest : ReadSoFar → Contents) → ((r : ReadSoFar) → SameOrLost gone (other r) (rest r))
    → (look : Look) → SameOrLost gone (going_on reads name look other) (going_on reads name look rest)
by_look gone name reads other rest h absent = inl refl
by_look gone name reads other rest h (too_large number) = inl refl
by_look gone name reads other rest h (given number bytes) =
    let file : ReadFile = record { number = number; text = bytes } in
    elim (h (has_read reads name bytes)) [
      | inl same ↦ inl (λ i. record { files = in_front file (same i).files; later = (same i).later })
      | inr lost ↦ inr (ap (in_front file) lost)
    ]

by_test : (disk : Disk) (gone name : List ℕ) (reads : ReadSoFar) (other rest : ReadSoFar → Contents) → ((r : ReadSoFar) → SameOrLost gone (other r) (rest r))
    → (b : Bool) → (b ≡ true → name ≡ gone)
    → SameOrLost gone (going_on reads name (look_of reads name (cond b None (disk name))) other) (going_on reads name (look_of reads name (disk name)) rest)
by_test disk gone name reads other rest h true same = inr (ap (λ (n : List ℕ). Err (Unread n)) (same refl))
by_test disk gone name reads other rest h false same = by_look gone name reads other rest h (look_of reads name (disk name))

pub contents_without : (disk : Disk) (gone : List ℕ) (names : List (List ℕ)) (reads : ReadSoFar) → SameOrLost gone (contents_of (without (Some gone) disk) names reads) (contents_of disk names reads)
contents_without disk gone [] reads = inl refl
contents_without disk gone (name ∷ names) reads =
    by_test disk gone name reads (contents_of (without (Some gone) disk) names) (contents_of disk names) (contents_without disk gone names)
    (pointwise nat_eq name gone) (λ is. (slice_eq-Decides Decides-eqb name gone (pointwise nat_eq name gone) refl).0 is)

-- files before the others
abbrev pub in_fronts : List ReadFile → Result (List ReadFile) Stop → Result (List ReadFile) Stop
in_fronts files (Ok more) = Ok (files ++ more)
in_fronts files (Err stop) = Err stop

abbrev pub before : List ReadFile → Contents → Contents
before files contents = record { files = in_fronts files contents.files; later = contents.later }

-- These files were read so far, and those of the other names are left to read. The same without any one file, where the rest is
-- that it can't be read.
pub record ReadSo (disk : Disk) (all : List (List ℕ)) (start : ReadSoFar) (files : List ReadFile) (rest : List (List ℕ)) (reads : ReadSoFar) : Type 0 where
  pub on : contents_of disk all start ≡ before files (contents_of disk rest reads)
  pub lost : (gone : List ℕ) → (contents_of (without (Some gone) disk) rest reads).files ≡ Err (Unread gone) → (contents_of (without (Some gone) disk) all start).files ≡ Err (Unread gone)

none_before : (contents : Result (List ReadFile) Stop) → contents ≡ in_fronts [] contents
none_before (Ok files) = refl
none_before (Err stop) = refl

pub none_read : (disk : Disk) (all : List (List ℕ)) (start : ReadSoFar) → ReadSo disk all start [] all start
none_read disk all start = record {
  on = λ i. record { files = none_before (contents_of disk all start).files i; later = (contents_of disk all start).later };
  lost = λ gone h. h;
}

more_before : (files : List ReadFile) (file : ReadFile) (rest : Result (List ReadFile) Stop) → in_fronts files (in_front file rest) ≡ in_fronts (files ++ file ∷ []) rest
more_before files file (Ok more) = ap (λ (all : List ReadFile). Ok all) (sym (append_assoc files (file ∷ []) more))
more_before files file (Err stop) = refl

-- one file more
pub one_read : (disk : Disk) (all : List (List ℕ)) (start : ReadSoFar) (files : List ReadFile) (name : List ℕ) (rest : List (List ℕ)) (reads : ReadSoFar) (file : ReadFile)
    → ReadSo disk all start files (name ∷ rest) reads → look_up disk reads name ≡ given file.number file.text
    → ReadSo disk all start (files ++ file ∷ []) rest (has_read reads name file.text)
one_read disk all start files name rest reads file so look = record {
  on = so.on ∙ ap (λ (l : Look). before files (going_on reads name l (contents_of disk rest))) look
      ∙ (λ i. record { files = more_before files file (contents_of disk rest (has_read reads name file.text)).files i; later = (contents_of disk rest (has_read reads name file.text)).later });
  lost = λ gone h. so.lost gone (
      let test = by_given disk gone name rest reads file look (pointwise nat_eq name gone) (λ is. (slice_eq-Decides Decides-eqb name gone (pointwise nat_eq name gone) refl).0 is) in test h);
}
  where
    by_given : (disk : Disk) (gone name : List ℕ) (rest : List (List ℕ)) (reads : ReadSoFar) (file : ReadFile) → look_of reads name (disk name) ≡ given file.number file.text
        → (b : Bool) → (b ≡ true → name ≡ gone)
        → (contents_of (without (Some gone) disk) rest (has_read reads name file.text)).files ≡ Err (Unread gone)
        → (going_on reads name (look_of reads name (cond b None (disk name))) (contents_of (without (Some gone) disk) rest)).files ≡ Err (Unread gone)
    by_given disk gone name rest reads file look true same h = ap (λ (n : List ℕ). Err (Unread n)) (same refl)
    by_given disk gone name rest reads file look false same h =
        ap (λ (l : Look). (going_on reads name l (contents_of (without (Some gone) disk) rest)).files) look ∙ ap (in_front file) h

-- one was too large
pub large_read : (disk : Disk) (all : List (List ℕ)) (start : ReadSoFar) (files : List ReadFile) (name : List ℕ) (rest : List (List ℕ)) (reads : ReadSoFar) (number : ℕ)
    → ReadSo disk all start files (name ∷ rest) reads → look_up disk reads name ≡ too_large number
    → contents_of disk all start ≡ record { files = Err (large_at number); later = has_numbered reads name }
large_read disk all start files name rest reads number so look =
    so.on ∙ ap (λ (l : Look). before files (going_on reads name l (contents_of disk rest))) look

-- one couldn't be read
pub lost_read : (disk : Disk) (all : List (List ℕ)) (start : ReadSoFar) (files : List ReadFile) (name : List ℕ) (rest : List (List ℕ)) (reads : ReadSoFar)
    → ReadSo disk all start files (name ∷ rest) reads → (contents_of (without (Some name) disk) all start).files ≡ Err (Unread name)
lost_read disk all start files name rest reads so =
    so.lost name (ap (λ (held : Option (List ℕ)). (going_on reads name (look_of reads name held) (contents_of (without (Some name) disk) rest)).files) (is_absent disk name))

-- one wasn't read
pub one_failed : (disk : Disk) (all : List (List ℕ)) (start : ReadSoFar) (files : List ReadFile) (name : List ℕ) (rest : List (List ℕ)) (reads later : ReadSoFar) (stop : Stop)
    → ReadSo disk all start files (name ∷ rest) reads → IsOneRead (look_up disk reads name) (Err stop) → IfUnread (Err stop) name → later ≡ after_one reads name (Err stop) → IsRead disk all start (Err stop) later
one_failed disk all start files name rest reads later (Fault fault) so large same after =
    large_read disk all start files name rest reads large.number so large.is
    ∙ (λ i. record { files = Err (sym large.told i); later = sym after i })
one_failed disk all start files name rest reads later (Unread other) so look same after =
    subst (λ (n : List ℕ). (contents_of (without (Some n) disk) all start).files ≡ Err (Unread n)) (sym same) (lost_read disk all start files name rest reads so)
one_failed disk all start files name rest reads later NoMemory so look same after = tt

-- how the lists of names go on

pub goes_nowhere : (names : List (List ℕ)) → GoesOn names names
goes_nowhere names = record { more = []; is = sym (append-nil names) }

pub goes_further : (a b c : List (List ℕ)) → GoesOn a b → GoesOn b c → GoesOn a c
goes_further a b c h k = record { more = h.more ++ k.more; is = k.is ∙ ap (λ (names : List (List ℕ)). names ++ k.more) h.is ∙ append_assoc a h.more k.more }

grown : (a b : List (List ℕ)) → GoesOn a b → length a ≤ length b
grown a b h = let longer : length b ≡ length a + length h.more = ap length h.is ∙ length-append a h.more in omega arith

-- what was below a count is below a greater one
pub files_later : (a b : List (List ℕ)) (files : List ReadFile) → GoesOn a b → AreFilesWithin (length a) files → AreFilesWithin (length b) files
files_later a b files h within = record {
  numbered = All-weaker (λ (file : ReadFile). file.number < length a) (λ (file : ReadFile). file.number < length b) (λ file below. let more = grown a b h in omega arith) files within.numbered;
  short = within.short;
}

pub file_more : (count : ℕ) (files : List ReadFile) (file : ReadFile) → AreFilesWithin count files → file.number < count → length file.text ≤ 4194304 → AreFilesWithin count (files ++ file ∷ [])
file_more count files file within numbered short = record {
  numbered = All-push (λ (one : ReadFile). one.number < count) files file within.numbered numbered;
  short = All-push (λ (one : ReadFile). length one.text ≤ 4194304) files file within.short short;
}

pub no_files : (count : ℕ) → AreFilesWithin count []
no_files count = record { numbered = All-nil (λ (one : ReadFile). one.number < count); short = All-nil (λ (one : ReadFile). length one.text ≤ 4194304) }

-- what a reading leaves

length_one_more : (names : List (List ℕ)) (name : List ℕ) → length (names ++ name ∷ []) ≡ length names + 1
length_one_more names name = length-append names (name ∷ [])

pub with_name_grows : (names : List (List ℕ)) (name : List ℕ) → GoesOn names (with_name names name)
with_name_grows names name = by_any (list_any (bytes_eq name) names)
  where
    by_any : (b : Bool) → GoesOn names (cond b names (names ++ name ∷ []))
    by_any true = goes_nowhere names
    by_any false = record { more = name ∷ []; is = refl }

less_front : (b : Bool) (rest count : ℕ) → rest ≤ count → cond (not b) (1 + rest) 0 ≤ count + 1
less_front true rest count h = omega arith
less_front false rest count h = omega arith

at_most : (names : List (List ℕ)) (name : List ℕ) → number_of names name ≤ length names
at_most [] name = omega arith
at_most (first ∷ names) name = let front = less_front (bytes_eq name first) (number_of names name) (length names) (at_most names name) in omega arith

found_front : (b found : Bool) (rest count : ℕ) → (found ≡ true → rest < count) → (b || found) ≡ true → cond (not b) (1 + rest) 0 < count + 1
found_front true found rest count h k = omega arith
found_front false found rest count h k = let low = h k in omega arith

found_inside : (names : List (List ℕ)) (name : List ℕ) → list_any (bytes_eq name) names ≡ true → number_of names name < length names
found_inside [] name found = absurd cc
found_inside (first ∷ names) name found =
    let front = found_front (bytes_eq name first) (list_any (bytes_eq name) names) (number_of names name) (length names) (found_inside names name) found in omega arith

pub numbered_inside : (names : List (List ℕ)) (name : List ℕ) → number_of names name < length (with_name names name)
numbered_inside names name = by_any (list_any (bytes_eq name) names) refl
  where
    by_any : (b : Bool) → list_any (bytes_eq name) names ≡ b → number_of names name < length (cond b names (names ++ name ∷ []))
    by_any true found = found_inside names name found
    by_any false found = let most = at_most names name in let longer = length_one_more names name in omega arith

-- the next name of those that are left
pub next_name : (names : List (List ℕ)) (i : ℕ) (name : List ℕ) → i < length names → name ≡ get_or names i name → drop i names ≡ name ∷ drop (i + 1) names
next_name names i name low is =
    drop-cons names i name low ∙ ap (λ (first : List ℕ). first ∷ drop (suc i) names) (sym is) ∙ ap (λ (n : ℕ). name ∷ drop n names) (sym (add-one i))

-- what the readings of a call leave

made_both : {reads later latest : ReadSoFar} → Made reads later → Made later latest → Made reads latest
made_both Made.none more = more
made_both (Made.read name bytes few rest) more = Made.read name bytes few (made_both rest more)
made_both (Made.refused name rest) more = Made.refused name (made_both rest more)

made_left : {reads later : ReadSoFar} → Made reads later → later.left ≤ reads.left
made_left Made.none = omega arith
made_left (Made.read name bytes few rest) = let less = made_left rest in omega arith
made_left (Made.refused name rest) = made_left rest

-- one reading, with the names and the bytes that it leaves
one_made : (reads later : ReadSoFar) (name : List ℕ) (result : Result ReadFile Stop) → later ≡ after_one reads name result → IfOk result (λ (file : ReadFile). length file.text ≤ read_limit reads.left) → Made reads later
one_made reads later name (Ok file) after few = subst (λ (r : ReadSoFar). Made reads r) (sym after) (Made.read name file.text few Made.none)
one_made reads later name (Err (Fault fault)) after few = subst (λ (r : ReadSoFar). Made reads r) (sym after) (Made.refused name Made.none)
one_made reads later name (Err (Unread other)) after few = subst (λ (r : ReadSoFar). Made reads r) (sym after) Made.none
one_made reads later name (Err NoMemory) after few = subst (λ (r : ReadSoFar). Made reads r) (sym after) Made.none

pub one_asks : (names : List (List ℕ)) (old new : FilesTold) (reads later : ReadSoFar) (name : List ℕ) (result : Result ReadFile Stop) → Asks names old new → later ≡ after_one reads name result
    → IfOk result (λ (file : ReadFile). length file.text ≤ read_limit reads.left) → GoesOn reads.names later.names → AsksAndReads names old new reads later
one_asks names old new reads later name result asks after few grows =
    let made : Made reads later = one_made reads later name result after few in
    record { files = asks; made = made; grows = grows; left = made_left made }

pub asks_none : (told : FilesTold) (reads : ReadSoFar) → AsksAndReads [] told told reads reads
asks_none told reads = record { files = nothing_asked told; made = Made.none; grows = goes_nowhere reads.names; left = omega arith }

pub asks_then : (names : List (List ℕ)) (old mid new : FilesTold) (reads later latest : ReadSoFar) → AsksAndReads [] old mid reads later → AsksAndReads names mid new later latest → AsksAndReads names old new reads latest
asks_then names old mid new reads later latest first second = record {
  files = asked_on names old mid new first.files second.files;
  made = made_both first.made second.made;
  grows = goes_further reads.names later.names latest.names first.grows second.grows;
  left = omega (arith, first.left, second.left);
}

-- the name of the file that can't be read is one of those that were asked for
pub asked_for : (names : List (List ℕ)) (i : ℕ) (name : List ℕ) (stop : Stop) → i < length names → name ≡ get_or names i name → IfUnread (Err stop) name → (other : List ℕ) → stop ≡ Unread other → Contains names other
asked_for names i name (Fault fault) low is same other told = absurd cc
asked_for names i name (Unread found) low is same other told =
    let asked : name ≡ other = sym same ∙ unread_name told in
    subst (λ (n : List ℕ). Contains names n) asked (i, low, sym is)
  where
    unread_name : ◌≡◌ {A = Stop} (Unread found) (Unread other) → found ≡ other
    unread_name e = cc
asked_for names i name NoMemory low is same other told = absurd cc

-- an answer that tells no such name
pub none_asked : {A : Type 0} (names : List (List ℕ)) (answer : Result A Stop) → unread_in answer ≡ [] → IfErr answer (λ (stop : Stop). (other : List ℕ) → stop ≡ Unread other → Contains names other)
none_asked names (Ok x) none = tt
none_asked names (Err (Fault fault)) none = λ other told. absurd cc
none_asked names (Err (Unread lost)) none = λ other told. absurd cc
none_asked names (Err NoMemory) none = λ other told. absurd cc
