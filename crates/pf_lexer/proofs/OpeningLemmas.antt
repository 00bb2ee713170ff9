-- What comes of reading a file.
use Rattle.std.proofs.Common.{◌≡◌, ℕ, ◌+◌, ◌*◌, ◌-◌, ◌^◌, ◌≤◌, Bool, true, false, cond, List, [], ◌∷◌, length, Some, Result, Ok, Err, IfOk, refl, ap, sym, ◌∙◌, subst, arith}
use Rattle.std.specs.Prelude.{◌==◌, ◌&&◌, nat_lt, slice_get, min}
use Rattle.std.proofs.lemmas.Bool.{and_from, lt-ltb}
use Rattle.std.proofs.lemmas.Option.{slice_get_within}
use Rattle.pf_base.specs.declared.fault.Place.{Place}
use Rattle.pf_source.specs.Asks.{Asks}
use Rattle.pf_source.specs.Disk.{Disk}
use Rattle.pf_source.specs.Told.{FilesTold}
use Rattle.pf_token.specs.declared.cell.Cell.{Cell}
use Rattle.pf_token.specs.Cells.{are_in, below, cells_from, place_after}
use Rattle.pf_token.specs.Reading.{weight}
use Rattle.pf_lexer.specs.declared.fault.LexFault.TheVariants as faults
use Rattle.pf_lexer.specs.declared.reads.ReadFile.{ReadFile}
use Rattle.pf_lexer.specs.declared.reads.ReadsFault.{ReadsFault}
use Rattle.pf_lexer.specs.declared.reads.ReadsFault.TheVariants as reading
use Rattle.pf_lexer.specs.Calls.{AsksAndReads, IsNumbered, IsUnopened, unread_by}
use Rattle.pf_lexer.specs.Going.{unopened}
use Rattle.pf_lexer.specs.ReadSoFar.{ReadSoFar}
use Rattle.pf_lexer.specs.Reads.{GoesOn, IfNamed, IsLook, Made, after_answer, failed_read, given, has_read, look_up, read_limit}
use Rattle.pf_lexer.specs.Units.{Opens, opened, large, unread}

module _ (disk : Disk) (name : List ℕ) (reads later : ReadSoFar) where
  pub opens_file : (number : ℕ) (bytes : List ℕ) (cells : List Cell) → look_up disk reads name ≡ given number bytes → cells ≡ cells_from (record { file = number; line = 1 }) bytes → later ≡ has_read reads name bytes
      → Opens disk name reads (Ok cells) later
  opens_file number bytes cells look cells_are after =
      subst (λ (c : List Cell). Opens disk name reads (Ok c) later) (sym cells_are)
      (subst (λ (r : ReadSoFar). Opens disk name reads (Ok (cells_from (record { file = number; line = 1 }) bytes)) r) (sym after) (opened look))

  pub opens_none : (fault : ReadsFault) → IsLook (look_up disk reads name) (Err fault) → later ≡ after_answer reads name (Err fault) → IsUnopened disk name reads (unopened name fault) later
  opens_none reading.Failed look after = subst (λ (r : ReadSoFar). Opens disk name reads (Err (faults.CannotRead name)) r) (sym after) unread
  opens_none (reading.TooLarge number) look after = subst (λ (r : ReadSoFar). Opens disk name reads (Err (faults.TooLarge (record { file = number; line = 0 }))) r) (sym after) (large look)
  opens_none reading.NoMemory look after = after

pub none_numbered : (names : List (List ℕ)) (name : List ℕ) (fault : ReadsFault) → IfNamed names name (Err fault) → IsNumbered (length names) (unopened name fault)
none_numbered names name reading.Failed named = tt
none_numbered names name (reading.TooLarge number) named = slice_get_within names number name named
none_numbered names name reading.NoMemory named = tt

-- the cells of a file stand in it
after_in : (count : ℕ) (place : Place) (byte : ℕ) → nat_lt place.file count ≡ true → nat_lt (place_after place byte).file count ≡ true
after_in count place byte e = elim (byte == 10) as (λ (b : Bool). nat_lt (cond b (below place) place).file count ≡ true) [ true ↦ e | false ↦ e ]

pub cells_in : (count : ℕ) (place : Place) (text : List ℕ) → nat_lt place.file count ≡ true → are_in count (cells_from place text) ≡ true
unfolding cells_from
cells_in count place [] e = refl
cells_in count place (byte ∷ []) e = and_from (nat_lt place.file count) true e refl
cells_in count place (byte ∷ next ∷ rest) e =
    by_splice ((byte == 92) && (next == 10)) (cells_in count (below place) rest e) (cells_in count (place_after place byte) (next ∷ rest) (after_in count place byte e)) where
      by_splice : (b : Bool) → are_in count (cells_from (below place) rest) ≡ true → are_in count (cells_from (place_after place byte) (next ∷ rest)) ≡ true
          → are_in count (cond b (cells_from (below place) rest) (record { byte = byte; place = place } ∷ cells_from (place_after place byte) (next ∷ rest))) ≡ true
      by_splice true far near = far
      by_splice false far near = and_from (nat_lt place.file count) (are_in count (cells_from (place_after place byte) (next ∷ rest))) e near

pub file_in : (names : List (List ℕ)) (name text : List ℕ) (number : ℕ) (cells : List Cell) → slice_get names number ≡ Some name → cells ≡ cells_from (record { file = number; line = 1 }) text → are_in (length names) cells ≡ true
file_in names name text number cells named is =
    ap (are_in (length names)) is ∙ cells_in (length names) (record { file = number; line = 1 }) text (lt-ltb number (length names) (slice_get_within names number name named))

-- a byte weighs at most as much as a `$`
byte_weight : (b : Bool) → cond b (2 ^ 64) 1 ≤ 2 ^ 64
byte_weight true = omega arith
byte_weight false = omega arith

cells_weight : (place : Place) (text : List ℕ) → weight (cells_from place text) ≤ 2 ^ 64 * length text
unfolding cells_from
cells_weight place [] = omega arith
cells_weight place (byte ∷ []) = let one = byte_weight (byte == 36) in omega arith
cells_weight place (byte ∷ next ∷ rest) = by_splice ((byte == 92) && (next == 10)) (cells_weight (below place) rest) (cells_weight (place_after place byte) (next ∷ rest)) where
  by_splice : (b : Bool) → weight (cells_from (below place) rest) ≤ 2 ^ 64 * length rest → weight (cells_from (place_after place byte) (next ∷ rest)) ≤ 2 ^ 64 * length (next ∷ rest)
      → weight (cond b (cells_from (below place) rest) (record { byte = byte; place = place } ∷ cells_from (place_after place byte) (next ∷ rest))) ≤ 2 ^ 64 * length (byte ∷ next ∷ rest)
  by_splice true far near = omega arith
  by_splice false far near = let one = byte_weight (byte == 36) in omega arith

pub file_weight : (cells : List Cell) (number : ℕ) (text : List ℕ) (left later : ℕ) → cells ≡ cells_from (record { file = number; line = 1 }) text → later ≡ left - length text → length text ≤ min 4194304 left
    → weight cells + 2 ^ 64 * later ≤ 2 ^ 64 * left
file_weight cells number text left later is after few =
    let total = cells_weight (record { file = number; line = 1 }) text in
    let all : later + length text ≡ left = omega arith in
    omega (arith, ap weight is)

-- readings take of the bytes that are left
made_left : {reads later : ReadSoFar} → Made reads later → later.left ≤ reads.left
made_left Made.none = omega arith
made_left (Made.read name bytes few rest) = let less = made_left rest in omega arith
made_left (Made.refused name rest) = made_left rest

pub asks_made : (names : List (List ℕ)) (old new : FilesTold) (reads later : ReadSoFar) → Asks names old new → Made reads later → GoesOn reads.names later.names → AsksAndReads names old new reads later
asks_made names old new reads later asks made grows = record { files = asks; made = made; grows = grows; left = made_left made }

-- the reading that was made
pub made_by : (reads later : ReadSoFar) (name : List ℕ) (result : Result ReadFile ReadsFault) → later ≡ after_answer reads name result → IfOk result (λ (file : ReadFile). length file.text ≤ read_limit reads.left) → Made reads later
made_by reads later name (Ok file) after few = subst (λ (r : ReadSoFar). Made reads r) (sym after) (Made.read name file.text few Made.none)
made_by reads later name (Err reading.Failed) after few = subst (λ (r : ReadSoFar). Made reads r) (sym after) Made.none
made_by reads later name (Err (reading.TooLarge number)) after few = subst (λ (r : ReadSoFar). Made reads r) (sym after) (Made.refused name Made.none)
made_by reads later name (Err reading.NoMemory) after few = subst (λ (r : ReadSoFar). Made reads r) (sym after) Made.none

-- the name of the reading that failed
pub asks_unopened : (name : List ℕ) (fault : ReadsFault) (old new : FilesTold) (reads later : ReadSoFar) → Asks (failed_read name (Err fault)) old new → Made reads later → GoesOn reads.names later.names → AsksAndReads (unread_by (unopened name fault)) old new reads later
asks_unopened name reading.Failed old new reads later asks made grows = asks_made (name ∷ []) old new reads later asks made grows
asks_unopened name (reading.TooLarge number) old new reads later asks made grows = asks_made [] old new reads later asks made grows
asks_unopened name reading.NoMemory old new reads later asks made grows = asks_made [] old new reads later asks made grows
