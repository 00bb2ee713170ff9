-- While a load reads, the numbers of its files grow and the bytes that it may still read fall.
use Rattle.std.proofs.Common.{◌≡◌, ℕ, ◌+◌, ◌-◌, ◌<◌, ◌≤◌, Bool, true, false, List, [], ◌∷◌, ◌++◌, length, Option, Some, None, Result, Ok, Err, refl, sym, ap, ◌∙◌, subst, arith, length-append}
use Rattle.std.specs.Prelude.{nat_lt, ◌&&◌, if◌then◌else◌}
use Rattle.std.specs.List.{list_all, list_any, position_or_len}
use Rattle.std.specs.Str.{bytes_eq}
use Rattle.std.proofs.lemmas.Bool.Decides.{Decides-eqb, nat_tests}
use Rattle.std.proofs.lemmas.Slice.Eq.{slice_eq-Decides}
use Rattle.pf_source.specs.Disk.{Disk}
use Rattle.pf_token.specs.Cells.{are_in}
use Rattle.pf_token.specs.declared.cell.Cell.{Cell}
use Rattle.pf_lexer.specs.Calls.{AreIn, IsKnown, IsNumbered, StandsIn}
use Rattle.pf_lexer.specs.ReadSoFar.{ReadSoFar}
use Rattle.pf_lexer.specs.Reads.{has_numbered, has_read, number_of, with_name}
use Rattle.pf_lexer.specs.Stages.{Stage, Standing, going, failed}
use Rattle.pf_lexer.specs.Units.{Answer, Answers, GoesTo, Leads, Opens, Passes, again, comes, fails, file_ends, further, hands, here, included, large, opened, over, passed, unopened, unread}
use Rattle.pf_lexer.specs.declared.fault.LexFault.{LexFault}
use Rattle.pf_lexer.specs.declared.fault.LexFault.TheVariants as lexical

pub record Grows (reads later : ReadSoFar) : Type 0 where
  pub names : length reads.names ≤ length later.names
  pub left : later.left ≤ reads.left

pub same_grows : (reads : ReadSoFar) → Grows reads reads
same_grows reads = record { names = omega arith; left = omega arith }

pub grows_on : (a b c : ReadSoFar) → Grows a b → Grows b c → Grows a c
grows_on a b c h k = record { names = omega (arith, h.names, k.names); left = omega (arith, h.left, k.left) }

named_grows : (is : Bool) (names : List (List ℕ)) (name : List ℕ) → length names ≤ length (if is then names else names ++ name ∷ [])
named_grows true names name = omega arith
named_grows false names name = omega (arith, length-append names (name ∷ []))

name_grows : (names : List (List ℕ)) (name : List ℕ) → length names ≤ length (with_name names name)
name_grows names name = named_grows (list_any (bytes_eq name) names) names name

pub opens_grow : (disk : Disk) (name : List ℕ) {reads later : ReadSoFar} {answer : Result (List Cell) LexFault} → Opens disk name reads answer later → Grows reads later
opens_grow disk name (opened {reads = reads} {bytes = bytes} is) = record { names = name_grows reads.names name; left = omega arith }
opens_grow disk name (large {reads = reads} is) = record { names = name_grows reads.names name; left = omega arith }
opens_grow disk name (unread {reads = reads}) = same_grows reads

pass_grows : (disk : Disk) {unit next : Standing} {reads later : ReadSoFar} → Passes disk unit reads next later → Grows reads later
pass_grows disk (passed {reads = reads} does) = same_grows reads
pass_grows disk (included {name = name} does opens) = opens_grow disk name opens
pass_grows disk (file_ends {reads = reads} does is) = same_grows reads

goes_grow : (disk : Disk) {unit last : Standing} {reads latest : ReadSoFar} → GoesTo disk unit reads last latest → Grows reads latest
goes_grow disk (here {reads = reads}) = same_grows reads
goes_grow disk (further {reads = reads} {later = later} {latest = latest} pass goes) = grows_on reads later latest (pass_grows disk pass) (goes_grow disk goes)

answer_grows : (disk : Disk) {unit : Standing} {reads later : ReadSoFar} {answer : Answer} {stage : Stage} → Answers disk unit reads answer stage later → Grows reads later
answer_grows disk (hands {reads = reads} does) = same_grows reads
answer_grows disk (over {reads = reads} does is) = same_grows reads
answer_grows disk (fails {reads = reads} does) = same_grows reads
answer_grows disk (unopened {name = name} does opens) = opens_grow disk name opens

pub leads_grow : (disk : Disk) {stage next : Stage} {reads latest : ReadSoFar} {answer : Answer} → Leads disk stage reads answer next latest → Grows reads latest
leads_grow disk (comes {reads = reads} {later = later} {latest = latest} goes answers) = grows_on reads later latest (goes_grow disk goes) (answer_grows disk answers)
leads_grow disk (again {reads = reads}) = same_grows reads

-- where cells stand, they stand in more files too
both : (a b : Bool) → (a && b) ≡ true → (a ≡ true) × (b ≡ true)
both true b h = (refl, h)
both false b h = absurd cc

below_more : (n m k : ℕ) → n ≤ m → nat_lt k n ≡ true → nat_lt k m ≡ true
below_more n m k le h = grind (arith, nat_tests)

are_in_more : (n m : ℕ) (cells : List Cell) → n ≤ m → are_in n cells ≡ true → are_in m cells ≡ true
are_in_more n m [] le h = refl
are_in_more n m (cell ∷ cells) le h =
    let one = both (nat_lt cell.place.file n) (are_in n cells) h in
    rw (below_more n m cell.place.file le one.0) (are_in_more n m cells le one.1)

all_in_more : (n m : ℕ) (below : List (List Cell)) → n ≤ m → AreIn n below → AreIn m below
all_in_more n m [] le h = tt
all_in_more n m (cells ∷ below) le h = (are_in_more n m cells le h.0, all_in_more n m below le h.1)

numbered_more : (n m : ℕ) (fault : LexFault) → n ≤ m → IsNumbered n fault → IsNumbered m fault
numbered_more n m (lexical.BadByte place) le h = omega arith
numbered_more n m (lexical.Unterminated place) le h = omega arith
numbered_more n m (lexical.MacroUndefined place name) le h = omega arith
numbered_more n m (lexical.MacroName place) le h = omega arith
numbered_more n m (lexical.IncludeDepth place) le h = omega arith
numbered_more n m (lexical.TooLarge place) le h = omega arith
numbered_more n m (lexical.Syntax place) le h = omega arith
numbered_more n m (lexical.CannotRead name) le h = tt
numbered_more n m lexical.NoMemory le h = tt

pub known_more : (n m : ℕ) (stage : Stage) → n ≤ m → IsKnown n stage → IsKnown m stage
known_more n m (going unit) le h = record { top = are_in_more n m unit.top le h.top; below = all_in_more n m unit.below le h.below }
known_more n m (failed fault) le h = numbered_more n m fault le h

-- a name that was read has a number
same_name : (name : List ℕ) → bytes_eq name name ≡ true
same_name name = (slice_eq-Decides Decides-eqb name name (bytes_eq name name) refl).1 refl

found_at : (name other : List ℕ) (names : List (List ℕ)) (is : Bool) → bytes_eq name other ≡ is → (list_any (bytes_eq name) names ≡ true → number_of names name < length names)
    → list_any (bytes_eq name) (other ∷ names) ≡ true → number_of (other ∷ names) name < length (other ∷ names)
found_at name other names true e rest h = rw e (omega arith)
found_at name other names false e rest h =
    let left : list_any (bytes_eq name) names ≡ true = (rw e at h) in
    let found : number_of names name < length names = rest left in
    rw e (omega arith)

found_within : (name : List ℕ) (names : List (List ℕ)) → list_any (bytes_eq name) names ≡ true → number_of names name < length names
found_within name [] h = absurd cc
found_within name (other ∷ names) h = found_at name other names (bytes_eq name other) refl (found_within name names) h

any_at : (name other : List ℕ) (names : List (List ℕ)) (is : Bool) → bytes_eq name other ≡ is → list_any (bytes_eq name) names ≡ true → list_any (bytes_eq name) (other ∷ names) ≡ true
any_at name other names true e h = rw e refl
any_at name other names false e h = rw e h

any_behind : (name : List ℕ) (names : List (List ℕ)) → list_any (bytes_eq name) (names ++ name ∷ []) ≡ true
any_behind name [] = rw (same_name name) refl
any_behind name (other ∷ names) = any_at name other (names ++ name ∷ []) (bytes_eq name other) refl (any_behind name names)

pub numbered_within : (names : List (List ℕ)) (name : List ℕ) → number_of (with_name names name) name < length (with_name names name)
numbered_within names name = at (list_any (bytes_eq name) names) refl
  where
    at : (is : Bool) → list_any (bytes_eq name) names ≡ is → number_of (with_name names name) name < length (with_name names name)
    at true e = rw e (found_within name names e)
    at false e = rw e (found_within name (names ++ name ∷ []) (any_behind name names))
