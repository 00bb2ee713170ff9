-- What stays true of a load while it goes on: the numbers of files grow, and what is left to do falls.
use Rattle.std.proofs.Common.{◌≡◌, ℕ, ◌+◌, ◌-◌, ◌*◌, ◌^◌, ◌<◌, ◌≤◌, List, [], ◌++◌, length, Option, Some, None, Result, Ok, Err, arith, length-append, refl, subst, sym}
use Rattle.std.specs.Prelude.{All, IfOk}
use Rattle.std.proofs.Math.Nat.{mul-le-mul_left}
use Rattle.pf_decl.specs.declared.check.UsedQueue.{UsedQueue}
use Rattle.pf_decl.specs.declared.form.Queue.{Queue}
use Rattle.pf_source.specs.Asks.{Asks}
use Rattle.pf_source.specs.Told.{FilesTold}
use Rattle.pf_lexer.specs.Calls.{IsGoing, unread_from, unread_in}
use Rattle.pf_lexer.specs.Going.{stage_weight}
use Rattle.pf_lexer.specs.ReadSoFar.{ReadSoFar}
use Rattle.pf_lexer.specs.Reads.{GoesOn}
use Rattle.pf_lexer.specs.Stages.{LexerState, Stage, going, failed}
use Rattle.pf_lexer.specs.Units.{Answer}
use Rattle.pf_fault.specs.Stops.{StopWithin}
use Rattle.pf_plan.specs.Numbered.{FillingWithin, PlacesWithin}
use Rattle.pf_fault.specs.Stops.{unread_in as missed}
use Rattle.pf_plan.specs.declared.draft.Draft.{Draft}
use Rattle.pf_plan.specs.declared.draft.Filling.{Filling}
use Rattle.pf_plan.specs.declared.draft.Ruleset.{Ruleset}
use Rattle.pf_fault.specs.declared.fault.Stop.{Stop}
use Rattle.pf_fault.specs.declared.fault.Stop.TheVariants as stops
use Rattle.pf_load.specs.Answers.{AwaitsMore, IfLess, IfLighter, IfReady, IsLighter, IsReady, files_left, next_of, work_left}
use Rattle.pf_load.specs.declared.loading.Next.{Next}
use Rattle.pf_load.specs.declared.loading.Next.TheVariants.{Reading, Finished}

pub goes_on_length : (old new : List (List ℕ)) → GoesOn old new → length old ≤ length new
goes_on_length old new h = subst (λ (l : List (List ℕ)). length old ≤ length l) (sym h.is) (omega (arith, length-append old h.more))

filling_grows : (n m : ℕ) (filling : Filling) → n ≤ m → FillingWithin n filling → FillingWithin m filling
filling_grows n m filling le h = record { own = omega (arith, h.own); inside = λ k d lt. let one = h.inside k d lt in omega (arith, one) }

-- places in some files are places in more of them
pub places_grow : (n m : ℕ) (draft : Draft) → n ≤ m → PlacesWithin n draft → PlacesWithin m draft
places_grow n m draft le h = record {
  here = filling_grows n m draft.here le h.here;
  outer = λ k d lt. filling_grows n m _ le (h.outer k d lt);
  queues = λ k d lt. let one = h.queues k d lt in omega (arith, one);
  used = λ k d lt. let one = h.used k d lt in omega (arith, one);
}

-- fewer bytes that may be read weigh no more
pub weight_falls : (stage : Stage) (reads later : ReadSoFar) → later.left ≤ reads.left → stage_weight stage later ≤ stage_weight stage reads
weight_falls (going unit) reads later le = omega (arith, mul-le-mul_left (2 ^ 65) le)
weight_falls (failed fault) reads later le = omega arith

-- what may still be read weighs no more than where a unit stands
pub bytes_weigh : (stage : Stage) (reads : ReadSoFar) → IsGoing stage → 2 ^ 65 * reads.left ≤ stage_weight stage reads
bytes_weigh (going unit) reads h = omega arith
bytes_weigh (failed fault) reads h = absurd h

-- a statement leaves less to do
pub less_behind : (stage next : Stage) (reads later latest : ReadSoFar) (draft new : Draft) → stage_weight next later < stage_weight stage reads → latest.left ≤ later.left → AwaitsMore draft new
    → work_left next latest new < work_left stage reads draft
less_behind stage next reads later latest draft new lighter fewer awaits =
    let falls : stage_weight next latest ≤ stage_weight next later = weight_falls next later latest fewer in
    omega (arith, lighter, falls, awaits.more, awaits.same)

-- and so does the begin of the next unit
pub less_begun : (stage next : Stage) (reads later latest : ReadSoFar) (draft new : Draft) → IsGoing stage → later.left ≤ reads.left → IsLighter draft new next later latest → work_left next latest new < work_left stage reads draft
less_begun stage next reads later latest draft new goes left lighter =
    let bytes : 2 ^ 65 * later.left ≤ 2 ^ 65 * reads.left = mul-le-mul_left (2 ^ 65) left in
    let whole : 2 ^ 65 * reads.left ≤ stage_weight stage reads = bytes_weigh stage reads goes in
    omega (arith, lighter.weight, lighter.fewer, bytes, whole)

pub next_less : (stage : Stage) (reads later latest : ReadSoFar) (draft : Draft) (next : Next) → IsGoing stage → later.left ≤ reads.left → IfLighter draft next later latest → IfLess (work_left stage reads draft) next latest
next_less stage reads later latest draft (Reading lexer new) goes left lighter = less_begun stage lexer.stage reads later latest draft new goes left lighter
next_less stage reads later latest draft (Finished plan) goes left lighter = tt

-- no fault came before, so a call names the file that it can't read
pub lexer_asks : (stage : Stage) (answer : Answer) (a b : FilesTold) → IsGoing stage → Asks (unread_from stage answer) a b → Asks (unread_in answer) a b
lexer_asks (going unit) answer a b goes h = h
lexer_asks (failed fault) answer a b goes h = absurd goes

-- what stops a load names the same file, whatever else might have come
pub stop_unread : (A B : Type 0) (stop : Stop) → missed {A = A} (Err stop) ≡ missed {A = B} (Err stop)
stop_unread A B (stops.Fault fault) = refl
stop_unread A B (stops.Unread name) = refl
stop_unread A B stops.NoMemory = refl

-- behind a statement

pub behind_unread : (lexer : LexerState) (taken : Result Draft Stop) → missed (next_of lexer taken) ≡ missed taken
behind_unread lexer (Ok draft) = refl
behind_unread lexer (Err stop) = stop_unread Next Draft stop

pub behind_ready : (lexer : LexerState) (taken : Result Draft Stop) (reads : ReadSoFar) → lexer.known ≤ length reads.names → IsGoing lexer.stage → IfOk taken (PlacesWithin (length reads.names)) → IfOk (next_of lexer taken) (λ next. IfReady next reads)
behind_ready lexer (Ok draft) reads known goes places = record { known = known; goes = goes; places = places }
behind_ready lexer (Err stop) reads known goes places = tt

pub behind_less : (stage : Stage) (lexer : LexerState) (reads later latest : ReadSoFar) (draft : Draft) (taken : Result Draft Stop) → stage_weight lexer.stage later < stage_weight stage reads → latest.left ≤ later.left → IfOk taken (AwaitsMore draft)
    → IfOk (next_of lexer taken) (λ next. IfLess (work_left stage reads draft) next latest)
behind_less stage lexer reads later latest draft (Ok new) lighter fewer awaits = less_behind stage lexer.stage reads later latest draft new lighter fewer awaits
behind_less stage lexer reads later latest draft (Err stop) lighter fewer awaits = tt

pub behind_within : (count : ℕ) (lexer : LexerState) (taken : Result Draft Stop) → StopWithin count taken → StopWithin count (next_of lexer taken)
behind_within count lexer (Ok draft) h = tt
behind_within count lexer (Err stop) h = h
