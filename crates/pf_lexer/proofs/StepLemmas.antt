-- What one statement makes of a unit.
use Rattle.std.proofs.Common.{◌≡◌, ℕ, ◌≤◌, true, false, List, [], ◌∷◌, Option, Some, None, Ok, Err, length, length-append, refl, ap, sym, ◌∙◌, subst, arith}
use Rattle.std.specs.Prelude.{nat_lt}
use Rattle.std.proofs.lemmas.Bool.{and_parts, and_from, ltb-true, lt-ltb}
use Rattle.pf_source.specs.Disk.{Disk}
use Rattle.pf_token.specs.declared.cell.Cell.{Cell}
use Rattle.pf_token.specs.declared.token.Fault.{Fault as FaultOf}
use Rattle.pf_token.specs.Cells.{are_in}
use Rattle.pf_token.specs.Macros.{Table}
use Rattle.pf_lexer.specs.declared.deed.Deed.{Deed}
use Rattle.pf_lexer.specs.declared.deed.Deed.TheVariants.{Nothing, Hands, Includes, Ends, Fails}
use Rattle.pf_lexer.specs.declared.deed.Statement.{Statement}
use Rattle.pf_lexer.specs.declared.fault.LexFault.{LexFault}
use Rattle.pf_lexer.specs.declared.fault.LexFault.TheVariants.{NoMemory}
use Rattle.pf_lexer.specs.Calls.{AnswersNumbered, AreIn, RunsOut, StandsIn}
use Rattle.pf_lexer.specs.Deeds.{Does}
use Rattle.pf_lexer.specs.Going.{CutAt, before, behind, DeedStaysIn, IsCut, IsFoundNumbered, IsStopped, Leaves}
use Rattle.pf_lexer.specs.ReadSoFar.{ReadSoFar}
use Rattle.pf_lexer.specs.Reads.{GoesOn}
use Rattle.pf_lexer.specs.Stages.{Standing, going, failed}
use Rattle.pf_lexer.specs.Units.{Answers, here, further, Opens, Passes, answered}
use Rattle.pf_lexer.proofs.StopLemmas.{by_memory, other_than_memory}

-- memory ran out before the statement
pub stopped_here : (disk : Disk) (unit : Standing) (reads : ReadSoFar) (fault : LexFault) → fault ≡ NoMemory → IsStopped disk unit reads fault reads
stopped_here disk unit reads fault is = rw is (record { last = unit; goes = here })

module _ (disk : Disk) (macros : Table) (top : List Cell) (below : List (List Cell)) (old : Standing) (old_is : record { macros = macros; top = top; below = below } ≡ old) (includes : ℕ) (count : includes ≡ length below) where
  placed : {deed : Deed} {changed : Table} {after : List Cell} → Does includes macros top deed changed after → Does (length below) macros top deed changed after
  placed {deed = deed} {changed = changed} {after = after} does = subst (λ n. Does n macros top deed changed after) count does

  module _ (changed : Table) (after : List Cell) (reads : ReadSoFar) where
    pub step_passed : Does includes macros top Nothing changed after → Passes disk old reads (record { macros = changed; top = after; below = below }) reads
    step_passed does = subst (λ (o : Standing). Passes disk o reads (record { macros = changed; top = after; below = below }) reads) old_is (Passes.passed (placed does))

    pub step_hands : (statement : Statement) → Does includes macros top (Hands statement) changed after → Answers disk old reads (Ok (Some statement)) (going (record { macros = changed; top = after; below = below })) reads
    step_hands statement does = subst (λ (o : Standing). Answers disk o reads (Ok (Some statement)) (going (record { macros = changed; top = after; below = below })) reads) old_is (Answers.hands (placed does))

    pub step_fails : (fault : FaultOf) (found : LexFault) → Does includes macros top (Fails fault) changed after → found ≡ answered fault → IsStopped disk old reads found reads
    step_fails fault found does is =
        rw is (other_than_memory fault (RunsOut disk old reads reads) (Answers disk old reads (Err (answered fault)) (failed (answered fault)) reads)
        (subst (λ (o : Standing). Answers disk o reads (Err (answered fault)) (failed (answered fault)) reads) old_is (Answers.fails (placed does))))

    pub step_leaves : (new : Standing) → Does includes macros top Ends changed after → Leaves (record { macros = changed; top = after; below = below }) true new → Passes disk old reads new reads
    step_leaves new does (below_is, macros_are) =
        subst (λ (o : Standing). Passes disk o reads new reads) old_is
        (subst (λ (m : Table). Passes disk (record { macros = macros; top = top; below = below }) reads (record { macros = m; top = new.top; below = new.below }) reads) (sym macros_are)
        (Passes.file_ends (placed does) below_is))

    pub step_over : (new : Standing) → Does includes macros top Ends changed after → Leaves (record { macros = changed; top = after; below = below }) false new → Answers disk old reads (Ok None) (going new) reads
    step_over new does (new_is, below_is) =
        subst (λ (o : Standing). Answers disk o reads (Ok None) (going new) reads) old_is
        (subst (λ (n : Standing). Answers disk (record { macros = macros; top = top; below = below }) reads (Ok None) (going n) reads) (sym new_is) (Answers.over (placed does) below_is))

    module _ (name : List ℕ) (does : Does includes macros top (Includes name) changed after) where
      included : (cells : List Cell) (later : ReadSoFar) → Opens disk name reads (Ok cells) later → Passes disk old reads (record { macros = changed; top = cells; below = after ∷ below }) later
      included cells later opens = subst (λ (o : Standing). Passes disk o reads (record { macros = changed; top = cells; below = after ∷ below }) later) old_is (Passes.included (placed does) opens)

      pub step_included : (new : Standing) (later : ReadSoFar) → Opens disk name reads (Ok new.top) later → new ≡ record { macros = changed; top = new.top; below = after ∷ below } → Passes disk old reads new later
      step_included new later opens is = subst (λ (n : Standing). Passes disk old reads n later) (sym is) (included new.top later opens)

      cut_runs_out : (later : ReadSoFar) → CutAt disk name reads later → RunsOut disk old reads later
      cut_runs_out later before = record { last = old; goes = here }
      cut_runs_out later (behind {cells = cells} opens) = record { last = record { macros = changed; top = cells; below = after ∷ below }; goes = further (included cells later opens) here }

      none_opened : (later : ReadSoFar) (fault : LexFault) → Opens disk name reads (Err fault) later → Answers disk old reads (Err fault) (failed fault) later
      none_opened later fault opens = subst (λ (o : Standing). Answers disk o reads (Err fault) (failed fault) later) old_is (Answers.unopened (placed does) opens)

      pub step_stopped : (later : ReadSoFar) (fault : LexFault) → IsCut disk name reads fault later → IsStopped disk old reads fault later
      step_stopped later fault cut =
          by_memory fault (CutAt disk name reads later) (Opens disk name reads (Err fault) later) (RunsOut disk old reads later) (Answers disk old reads (Err fault) (failed fault) later)
          (cut_runs_out later) (none_opened later fault) cut

-- more numbers
more_in : (count more : ℕ) → count ≤ more → (cells : List Cell) → are_in count cells ≡ true → are_in more cells ≡ true
more_in count more least [] e = refl
more_in count more least (cell ∷ cells) e =
    let parts = and_parts (nat_lt cell.place.file count) (are_in count cells) e in
    and_from (nat_lt cell.place.file more) (are_in more cells) (lt-ltb cell.place.file more (omega (arith, ltb-true cell.place.file count parts.0))) (more_in count more least cells parts.1)

more_below : (count more : ℕ) → count ≤ more → (below : List (List Cell)) → AreIn count below → AreIn more below
more_below count more least [] e = tt
more_below count more least (cells ∷ below) e = (more_in count more least cells e.0, more_below count more least below e.1)

pub stands_more : (count more : ℕ) → count ≤ more → (unit : Standing) → StandsIn count unit → StandsIn more unit
stands_more count more least unit within = record { top = more_in count more least unit.top within.top; below = more_below count more least unit.below within.below }

pub goes_on_length : (old new : List (List ℕ)) → GoesOn old new → length old ≤ length new
goes_on_length old new goes = omega (arith, ap length goes.is, length-append old goes.more)

-- the open files of a unit have numbers
module _ (count : ℕ) (macros : Table) (top : List Cell) (below : List (List Cell)) (old : Standing) (old_is : record { macros = macros; top = top; below = below } ≡ old) (within : StandsIn count old) where
  pub top_in : are_in count top ≡ true
  top_in = ap (λ (o : Standing). are_in count o.top) old_is ∙ within.top

  below_in : AreIn count below
  below_in = subst (λ (o : Standing). AreIn count o.below) (sym old_is) within.below

  pub still_in : (deed : Deed) (changed : Table) (after : List Cell) → DeedStaysIn count deed after → StandsIn count (record { macros = changed; top = after; below = below })
  still_in deed changed after stays = record { top = stays.after_in; below = below_in }

  pub over_in : (deed : Deed) (changed : Table) (after : List Cell) (new : Standing) → DeedStaysIn count deed after → Leaves (record { macros = changed; top = after; below = below }) false new → StandsIn count new
  over_in deed changed after new stays (new_is, below_is) = subst (StandsIn count) (sym new_is) (still_in deed changed after stays)

  pub entered_in : (deed : Deed) (changed : Table) (after : List Cell) (new : Standing) → DeedStaysIn count deed after → new ≡ record { macros = changed; top = new.top; below = after ∷ below } → are_in count new.top ≡ true → StandsIn count new
  entered_in deed changed after new stays is e = subst (StandsIn count) (sym is) (record { top = e; below = (stays.after_in, below_in) })

pub found_numbered : (count : ℕ) (found : Option Statement) → IsFoundNumbered count (Ok found) → AnswersNumbered count (Ok found)
found_numbered count None e = tt
found_numbered count (Some statement) e = e
