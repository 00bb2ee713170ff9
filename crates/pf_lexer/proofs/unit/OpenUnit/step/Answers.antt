-- Each thing that a statement may do.
use Rattle.std.proofs.Common.{◌≡◌, ℕ, List, [], length, reverse, sym, ◌∙◌}
use Rattle.std.proofs.lemmas.List.{length-reverse}
use Rattle.std.proofs.lemmas.Result.{err_from_is_err_and}
use Rattle.pf_source.specs.Told.{file_of}
use Rattle.pf_token.specs.declared.cell.Cell.{Cell}
use Rattle.pf_lexer.specs.declared.deed.Deed.TheVariants.{Nothing, Hands, Includes, Ends}
use Rattle.pf_lexer.proofs.GoingLemmas.{asks_answered, asks_nothing}
use Rattle.pf_lexer.proofs.StepLemmas.{stopped_here, step_passed, step_hands, step_fails, step_leaves, step_over, step_included, step_stopped, top_in, still_in, over_in, entered_in, stands_more, goes_on_length}
use Rattle.pf_lexer.proofs.StopLemmas.{answered_numbered}
use Rattle.pf_lexer.proofs.WordLemmas.{does_full}
use Rattle.pf_lexer.proofs.unit.OpenUnit.step.Goals as goal

-- how many files wait
below_count : (below : List (List Cell)) {count includes : ℕ} → count ≡ length below → includes ≡ count → includes ≡ length (reverse below)
below_count below is e = e ∙ is ∙ sym (length-reverse below)

pub returns-in_err-take_statement-clause-err : goal.returns-in_err-take_statement-clause-err
returns-in_err-take_statement-clause-err g c =
    let p = err_from_is_err_and c.from_residual.result c.from_residual.ensures.1 in
    rw p.1 (record { at = λ held told. stopped_here (file_of held) c.args.self.now c.args.reads.now p.0.fault p.2 })

pub returns-in_err-include-in-Includes-clause-err : goal.returns-in_err-include-in-Includes-clause-err
returns-in_err-include-in-Includes-clause-err g c =
    let p = err_from_is_err_and c.from_residual-in_err-include-in-Includes.result c.from_residual-in_err-include-in-Includes.ensures.1 in
    let does = rw c.in-Includes.is at c.in_ok-take_statement.ensures.does in
    rw (p.1, p.2)
    (record {
      at = λ held told.
          step_stopped (file_of held) c.self.inside.macros c.self.inside.top (reverse c.self.inside.below.items) c.args.self.now c.self.view_is c.len-includes.result (below_count c.self.inside.below.items c.self.inside.below.ok.0 c.len-includes.ensures)
          c.take_statement.new.macros c.take_statement.new.reader c.args.reads.now c.in-Includes.name does c.include.new.reads c.in_err-include-in-Includes.field-0.0.fault (c.in_err-include-in-Includes.ensures.err.at held told);
    })

pub returns-in-Nothing-clause-ok : goal.returns-in-Nothing-clause-ok
returns-in-Nothing-clause-ok g c =
    let does = rw c.in-Nothing.is at c.in_ok-take_statement.ensures.does in
    record {
      at = λ held told.
          step_passed (file_of held) c.self.inside.macros c.self.inside.top (reverse c.self.inside.below.items) c.args.self.now c.self.view_is c.len-includes.result (below_count c.self.inside.below.items c.self.inside.below.ok.0 c.len-includes.ensures)
          c.take_statement.new.macros c.take_statement.new.reader c.args.reads.now does;
    }

pub returns-in-Nothing-clause-within : goal.returns-in-Nothing-clause-within
returns-in-Nothing-clause-within g c = λ within.
    let count = length c.args.reads.now.names in
    let stays = rw c.in-Nothing.is at c.in_ok-take_statement.ensures.places count (top_in count c.self.inside.macros c.self.inside.top (reverse c.self.inside.below.items) c.args.self.now c.self.view_is within) in
    still_in count c.self.inside.macros c.self.inside.top (reverse c.self.inside.below.items) c.args.self.now c.self.view_is within Nothing c.take_statement.new.macros c.take_statement.new.reader stays

pub returns-in-Hands-clause-ok : goal.returns-in-Hands-clause-ok
returns-in-Hands-clause-ok g c =
    let does = rw c.in-Hands.is at c.in_ok-take_statement.ensures.does in
    record {
      at = λ held told.
          step_hands (file_of held) c.self.inside.macros c.self.inside.top (reverse c.self.inside.below.items) c.args.self.now c.self.view_is c.len-includes.result (below_count c.self.inside.below.items c.self.inside.below.ok.0 c.len-includes.ensures)
          c.take_statement.new.macros c.take_statement.new.reader c.args.reads.now c.in-Hands.statement does;
    }

pub returns-in-Hands-clause-words : goal.returns-in-Hands-clause-words
returns-in-Hands-clause-words g c = let does = rw c.in-Hands.is at c.in_ok-take_statement.ensures.does in does_full does

pub returns-in-Hands-clause-within : goal.returns-in-Hands-clause-within
returns-in-Hands-clause-within g c = λ within.
    let count = length c.args.reads.now.names in
    let stays = rw c.in-Hands.is at c.in_ok-take_statement.ensures.places count (top_in count c.self.inside.macros c.self.inside.top (reverse c.self.inside.below.items) c.args.self.now c.self.view_is within) in
    still_in count c.self.inside.macros c.self.inside.top (reverse c.self.inside.below.items) c.args.self.now c.self.view_is within (Hands c.in-Hands.statement) c.take_statement.new.macros c.take_statement.new.reader stays

pub returns-in-Hands-clause-places : goal.returns-in-Hands-clause-places
returns-in-Hands-clause-places g c = λ within.
    let count = length c.args.reads.now.names in
    let stays = rw c.in-Hands.is at c.in_ok-take_statement.ensures.places count (top_in count c.self.inside.macros c.self.inside.top (reverse c.self.inside.below.items) c.args.self.now c.self.view_is within) in
    stays.deed_in

pub returns-in_ok-include-in-Includes-clause-ok : goal.returns-in_ok-include-in-Includes-clause-ok
returns-in_ok-include-in-Includes-clause-ok g c =
    let does = rw c.in-Includes.is at c.in_ok-take_statement.ensures.does in
    record {
      at = λ held told.
          step_included (file_of held) c.self.inside.macros c.self.inside.top (reverse c.self.inside.below.items) c.args.self.now c.self.view_is c.len-includes.result (below_count c.self.inside.below.items c.self.inside.below.ok.0 c.len-includes.ensures)
          c.take_statement.new.macros c.take_statement.new.reader c.args.reads.now c.in-Includes.name does c.include.new.self c.include.new.reads
          (c.in_ok-include-in-Includes.ensures.opens.at held told) c.in_ok-include-in-Includes.ensures.enters;
    }

pub returns-in-Ends-clause-ok : goal.returns-in-Ends-clause-ok
returns-in-Ends-clause-ok g c =
    let does = rw c.in-Ends.is at c.in_ok-take_statement.ensures.does in
    let leaves = rw c.if-leave.true at c.leave.ensures in
    record {
      at = λ held told.
          step_leaves (file_of held) c.self.inside.macros c.self.inside.top (reverse c.self.inside.below.items) c.args.self.now c.self.view_is c.len-includes.result (below_count c.self.inside.below.items c.self.inside.below.ok.0 c.len-includes.ensures)
          c.take_statement.new.macros c.take_statement.new.reader c.args.reads.now c.leave.new.self does leaves;
    }

pub returns-in-Ends-2-clause-ok : goal.returns-in-Ends-2-clause-ok
returns-in-Ends-2-clause-ok g c =
    let does = rw c.in-Ends-2.is at c.in_ok-take_statement.ensures.does in
    let leaves = rw c.if-leave.false at c.leave.ensures in
    record {
      at = λ held told.
          step_over (file_of held) c.self.inside.macros c.self.inside.top (reverse c.self.inside.below.items) c.args.self.now c.self.view_is c.len-includes.result (below_count c.self.inside.below.items c.self.inside.below.ok.0 c.len-includes.ensures)
          c.take_statement.new.macros c.take_statement.new.reader c.args.reads.now c.leave.new.self does leaves;
    }

pub returns-in-Ends-2-clause-within : goal.returns-in-Ends-2-clause-within
returns-in-Ends-2-clause-within g c = λ within.
    let count = length c.args.reads.now.names in
    let stays = rw c.in-Ends-2.is at c.in_ok-take_statement.ensures.places count (top_in count c.self.inside.macros c.self.inside.top (reverse c.self.inside.below.items) c.args.self.now c.self.view_is within) in
    let leaves = rw c.if-leave.false at c.leave.ensures in
    over_in count c.self.inside.macros c.self.inside.top (reverse c.self.inside.below.items) c.args.self.now c.self.view_is within Ends c.take_statement.new.macros c.take_statement.new.reader c.leave.new.self stays leaves

pub returns-in-Fails-clause-err : goal.returns-in-Fails-clause-err
returns-in-Fails-clause-err g c =
    let does = rw c.in-Fails.is at c.in_ok-take_statement.ensures.does in
    record {
      at = λ held told.
          step_fails (file_of held) c.self.inside.macros c.self.inside.top (reverse c.self.inside.below.items) c.args.self.now c.self.view_is c.len-includes.result (below_count c.self.inside.below.items c.self.inside.below.ok.0 c.len-includes.ensures)
          c.take_statement.new.macros [] c.args.reads.now c.in-Fails.fault c.answered.result does c.answered.ensures;
    }

pub returns-in-Fails-clause-places : goal.returns-in-Fails-clause-places
returns-in-Fails-clause-places g c = λ within.
    let count = length c.args.reads.now.names in
    let stays = rw c.in-Fails.is at c.in_ok-take_statement.ensures.places count (top_in count c.self.inside.macros c.self.inside.top (reverse c.self.inside.below.items) c.args.self.now c.self.view_is within) in
    rw c.answered.ensures (answered_numbered count c.in-Fails.fault stays.deed_in)

pub returns-in_ok-include-in-Includes-clause-within : goal.returns-in_ok-include-in-Includes-clause-within
returns-in_ok-include-in-Includes-clause-within g c = λ within.
    let count = length c.include.new.reads.names in
    let more = stands_more (length c.args.reads.now.names) count (goes_on_length c.args.reads.now.names c.include.new.reads.names c.in_ok-include-in-Includes.ensures.asks.grows) c.args.self.now within in
    let stays = rw c.in-Includes.is at c.in_ok-take_statement.ensures.places count (top_in count c.self.inside.macros c.self.inside.top (reverse c.self.inside.below.items) c.args.self.now c.self.view_is more) in
    entered_in count c.self.inside.macros c.self.inside.top (reverse c.self.inside.below.items) c.args.self.now c.self.view_is more (Includes c.in-Includes.name) c.take_statement.new.macros c.take_statement.new.reader c.include.new.self
    stays c.in_ok-include-in-Includes.ensures.enters c.in_ok-include-in-Includes.ensures.within

pub returns-in_err-take_statement-clause-asks : goal.returns-in_err-take_statement-clause-asks
returns-in_err-take_statement-clause-asks g c =
    let p = err_from_is_err_and c.from_residual.result c.from_residual.ensures.1 in
    rw p.1 (rw p.2 (asks_nothing (g.F.Files.tells c.args.files.now) c.args.reads.now))

pub returns-in-Nothing-clause-asks : goal.returns-in-Nothing-clause-asks
returns-in-Nothing-clause-asks g c = asks_nothing (g.F.Files.tells c.args.files.now) c.args.reads.now

pub returns-in-Hands-clause-asks : goal.returns-in-Hands-clause-asks
returns-in-Hands-clause-asks g c = asks_nothing (g.F.Files.tells c.args.files.now) c.args.reads.now

pub returns-in-Ends-clause-asks : goal.returns-in-Ends-clause-asks
returns-in-Ends-clause-asks g c = asks_nothing (g.F.Files.tells c.args.files.now) c.args.reads.now

pub returns-in-Ends-2-clause-asks : goal.returns-in-Ends-2-clause-asks
returns-in-Ends-2-clause-asks g c = asks_nothing (g.F.Files.tells c.args.files.now) c.args.reads.now

pub returns-in-Fails-clause-asks : goal.returns-in-Fails-clause-asks
returns-in-Fails-clause-asks g c = rw c.answered.ensures (asks_answered c.in-Fails.fault (g.F.Files.tells c.args.files.now) c.args.reads.now)
