-- The statement begins with no token, and ends with the file where none is in view.
use Rattle.std.proofs.Common.{List, sym, subst, arith}
use Rattle.pf_token.specs.declared.cell.Cell.{Cell}
use Rattle.pf_lexer.specs.declared.statement.Close.TheVariants.{End}
use Rattle.pf_token.specs.Macros.{value_of}
use Rattle.pf_lexer.specs.Statements.{Ends, at_end}
use Rattle.pf_lexer.proofs.TakingLemmas.{view_lighter}
use Rattle.pf_lexer.proofs.statement.read_statement.Goals as goal

pub loop-view-init : goal.loop-view-init
loop-view-init c =
    rw c.new-front.ensures (record {
      goes = record { next = c.args.reader.now; views = c.in_ok-view.ensures.next; goes = λ lexemes close rest ends. ends };
      few = omega arith;
      lighter = view_lighter c.in_ok-view.view c.next_lexeme.new.reader c.args.reader.now (value_of c.args.macros.now) c.in_ok-view.ensures.next c.in_ok-view.ensures.lighter;
    })

pub returns-clause-ends : goal.returns-clause-ends
returns-clause-ends c =
    let goes = c.loop-view.invariant.goes in
    let views = rw c.in_default.is at goes.views in
    goes.goes c.loop-view.front.lexemes.items End c.loop-view.reader
    (subst (λ (rest : List Cell). Ends (value_of c.args.macros.now) c.loop-view.front.lexemes.items goes.next c.loop-view.front.lexemes.items End rest) (sym views.1) (at_end views.0))
