-- A newline ends the statement, or is skipped in list braces.
use Rattle.std.proofs.Common.{sym, ◌∙◌, arith}
use Rattle.pf_token.specs.Macros.{value_of}
use Rattle.pf_lexer.proofs.TakingLemmas.{turn_line, turn_skipped}
use Rattle.pf_lexer.proofs.statement.pass_newline.Goals as goal

pub returns-then-front-eq0-clause-turn : goal.returns-then-front-eq0-clause-turn
returns-then-front-eq0-clause-turn c = λ newline is. turn_line (value_of c.args.macros.now) c.args.front.now.lexemes.items newline c.args.reader.now c.args.reader.now is (sym c.args.front.now.counted ∙ c.if-front-eq0.true)

pub returns-clause-turn : goal.returns-clause-turn
returns-clause-turn c = λ newline is.
    turn_skipped (value_of c.args.macros.now) c.args.front.now.lexemes.items newline c.args.reader.now c.next_lexeme.new.reader is (omega (arith, c.args.front.now.counted)) c.in_ok-view.view c.in_ok-view.ensures.next
