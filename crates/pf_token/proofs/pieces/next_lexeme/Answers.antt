-- A piece is a token, or is passed, or nothing is left.
use Rattle.std.proofs.Common.{Option, Some, sym, ap, ◌∙◌, arith}
use Rattle.pf_token.specs.declared.token.Lexeme.{Lexeme}
use Rattle.pf_token.specs.Macros.{value_of}
use Rattle.pf_token.proofs.Tokens.{here_at, passed_at, no_more_at, ended_at, next_one, no_next}
use Rattle.pf_token.proofs.pieces.next_lexeme.Goals as goal

pub loop-cell-preserved : goal.loop-cell-preserved
loop-cell-preserved c =
    let next = sym c.in-Some.is ∙ c.peek.ensures in
    let passed = c.in_ok-found.ensures.step ∙ ap (λ (found : Option Lexeme). (found, c.read_piece.new.reader)) c.in_default-found.is in
    record {
      one = λ lexeme after more. c.loop-cell.invariant.one lexeme after (passed_at (value_of c.args.macros.now) c.loop-cell.reader c.in-Some.cell c.read_piece.new.reader next passed after lexeme more);
      less = omega (arith, c.in_ok-found.ensures.lighter);
      none = λ more. c.loop-cell.invariant.none (no_more_at (value_of c.args.macros.now) c.loop-cell.reader c.in-Some.cell c.read_piece.new.reader next passed more);
    }

pub returns-in-Some-found-clause-next : goal.returns-in-Some-found-clause-next
returns-in-Some-found-clause-next c =
    let next = sym c.in-Some.is ∙ c.peek.ensures in
    let found = c.in_ok-found.ensures.step ∙ ap (λ (found : Option Lexeme). (found, c.read_piece.new.reader)) c.in-Some-found.is in
    c.loop-cell.invariant.one c.in-Some-found.lexeme c.read_piece.new.reader
    (here_at (value_of c.args.macros.now) c.loop-cell.reader c.in-Some.cell c.read_piece.new.reader c.in-Some-found.lexeme next found)

pub returns-clause-next : goal.returns-clause-next
returns-clause-next c =
    let over = ended_at (value_of c.args.macros.now) c.loop-cell.reader (sym c.in_default.is ∙ c.peek.ensures) in
    (c.loop-cell.invariant.none over.0, over.1)

pub returns-in-Some-found-clause-only : goal.returns-in-Some-found-clause-only
returns-in-Some-found-clause-only c = λ lexeme after next.
    let same = next_one (value_of c.args.macros.now) (returns-in-Some-found-clause-next c) next in
    (ap Some same.0, same.1)

pub returns-clause-only : goal.returns-clause-only
returns-clause-only c = λ lexeme after next. absurd (no_next (value_of c.args.macros.now) (returns-clause-next c).0 next)
