-- A `{` of an anchor statement.
use Rattle.std.proofs.Common.{List, sym, ◌∙◌, subst, arith}
use Rattle.pf_lexer.specs.declared.statement.Close.TheVariants.{Long}
use Rattle.pf_lexer.specs.declared.statement.Turn.TheVariants.{Closed, Seen}
use Rattle.pf_token.specs.declared.token.Lexeme.{Lexeme}
use Rattle.pf_token.specs.Macros.{value_of}
use Rattle.pf_lexer.specs.Taking.{IsTurn}
use Rattle.pf_lexer.proofs.TakingLemmas.{turn_body, brace_long, brace_taken, sign_no_newline, one_over, not_over}
use Rattle.pf_lexer.proofs.statement.take_brace.Goals as goal

pub returns-then-is_newline_view-clause-turn : goal.returns-then-is_newline_view-clause-turn
returns-then-is_newline_view-clause-turn c =
    turn_body (value_of c.args.macros.now) c.args.front.now.lexemes.items c.args.brace c.args.reader.now c.next_lexeme.new.reader
    c.requires.anchor c.requires.brace c.in_ok-view.view c.in_ok-view.ensures.next (sym c.is_newline_view.ensures ∙ c.if-is_newline_view.true)

pub returns-then-len-gt-MOST_TOKENS-clause-turn : goal.returns-then-len-gt-MOST_TOKENS-clause-turn
returns-then-len-gt-MOST_TOKENS-clause-turn c =
    let before = c.args.front.now.lexemes.items in
    subst (λ (now : List Lexeme). IsTurn (value_of c.args.macros.now) before now c.args.brace c.args.reader.now (Closed Long) c.next_lexeme.new.reader) (sym c.in_ok-push.ensures.ok)
    (brace_long (value_of c.args.macros.now) before c.args.brace c.args.reader.now c.next_lexeme.new.reader
    (sign_no_newline 123 c.args.brace c.requires.brace) c.in_ok-view.view (λ lexeme after next. (c.in_ok-view.ensures.only lexeme after next).0) (sym c.is_newline_view.ensures ∙ c.if-is_newline_view.false)
    (one_over before c.push.new.self.lexemes.items c.args.brace c.requires.few c.in_ok-push.ensures.ok (omega (arith, c.push.new.self.lexemes.ok.0))))

pub returns-clause-turn : goal.returns-clause-turn
returns-clause-turn c =
    let before = c.args.front.now.lexemes.items in
    subst (λ (now : List Lexeme). IsTurn (value_of c.args.macros.now) before now c.args.brace c.args.reader.now (Seen c.in_ok-view.view) c.next_lexeme.new.reader) (sym c.in_ok-push.ensures.ok)
    (brace_taken (value_of c.args.macros.now) before c.args.brace c.args.reader.now c.next_lexeme.new.reader
    (sign_no_newline 123 c.args.brace c.requires.brace) c.in_ok-view.view c.in_ok-view.ensures.next (λ lexeme after next. (c.in_ok-view.ensures.only lexeme after next).0) (sym c.is_newline_view.ensures ∙ c.if-is_newline_view.false)
    (not_over before c.push.new.self.lexemes.items c.args.brace c.in_ok-push.ensures.ok (omega (arith, c.push.new.self.lexemes.ok.0))))
