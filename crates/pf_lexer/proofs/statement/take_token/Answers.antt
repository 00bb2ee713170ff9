-- Any other token.
use Rattle.std.proofs.Common.{List, sym, subst, arith}
use Rattle.pf_lexer.specs.declared.statement.Close.TheVariants.{Long}
use Rattle.pf_lexer.specs.declared.statement.Turn.TheVariants.{Closed, Seen}
use Rattle.pf_token.specs.declared.token.Lexeme.{Lexeme}
use Rattle.pf_token.specs.Macros.{value_of}
use Rattle.pf_lexer.specs.Taking.{IsTurn}
use Rattle.pf_lexer.proofs.TakingLemmas.{token_long, token_taken, one_over, not_over}
use Rattle.pf_lexer.proofs.statement.take_token.Goals as goal

pub returns-then-len-gt-MOST_TOKENS-clause-turn : goal.returns-then-len-gt-MOST_TOKENS-clause-turn
returns-then-len-gt-MOST_TOKENS-clause-turn c =
    let before = c.args.front.now.lexemes.items in
    subst (λ (now : List Lexeme). IsTurn (value_of c.args.macros.now) before now c.args.lexeme c.args.reader.now (Closed Long) c.args.reader.now) (sym c.in_ok-push.ensures.ok)
    (token_long (value_of c.args.macros.now) before c.args.lexeme c.args.reader.now c.args.reader.now c.requires.no_newline c.requires.no_brace
    (one_over before c.push.new.self.lexemes.items c.args.lexeme c.requires.few c.in_ok-push.ensures.ok (omega (arith, c.push.new.self.lexemes.ok.0))))

pub returns-clause-turn : goal.returns-clause-turn
returns-clause-turn c =
    let before = c.args.front.now.lexemes.items in
    subst (λ (now : List Lexeme). IsTurn (value_of c.args.macros.now) before now c.args.lexeme c.args.reader.now (Seen c.in_ok-view.view) c.next_lexeme.new.reader) (sym c.in_ok-push.ensures.ok)
    (token_taken (value_of c.args.macros.now) before c.args.lexeme c.args.reader.now c.next_lexeme.new.reader c.requires.no_newline c.requires.no_brace
    (not_over before c.push.new.self.lexemes.items c.args.lexeme c.in_ok-push.ensures.ok (omega (arith, c.push.new.self.lexemes.ok.0))) c.in_ok-view.view c.in_ok-view.ensures.next)
