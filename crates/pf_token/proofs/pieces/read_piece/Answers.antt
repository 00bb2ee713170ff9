-- The step at each class of byte.
use Rattle.std.proofs.Common.{◌∷◌, ◌++◌, Some, None, sym, ap, ◌∙◌, arith}
use Rattle.pf_token.specs.declared.byte.ByteClass.TheVariants.{Blank, Newline, Sign, Quote, Hash, Plain, Bad}
use Rattle.pf_token.specs.declared.token.TokenKind.TheVariants as kinds
use Rattle.pf_token.specs.declared.token.Cause.TheVariants as causes
use Rattle.pf_token.specs.Bytes.{is_word_byte}
use Rattle.pf_token.specs.Cells.{bytes_of}
use Rattle.pf_token.specs.Macros.{value_of}
use Rattle.pf_token.specs.Pieces.{token, fault, is_in_line}
use Rattle.pf_token.specs.Reading.{Step, front, beyond, quoted_from, quoted_step, weight}
use Rattle.pf_token.proofs.DollarLemmas.{step_at, weight_passed}
use Rattle.pf_token.proofs.Weights.{weight_beyond, weight_quoted}
use Rattle.pf_token.proofs.pieces.read_piece.Goals as goal

pub returns-in-Blank-clause-step : goal.returns-in-Blank-clause-step
returns-in-Blank-clause-step c =
    step_at c.args.reader.now c.args.cell c.requires (value_of c.args.macros.now) Blank (sym c.class_of-class.ensures ∙ c.in-Blank.is)
    ∙ ap (λ t. (None, t)) (sym c.advance.ensures)

pub returns-in-Hash-clause-step : goal.returns-in-Hash-clause-step
returns-in-Hash-clause-step c =
    step_at c.args.reader.now c.args.cell c.requires (value_of c.args.macros.now) Hash (sym c.class_of-class.ensures ∙ c.in-Hash.is)
    ∙ ap (λ t. (None, beyond is_in_line t)) (sym c.advance.ensures)
    ∙ ap (λ t. (None, t)) (sym c.skip_line.ensures)

pub returns-in-Newline-clause-step : goal.returns-in-Newline-clause-step
returns-in-Newline-clause-step c =
    step_at c.args.reader.now c.args.cell c.requires (value_of c.args.macros.now) Newline (sym c.class_of-class.ensures ∙ c.in-Newline.is)
    ∙ (λ i. (Some (token kinds.Newline (sym c.new.ensures.items i) c.args.cell.place), sym c.advance.ensures i))
    ∙ ap (λ t. (Some t, c.advance.new.self)) (sym c.token.ensures)

pub returns-in_ok-text-in-Sign-clause-step : goal.returns-in_ok-text-in-Sign-clause-step
returns-in_ok-text-in-Sign-clause-step c =
    step_at c.args.reader.now c.args.cell c.requires (value_of c.args.macros.now) Sign (sym c.class_of-class.ensures ∙ c.in-Sign.is)
    ∙ (λ i. (Some (token kinds.Sign (sym c.in_ok-text-in-Sign.ensures.items i) c.args.cell.place), sym c.advance.ensures i))
    ∙ ap (λ t. (Some t, c.advance.new.self)) (sym c.token-in-Sign.ensures)

pub returns-in_ok-lexeme-in-Quote-clause-step : goal.returns-in_ok-lexeme-in-Quote-clause-step
returns-in_ok-lexeme-in-Quote-clause-step c =
    step_at c.args.reader.now c.args.cell c.requires (value_of c.args.macros.now) Quote (sym c.class_of-class.ensures ∙ c.in-Quote.is)
    ∙ ap (λ t. quoted_step c.args.cell.place (quoted_from c.args.cell.byte t)) (sym c.advance.ensures)
    ∙ c.in_ok-lexeme-in-Quote.ensures

pub returns-in_ok-take_word-in-Plain-clause-step : goal.returns-in_ok-take_word-in-Plain-clause-step
returns-in_ok-take_word-in-Plain-clause-step c =
    let text = c.in_ok-take_word-in-Plain.ensures.text ∙ ap (λ t. t ++ bytes_of (front is_word_byte c.advance.new.self)) c.in_ok-text-in-Plain.ensures.items in
    step_at c.args.reader.now c.args.cell c.requires (value_of c.args.macros.now) Plain (sym c.class_of-class.ensures ∙ c.in-Plain.is)
    ∙ ap (λ t. (Some (token kinds.Word (c.args.cell.byte ∷ bytes_of (front is_word_byte t)) c.args.cell.place), beyond is_word_byte t)) (sym c.advance.ensures)
    ∙ (λ i. (Some (token kinds.Word (sym text i) c.args.cell.place), sym c.in_ok-take_word-in-Plain.ensures.rest i))
    ∙ ap (λ t. (Some t, c.take_word.new.self)) (sym c.token-in-Plain.ensures)

pub returns-in-Bad-clause-step : goal.returns-in-Bad-clause-step
returns-in-Bad-clause-step c =
    step_at c.args.reader.now c.args.cell c.requires (value_of c.args.macros.now) Bad (sym c.class_of-class.ensures ∙ c.in-Bad.is)
    ∙ ap (λ t. (Some (fault causes.BadByte c.args.cell.place), t)) (sym c.advance.ensures)

pub returns-in-Hash-clause-lighter : goal.returns-in-Hash-clause-lighter
returns-in-Hash-clause-lighter c =
    let passed = weight_passed c.args.reader.now c.args.cell c.requires in
    omega (arith, weight_beyond is_in_line c.advance.new.self, ap weight c.advance.ensures, ap weight (c.skip_line.ensures))

pub returns-in_ok-take_word-in-Plain-clause-lighter : goal.returns-in_ok-take_word-in-Plain-clause-lighter
returns-in_ok-take_word-in-Plain-clause-lighter c =
    let passed = weight_passed c.args.reader.now c.args.cell c.requires in
    omega (arith, weight_beyond is_word_byte c.advance.new.self, ap weight c.advance.ensures, ap weight (c.in_ok-take_word-in-Plain.ensures.rest))

pub returns-in_ok-lexeme-in-Quote-clause-lighter : goal.returns-in_ok-lexeme-in-Quote-clause-lighter
returns-in_ok-lexeme-in-Quote-clause-lighter c =
    let passed = weight_passed c.args.reader.now c.args.cell c.requires in
    omega (arith, weight_quoted c.args.cell.byte c.advance.new.self, ap weight c.advance.ensures, ap weight (sym (ap (λ (p : Step). p.1) c.in_ok-lexeme-in-Quote.ensures)))
