-- Each kind of cell between quotes.
use Rattle.std.proofs.Common.{sym, ap, ◌∙◌, ◌∷◌, []}
use Rattle.std.proofs.lemmas.Bool.{ne_eqb, eq-eqb}
use Rattle.pf_token.specs.Bytes.{class_of, is_known}
use Rattle.pf_token.specs.Reading.{quoted_from, prepended}
use Rattle.pf_token.proofs.QuotedLemmas.{quoted_closed, quoted_dropped, quoted_kept, no_slash, no_escapable, no_next, escape_goes_on}
use Rattle.pf_token.proofs.strings.string_part.Goals as goal

pub returns-then-cell-quote-clause-goes_on : goal.returns-then-cell-quote-clause-goes_on
returns-then-cell-quote-clause-goes_on c = quoted_closed c.args.quote c.args.cell c.args.reader.now (eq-eqb _ _ c.if-cell-quote.true)

pub returns-then-cell-eq10-clause-goes_on : goal.returns-then-cell-eq10-clause-goes_on
returns-then-cell-eq10-clause-goes_on c =
    quoted_dropped c.args.quote c.args.cell c.args.reader.now (ne_eqb _ _ c.if-cell-quote.false) (eq-eqb _ _ c.if-cell-eq10.true)

pub returns-then-is_escapable-clause-goes_on : goal.returns-then-is_escapable-clause-goes_on
returns-then-is_escapable-clause-goes_on c =
    escape_goes_on c.args.quote c.args.cell c.in-Some.next c.args.reader.now c.requires (eq-eqb _ _ c.if-cell-eq92.true) (sym c.in-Some.is ∙ c.peek.ensures) (sym c.is_escapable.ensures ∙ c.if-is_escapable.true)
    ∙ ap (λ t. prepended (c.in-Some.next.byte ∷ []) (is_known (class_of c.in-Some.next.byte)) (quoted_from c.args.quote t)) (sym c.advance.ensures)

pub returns-else-is_escapable-clause-goes_on : goal.returns-else-is_escapable-clause-goes_on
returns-else-is_escapable-clause-goes_on c =
    quoted_kept c.args.quote c.args.cell c.args.reader.now (ne_eqb _ _ c.if-cell-quote.false) (ne_eqb _ _ c.if-cell-eq10.false)
    (no_escapable c.args.quote c.args.cell c.in-Some.next c.args.reader.now (sym c.in-Some.is ∙ c.peek.ensures) (sym c.is_escapable.ensures ∙ c.if-is_escapable.false))

pub returns-in_default-clause-goes_on : goal.returns-in_default-clause-goes_on
returns-in_default-clause-goes_on c =
    quoted_kept c.args.quote c.args.cell c.args.reader.now (ne_eqb _ _ c.if-cell-quote.false) (ne_eqb _ _ c.if-cell-eq10.false)
    (no_next c.args.quote c.args.cell c.args.reader.now (sym c.in_default.is ∙ c.peek.ensures))

pub returns-else-cell-eq92-clause-goes_on : goal.returns-else-cell-eq92-clause-goes_on
returns-else-cell-eq92-clause-goes_on c =
    quoted_kept c.args.quote c.args.cell c.args.reader.now (ne_eqb _ _ c.if-cell-quote.false) (ne_eqb _ _ c.if-cell-eq10.false)
    (no_slash c.args.quote c.args.cell c.args.reader.now (ne_eqb _ _ c.if-cell-eq92.false))
