-- The tokens so far with those of the rest are all, and a text has one list of tokens.
use Rattle.std.proofs.Common.{◌++◌, ◌∷◌, [], sym, ap, ◌∙◌, subst, append-nil, append_assoc}
use Rattle.pf_token.specs.Cells.{cells_from}
use Rattle.pf_token.specs.Macros.{value_of}
use Rattle.pf_token.specs.Pieces.{Reads}
use Rattle.pf_token.proofs.Tokens.{reads_one}
use Rattle.pf_token.proofs.lexemes.tokens_of.Goals as goal
use Rattle.pf_token.proofs.lexemes.tokens_of.Goals.{After-drop-reader-inside-3}

pub loop-reader-preserved : goal.loop-reader-preserved
loop-reader-preserved c = λ rest read.
    let next = rw c.in-Some.is at c.in_ok-lexeme.ensures.next in
    let more = c.loop-reader.invariant (c.in-Some.lexeme ∷ rest) (Reads.next next read) in
    subst (Reads (value_of c.args.macros.now) (cells_from (record { file = c.args.file; line = 1 }) c.args.text))
    (sym (append_assoc c.loop-reader.found.items (c.in-Some.lexeme ∷ []) rest) ∙ ap (λ t. t ++ rest) (sym c.in_ok-push.ensures.items)) more

pub returns-clause-reads : goal.returns-clause-reads
returns-clause-reads c =
    let none = rw c.in_default.is at c.in_ok-lexeme.ensures.next in
    subst (Reads (value_of c.args.macros.now) (cells_from (record { file = c.args.file; line = 1 }) c.args.text))
    (append-nil c.loop-reader.found.items) (c.loop-reader.invariant [] (Reads.ended none.0))

pub returns-clause-only : goal.returns-clause-only
returns-clause-only c = λ others read. reads_one (value_of c.args.macros.now) (returns-clause-reads c) read
