-- The place of the name in the list.
use Rattle.std.proofs.Common.{ℕ, List, sym, ap, ◌∙◌}
use Rattle.std.specs.Prelude.{position}
use Rattle.std.specs.Str.{bytes_eq}
use Rattle.pf_lexer.specs.ReadSoFar.{ReadSoFar}
use Rattle.pf_lexer.proofs.Numbers.{named_at}
use Rattle.pf_lexer.proofs.reads.Reads.number.Goals as goal

pub returns-clause-named : goal.returns-clause-named
returns-clause-named c =
    named_at c.args.self.now.names c.args.name.now c.in_ok-number.number
    (sym (c.in_ok-number.ensures
    ∙ ap (λ (name : List ℕ). position (bytes_eq name) c.self.inside.names.keys) c.items.ensures
    ∙ ap (λ (reads : ReadSoFar). position (bytes_eq c.args.name.now) reads.names) c.self.view_is))
