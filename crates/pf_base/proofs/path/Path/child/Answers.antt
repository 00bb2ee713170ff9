use Rattle.std.proofs.Common.{sym, ap, ◌∙◌}
use Rattle.pf_base.specs.Path.{is_path_name}
use Rattle.pf_base.proofs.PathGrammar.{written_named}
use Rattle.pf_base.proofs.path.Path.child.Goals as goal

pub push-requires-clause-named : goal.push-requires-clause-named
push-requires-clause-named c =
    written_named _ c.bytes.ensures.text (ap is_path_name (sym c.bytes.ensures.same) ∙ sym c.is_path_name.ensures ∙ c.if-not-is_path_name.false)
