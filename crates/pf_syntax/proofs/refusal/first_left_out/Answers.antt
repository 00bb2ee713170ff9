use Rattle.std.proofs.Common.{sym, ◌∙◌}
use Rattle.pf_syntax.proofs.Refusals.{left_out_some}
use Rattle.pf_syntax.proofs.refusal.first_left_out.Goals as goal

-- such a word has a byte
pub returns-then-is_left_out-clause-some : goal.returns-then-is_left_out-clause-some
returns-then-is_left_out-clause-some c = left_out_some c.in-Some.word.now (sym c.is_left_out.ensures ∙ c.if-is_left_out.true)
