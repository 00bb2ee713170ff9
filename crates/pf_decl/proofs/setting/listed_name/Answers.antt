use Rattle.std.proofs.Common.{sym, ◌∙◌}
use Rattle.pf_decl.proofs.WordLemmas.{found_name}
use Rattle.pf_decl.proofs.setting.listed_name.Goals as goal

pub returns-then-is_one_of : goal.returns-then-is_one_of
returns-then-is_one_of c =
    found_name _ c.args.word.now c.new.result c.requires (sym c.is_one_of.ensures ∙ c.if-is_one_of.true) c.new.ensures.some c.new.ensures.same
