-- The lemmas on cuts.
use Rattle.std.proofs.Common.{◌∷◌, ap, ◌∙◌}
use Rattle.pf_base.specs.CutLaws.{first_of_position, none_of_position, split_at_first, split_none}
use Rattle.pf_base.proofs.Words.{one_word, empty_has_none}
use Rattle.pf_base.proofs.text.cut_laws.Goals as goal

pub returns-clause-first : goal.returns-clause-first
returns-clause-first c p text i h = first_of_position p text i 0 h

pub returns-clause-none : goal.returns-clause-none
returns-clause-none c p text h = none_of_position p text h

pub returns-clause-split : goal.returns-clause-split
returns-clause-split c p front back byte none h = split_at_first p front byte back none h

pub returns-clause-whole : goal.returns-clause-whole
returns-clause-whole c p text none = split_none p text none

pub returns-clause-word : goal.returns-clause-word
returns-clause-word c byte text none = one_word byte text none ∙ ap (λ ws. (byte ∷ text) ∷ ws) empty_has_none
