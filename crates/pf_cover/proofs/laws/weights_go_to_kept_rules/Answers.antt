use Rattle.pf_cover.proofs.Keeping.{kept_length, kept_total}
use Rattle.pf_cover.proofs.laws.weights_go_to_kept_rules.Goals as goal

pub returns : goal.returns
returns c = record { each = kept_length; total = kept_total }
