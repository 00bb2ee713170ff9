use Rattle.pf_rule.proofs.FieldLemmas.{missed_alike, tested_alike}
use Rattle.pf_rule.proofs.field.equal_fields_test_alike.Goals as goal

pub returns : goal.returns
returns c = record { alike = tested_alike; missed = missed_alike }
