use Rattle.pf_rule.specs.Hit.{hits_at}
use Rattle.pf_cover.proofs.Keeping.{dropped_covered, kept_pass}
use Rattle.pf_cover.proofs.laws.kept_rules_match_together.Goals as goal

pub returns : goal.returns
returns c = record {
  together = λ around rules walk.
      kept_pass (λ rule. hits_at around rule walk) (λ a b. c.covering_rules_match_more.ensures.hits around a b walk) rules;
  covered = dropped_covered;
}
