use Rattle.pf_cover.proofs.Covering.{covers_hits, covers_itself, covers_join}
use Rattle.pf_cover.proofs.laws.covering_rules_match_more.Goals as goal

pub returns : goal.returns
returns c = record {
  hits = λ around wide narrow walk.
      covers_hits (record { prefixes = c.stretches_have_the_addresses.ensures.prefixes; ranges = c.stretches_have_the_addresses.ensures.ranges })
      around walk.packet walk.tag wide.criteria narrow.criteria;
  itself = covers_itself;
  joins = covers_join;
}
