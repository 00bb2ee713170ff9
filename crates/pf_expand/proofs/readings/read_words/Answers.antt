use Rattle.pf_expand.proofs.readings.read_words.Goals as goal

pub returns : goal.returns
returns c = record {
  protos = c.in_ok-kinds.ensures.0;
  icmp = c.in_ok-kinds.ensures.1.0;
  sources = c.in_ok-ends.ensures.0;
  source_ports = c.in_ok-ends.ensures.1.0;
  targets = c.in_ok-ends.ensures.1.1.0;
  target_ports = c.in_ok-ends.ensures.1.1.1;
  users = c.in_ok-kinds.ensures.1.1.0;
  groups = c.in_ok-kinds.ensures.1.1.1;
  nat = c.in_ok-translations.ensures.0;
  rdr = c.in_ok-translations.ensures.1;
}
