use Rattle.pf_expand.proofs.readings.read_translations.Goals as goal

pub returns : goal.returns
returns c = (c.in_ok-nat.ensures, c.in_ok-rdr.ensures)
