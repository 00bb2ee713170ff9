use Rattle.std.proofs.Common.{append_assoc}
use Rattle.pf_parts.proofs.item.put_rate.Goals as goal

pub returns-clause-ok : goal.returns-clause-ok
returns-clause-ok c = rw (c.in_ok-put_numbered-2.ensures.ok, c.in_ok-put_numbered.ensures.ok) (simp append_assoc)
