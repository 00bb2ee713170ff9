use Rattle.std.proofs.Common.{append_assoc}
use Rattle.pf_parts.specs.BlockText.{block_text}
use Rattle.pf_parts.proofs.block_text.put_icmp.Goals as goal

pub returns-clause-ok : goal.returns-clause-ok
unfolding block_text
returns-clause-ok c =
    rw (c.in_ok-put.ensures.ok, c.in_ok-put_numbered-2.ensures.ok, c.in_ok-put_numbered.ensures.ok, c.from.ensures, c.from-2.ensures)
    (simp append_assoc)
