use Rattle.std.proofs.Common.{append_assoc}
use Rattle.std.proofs.lemmas.Bool.{ne_eqb}
use Rattle.pf_parts.specs.BlockText.{block_text}
use Rattle.pf_parts.proofs.block_text.put_reset.Goals as goal

pub returns-in_ok-put-2-clause-ok : goal.returns-in_ok-put-2-clause-ok
unfolding block_text
returns-in_ok-put-2-clause-ok c =
    rw (ne_eqb c.args.ttl 0 c.if-ttl-eq0.false, c.in_ok-put-2.ensures.ok, c.in_ok-put_numbered.ensures.ok, c.from.ensures) (simp append_assoc)
