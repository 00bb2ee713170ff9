use Rattle.pf_reply.proofs.Pieces.{four}
use Rattle.pf_reply.proofs.refusal.put_stale.Goals as goal

pub returns-clause-ok : goal.returns-clause-ok
returns-clause-ok c = four _ _ _ _ _ _ _ _ _ c.in_ok-put.ensures.ok c.in_ok-put_path.ensures.ok c.in_ok-put_numbered.ensures.ok c.in_ok-put_numbered-2.ensures.ok
