use Rattle.pf_addr.proofs.Prefixes.{masked_only, masked_too_long}
use Rattle.pf_addr.proofs.parse.parse_masked.Goals as goal

pub returns-in-Some-clause-only : goal.returns-in-Some-clause-only
returns-in-Some-clause-only c =
    masked_only _ c.in-Some.addr c.in-Some.len _ c.in-Some.ensures c.masked_of.ensures.ok c.masked_of.ensures.too_long

pub returns-in-Some-clause-too_long : goal.returns-in-Some-clause-too_long
returns-in-Some-clause-too_long c =
    masked_too_long _ c.in-Some.addr c.in-Some.len _ c.in-Some.ensures c.masked_of.ensures.ok c.masked_of.ensures.too_long

pub returns-in-None-clause-only : goal.returns-in-None-clause-only
returns-in-None-clause-only c m h = absurd (c.in-None.ensures m.addr m.network.len h.masked)

pub returns-in-None-clause-too_long : goal.returns-in-None-clause-too_long
returns-in-None-clause-too_long c n = (λ e. absurd cc, λ h. absurd (c.in-None.ensures h.addr n h.masked))
