use Rattle.pf_addr.proofs.Prefixes.{prefix_only, prefix_too_long}
use Rattle.pf_addr.proofs.parse.parse_prefix.Goals as goal

pub returns-in-Some-clause-only : goal.returns-in-Some-clause-only
returns-in-Some-clause-only c =
    prefix_only _ c.in-Some.addr c.in-Some.len _ c.in-Some.ensures c.prefix_of.ensures.ok c.prefix_of.ensures.too_long

pub returns-in-Some-clause-too_long : goal.returns-in-Some-clause-too_long
returns-in-Some-clause-too_long c =
    prefix_too_long _ c.in-Some.addr c.in-Some.len _ c.in-Some.ensures c.prefix_of.ensures.ok c.prefix_of.ensures.too_long

pub returns-in-None-clause-only : goal.returns-in-None-clause-only
returns-in-None-clause-only c p h = absurd (c.in-None.ensures h.addr p.len h.writes)

pub returns-in-None-clause-too_long : goal.returns-in-None-clause-too_long
returns-in-None-clause-too_long c n = (λ e. absurd cc, λ h. absurd (c.in-None.ensures h.addr n h.writes))
