use Rattle.std.proofs.Common.{ap, Ok}
use Rattle.pf_addr.specs.declared.addr.Addr.TheVariants.{V4, V6}
use Rattle.pf_addr.proofs.Values.{IsAddrText-unique}
use Rattle.pf_addr.proofs.parse.parse_addr.Goals as goal

pub returns-in-Some-clause-only : goal.returns-in-Some-clause-only
returns-in-Some-clause-only c a h = ap Ok (IsAddrText-unique _ (V4 c.in-Some.bits) a c.in-Some.ensures h)

pub returns-in-Some-clause-not_an_address : goal.returns-in-Some-clause-not_an_address
returns-in-Some-clause-not_an_address c = (λ e. absurd cc, λ none. absurd (none (V4 c.in-Some.bits) c.in-Some.ensures))

pub returns-in-Some-parse_ipv6-clause-only : goal.returns-in-Some-parse_ipv6-clause-only
returns-in-Some-parse_ipv6-clause-only c a h =
    ap Ok (IsAddrText-unique _ (V6 c.in-Some-parse_ipv6.bits) a c.in-Some-parse_ipv6.ensures h)

pub returns-in-Some-parse_ipv6-clause-not_an_address : goal.returns-in-Some-parse_ipv6-clause-not_an_address
returns-in-Some-parse_ipv6-clause-not_an_address c =
    (λ e. absurd cc, λ none. absurd (none (V6 c.in-Some-parse_ipv6.bits) c.in-Some-parse_ipv6.ensures))
