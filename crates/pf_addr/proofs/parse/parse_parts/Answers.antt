use Rattle.pf_addr.proofs.Texts.{masked_parts}
use Rattle.pf_addr.proofs.parse.parse_parts.Goals as goal

pub returns-in_err-parse_network : goal.returns-in_err-parse_network
returns-in_err-parse_network c =
    rw c.from_residual.ensures λ a n h.
    c.in_err-parse_network.ensures a (masked_parts c.args.front.now c.args.digits.now a n h).0

pub returns-in_err-parse_mask : goal.returns-in_err-parse_mask
returns-in_err-parse_mask c =
    rw c.from_residual-in_err-parse_mask.ensures λ a n h.
    c.in_err-parse_mask.ensures n (masked_parts c.args.front.now c.args.digits.now a n h).1
