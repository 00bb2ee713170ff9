use Rattle.pf_addr.proofs.Printed.{IsPrefixText-prefix_text}
use Rattle.pf_addr.proofs.print.put_prefix.Goals as goal

pub returns-in_err-extend_from_slice-clause-reads_back : goal.returns-in_err-extend_from_slice-clause-reads_back
returns-in_err-extend_from_slice-clause-reads_back c = IsPrefixText-prefix_text c.args.prefix.now c.line_of-line.ensures.range

pub returns-clause-reads_back : goal.returns-clause-reads_back
returns-clause-reads_back c = IsPrefixText-prefix_text c.args.prefix.now c.line_of-line.ensures.range
