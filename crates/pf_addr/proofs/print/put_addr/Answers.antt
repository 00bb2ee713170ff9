use Rattle.pf_addr.proofs.Printed.{IsAddrText-addr_text, IsShortest-addr_text}
use Rattle.pf_addr.proofs.print.put_addr.Goals as goal

pub returns-in_err-extend_from_slice-clause-reads_back : goal.returns-in_err-extend_from_slice-clause-reads_back
returns-in_err-extend_from_slice-clause-reads_back c = IsAddrText-addr_text c.args.addr.now c.line_of.ensures.range

pub returns-in_err-extend_from_slice-clause-shortest : goal.returns-in_err-extend_from_slice-clause-shortest
returns-in_err-extend_from_slice-clause-shortest c = IsShortest-addr_text c.args.addr.now

pub returns-clause-reads_back : goal.returns-clause-reads_back
returns-clause-reads_back c = IsAddrText-addr_text c.args.addr.now c.line_of.ensures.range

pub returns-clause-shortest : goal.returns-clause-shortest
returns-clause-shortest c = IsShortest-addr_text c.args.addr.now
