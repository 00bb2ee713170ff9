use Rattle.std.proofs.Common.{drop}
use Rattle.pf_base.proofs.Decimals.{ReadsTo}
use Rattle.pf_base.proofs.text.read_decimal.Given as goal

-- the digits so far make the value
abbrev pub invariant-loop-byte : goal.invariant-loop-byte
invariant-loop-byte l = ReadsTo l.most l.value l.text (drop l.byte-index l.text)
