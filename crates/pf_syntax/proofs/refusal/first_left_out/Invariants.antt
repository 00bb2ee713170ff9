use Rattle.std.proofs.Common.{◌≡◌, drop}
use Rattle.pf_syntax.specs.Fault.{first_left_out}
use Rattle.pf_syntax.specs.Symbols.{symbols}
use Rattle.pf_syntax.proofs.refusal.first_left_out.Given as goal

-- the tokens that are left have the first such word of all
abbrev pub invariant-loop-token : goal.invariant-loop-token
invariant-loop-token l = first_left_out (symbols (drop l.token-index l.tokens)) ≡ first_left_out (symbols l.tokens)
