-- No more list braces are open than there are tokens.
use Rattle.std.proofs.Common.{arith}
use Rattle.pf_lexer.proofs.TakingLemmas.{depth_bound}
use Rattle.pf_lexer.proofs.statement.StatementFront.push.Goals as goal

pub depth_after-depth-requires : goal.depth_after-depth-requires
depth_after-depth-requires c = omega (arith, depth_bound c.args.self.now.lexemes.items, c.args.self.now.counted)
