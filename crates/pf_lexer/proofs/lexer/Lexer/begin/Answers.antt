-- Without memory for the name nothing is asked.
use Rattle.std.proofs.lemmas.Result.{err_from_is_err_and}
use Rattle.pf_lexer.proofs.GoingLemmas.{asks_nothing}
use Rattle.pf_lexer.proofs.lexer.Lexer.begin.Goals as goal

pub returns-in_err-asked-clause-asks : goal.returns-in_err-asked-clause-asks
returns-in_err-asked-clause-asks g c =
    let p = err_from_is_err_and c.from_residual.result c.from_residual.ensures.1 in
    rw (p.1, p.2) (asks_nothing (g.F.Files.tells c.args.files.now) c.args.reads.now)
