use Rattle.std.proofs.Common.{length}
use Rattle.pf_load.proofs.Fitting.{lines_stay, queue_stays}
use Rattle.pf_load.proofs.statement.take_decl.Goals as goal

pub returns-in-Table-clause-means : goal.returns-in-Table-clause-means
returns-in-Table-clause-means g c = rw c.in-Table.is c.take_table.ensures.means

pub returns-in_ok-draft-in-Queue-clause-places : goal.returns-in_ok-draft-in-Queue-clause-places
returns-in_ok-draft-in-Queue-clause-places g c = λ so. c.in_ok-draft-in-Queue.ensures.within (length c.args.reads.now.names) so c.requires.place

pub returns-in_ok-draft-in-Set-clause-fit : goal.returns-in_ok-draft-in-Set-clause-fit
returns-in_ok-draft-in-Set-clause-fit g c = lines_stay c.args.draft c.in_ok-draft-in-Set.draft c.in-Set.lines c.in_ok-draft-in-Set.ensures.laid

pub returns-in_ok-draft-in-Queue-clause-fit : goal.returns-in_ok-draft-in-Queue-clause-fit
returns-in_ok-draft-in-Queue-clause-fit g c = queue_stays c.args.draft c.in_ok-draft-in-Queue.draft _ c.in_ok-draft-in-Queue.ensures.laid
