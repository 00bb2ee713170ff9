use Rattle.pf_shelf.proofs.Told.{flushed_done}
use Rattle.pf_shelf.proofs.alter.alter.Goals as goal

pub returns-in-Flush : goal.returns-in-Flush
returns-in-Flush c = rw c.in-Flush.is (flushed_done c.args.table.now c.flush.new.table c.args.room c.args.most c.flush.result c.args.words.now c.flush.ensures.after c.flush.ensures.counts)
