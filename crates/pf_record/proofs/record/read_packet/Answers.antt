use Rattle.std.proofs.lemmas.Result.{err_from_is_err_and}
use Rattle.pf_record.specs.Record.{IsReadAs}
use Rattle.pf_record.proofs.OneReading.{one_reading}
use Rattle.pf_record.proofs.ReadLemmas.{IsFaulty-head, IsFaulty-keys, IsRecord-read, source_one, target_one}
use Rattle.pf_record.proofs.record.read_packet.Goals as goal

pub returns-in_err-start-clause-only : goal.returns-in_err-start-clause-only
returns-in_err-start-clause-only c other reads =
    let head = c.read-head.ensures in
    let p = err_from_is_err_and c.from_residual.result c.from_residual.ensures.1 in
    let mine : IsReadAs c.args.text.now c.from_residual.result =
    rw (p.1, p.2) (IsFaulty-head _ _ c.read-head.result.0 _ head (c.in_err-start.ensures.fault _)) in
    one_reading _ _ other (source_one _ _ _ head) (target_one _ _ _ head) mine reads

pub returns-in_err-packet-clause-reads : goal.returns-in_err-packet-clause-reads
returns-in_err-packet-clause-reads c =
    let p = err_from_is_err_and c.from_residual-in_err-packet.result c.from_residual-in_err-packet.ensures.1 in
    rw (p.1, p.2) (IsFaulty-keys _ _ _ _ _ _ _ c.read-head.ensures c.in_ok-start.ensures.starts c.cut.ensures c.in_err-packet.ensures.fault)

pub returns-in_err-packet-clause-only : goal.returns-in_err-packet-clause-only
returns-in_err-packet-clause-only c other reads =
    let head = c.read-head.ensures in
    let p = err_from_is_err_and c.from_residual-in_err-packet.result c.from_residual-in_err-packet.ensures.1 in
    let mine : IsReadAs c.args.text.now c.from_residual-in_err-packet.result =
    rw (p.1, p.2) (IsFaulty-keys _ _ _ _ _ _ _ head c.in_ok-start.ensures.starts c.cut.ensures c.in_err-packet.ensures.fault) in
    one_reading _ _ other (source_one _ _ _ head) (target_one _ _ _ head) mine reads

pub returns-clause-reads : goal.returns-clause-reads
returns-clause-reads c =
    IsRecord-read _ _ _ _ _ _ _ c.read-head.ensures c.in_ok-start.ensures.starts c.cut.ensures c.in_ok-packet.ensures.packet

pub returns-clause-only : goal.returns-clause-only
returns-clause-only c other reads =
    let head = c.read-head.ensures in
    one_reading _ _ other (source_one _ _ _ head) (target_one _ _ _ head)
    (IsRecord-read _ _ _ _ _ _ _ head c.in_ok-start.ensures.starts c.cut.ensures c.in_ok-packet.ensures.packet) reads
