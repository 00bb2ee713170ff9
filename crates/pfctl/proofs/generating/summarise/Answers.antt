use Rattle.std.proofs.lemmas.Result.{err_from_is_err_and}
use Rattle.pfctl.proofs.Counting.{bytes_of}
use Rattle.pfctl.proofs.Sessions.{sent_reply}
use Rattle.pfctl.proofs.Summaries.{cut_summary, whole_summary}
use Rattle.pfctl.proofs.generating.summarise.Goals as goal

pub returns-in_err-send-clause-means : goal.returns-in_err-send-clause-means
returns-in_err-send-clause-means g c =
    let p = err_from_is_err_and c.from_residual-in_err-send.result c.from_residual-in_err-send.ensures.1 in
    let bytes = c.put_summary.new.out.items in
    let h = bytes_of c.args.number c.in_ok-summary.summary c.new-reply.result.items bytes c.in_ok-summary.ensures c.new-reply.ensures.items c.in_ok-put_summary.ensures in
    rw (p.1, p.2) (λ files source. cut_summary c.args.number files source (g.W.Sink.tells c.args.out.now) (g.W.Sink.tells c.send.new.out) bytes h c.in_err-send.field-0.0 c.in_err-send.ensures.tried (sent_reply c.as_slice.result.now bytes (g.W.Sink.tells c.args.out.now) (g.W.Sink.tells c.send.new.out) c.in_err-send.field-0.0 c.as_slice.ensures.value c.in_err-send.ensures.sends))

pub returns-clause-means : goal.returns-clause-means
returns-clause-means g c =
    let bytes = c.put_summary.new.out.items in
    let h = bytes_of c.args.number c.in_ok-summary.summary c.new-reply.result.items bytes c.in_ok-summary.ensures c.new-reply.ensures.items c.in_ok-put_summary.ensures in
    λ files source. whole_summary c.args.number files source (g.W.Sink.tells c.args.out.now) (g.W.Sink.tells c.send.new.out) bytes h
    (rw c.as_slice.ensures.value at c.in_ok-send.ensures.sent) (rw c.as_slice.ensures.value at c.in_ok-send.ensures.sends)
