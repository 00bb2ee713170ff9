use Rattle.std.proofs.Common.{ap, sym, ◌∙◌}
use Rattle.std.proofs.lemmas.Result.{err_from_is_err_and}
use Rattle.pf_parts.proofs.CallReads.{pieces_read}
use Rattle.pf_parts.specs.CallText.{base_up, call_from}
use Rattle.pf_parts.proofs.call_text.read_pieces.Goals as goal

pub returns-in_err-path : goal.returns-in_err-path
returns-in_err-path c =
    let p = err_from_is_err_and c.from_residual.result c.from_residual.ensures.1 in
    let cut = c.split_ups-ups in
    rw (p.1, p.2)
    (ap (λ path. call_from path (base_up cut.result.0) c.args.children) c.in_err-path.ensures
    ∙ sym (pieces_read _ _ cut.result.0 c.args.children cut.ensures.pieces cut.ensures.last))

pub returns-in_err-base : goal.returns-in_err-base
returns-in_err-base c =
    let p = err_from_is_err_and c.from_residual-in_err-base.result c.from_residual-in_err-base.ensures.1 in
    let cut = c.split_ups-ups in
    rw (p.1, p.2)
    ((λ i. call_from (c.in_ok-path.ensures i) (c.in_err-base.ensures i) c.args.children)
    ∙ sym (pieces_read _ _ cut.result.0 c.args.children cut.ensures.pieces cut.ensures.last))

pub returns : goal.returns
returns c =
    let cut = c.split_ups-ups in
    (λ i. call_from (c.in_ok-path.ensures i) (c.in_ok-base.ensures i) c.args.children)
    ∙ sym (pieces_read _ _ cut.result.0 c.args.children cut.ensures.pieces cut.ensures.last)
