use Rattle.std.proofs.Common.{ap, ◌∙◌, ◌++◌}
use Rattle.pf_parts.specs.CallPieces.{pieces_text, some_behind}
use Rattle.pf_parts.specs.CallText.{base_pieces, last_pieces}
use Rattle.pf_parts.proofs.CallPrints.{all_joined}
use Rattle.pf_parts.proofs.call_text.put_pieces.Goals as goal

pub returns-clause-ok : goal.returns-clause-ok
returns-clause-ok c =
    let call = c.args.call.now in
    let base = c.in_ok-some.ensures.ok in
    all_joined c.args.out.now.items _ _ _ (base_pieces call.base) call.path (last_pieces call.children) c.in_ok-some.some c.some_behind.result
    base.0 base.1
    (c.in_ok-put_names.ensures.ok ∙ ap (λ names. c.put_base.new.out.items ++ pieces_text c.in_ok-some.some names) c.names-names.ensures.same)
    (c.some_behind.ensures ∙ ap (some_behind c.in_ok-some.some) c.names-names.ensures.same)
    c.in_ok-put_last.ensures.ok
