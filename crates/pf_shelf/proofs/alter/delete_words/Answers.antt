use Rattle.std.proofs.Common.{◌≡◌, ◌-◌, ◌≤◌, ◌∙◌, arith}
use Rattle.std.proofs.lemmas.Result.{err_from_is_err_and}
use Rattle.std.specs.FinMap as finite
use Rattle.pf_shelf.proofs.Told.{deleted_done, deleted_len, refused}
use Rattle.pf_shelf.proofs.alter.delete_words.Goals as goal

pub overflow_sub-len : goal.overflow_sub-len
overflow_sub-len c =
    let less = deleted_len c.args.table.now c.in_ok-held.held c.args.words.now c.in_ok-held.ensures in
    let old : c.len.result ≡ finite.len c.args.table.now = c.len.ensures in
    let gone : c.len-deleted.result ≡ finite.len c.in_ok-held.held = c.len-deleted.ensures in
    omega arith

pub returns-in_err-fit : goal.returns-in_err-fit
returns-in_err-fit c =
    let p = err_from_is_err_and c.from_residual-in_err-fit.result c.from_residual-in_err-fit.ensures.1 in
    let less = deleted_len c.args.table.now c.in_ok-held.held c.args.words.now c.in_ok-held.ensures in
    let old : c.len.result ≡ finite.len c.args.table.now = c.len.ensures in
    let gone : c.len-deleted.result ≡ finite.len c.in_ok-held.held = c.len-deleted.ensures in
    rw (p.1, p.2) (refused _ _ _ _ (c.len.result - c.len-deleted.result) _ (λ i. c.args.table.now) (omega arith) c.in_err-fit.ensures.err)

pub returns : goal.returns
returns c =
    let old : c.len.result ≡ finite.len c.args.table.now = c.len.ensures in
    let room : c.len.result - c.len-deleted.result ≤ c.args.room = c.in_ok-fit.ensures.room in
    let most : c.len.result - c.len-deleted.result ≤ c.args.most = c.in_ok-fit.ensures.most in
    deleted_done c.args.table.now c.in_ok-held.held c.args.words.now c.in_ok-held.ensures c.thin.new.self c.args.room c.args.most c.len-deleted.result (c.thin.ensures ∙ c.remove_each.ensures) c.len-deleted.ensures (omega arith) (omega arith)
