use Rattle.std.proofs.Common.{◌≡◌, ◌+◌, ◌≤◌, arith}
use Rattle.std.proofs.lemmas.Result.{err_from_is_err_and}
use Rattle.std.specs.FinMap as finite
use Rattle.pf_shelf.proofs.Told.{added_apart, added_done, added_len, refused}
use Rattle.pf_shelf.proofs.alter.add_words.Goals as goal

pub returns-in_err-fit : goal.returns-in_err-fit
returns-in_err-fit c =
    let p = err_from_is_err_and c.from_residual-in_err-fit.result c.from_residual-in_err-fit.ensures.1 in
    let more = added_len c.args.table.now c.in_ok-fresh.fresh c.args.words.now c.in_ok-fresh.ensures in
    let count : c.in-Some.count ≡ c.len.result + c.len-added.result = c.in-Some.ensures.1 in
    let old : c.len.result ≡ finite.len c.args.table.now = c.len.ensures in
    let fresh : c.len-added.result ≡ finite.len c.in_ok-fresh.fresh = c.len-added.ensures in
    rw (p.1, p.2) (refused _ _ _ _ c.in-Some.count _ (λ i. c.args.table.now) (omega arith) c.in_err-fit.ensures.err)

pub add_all-requires : goal.add_all-requires
add_all-requires c = added_apart c.args.table.now c.in_ok-fresh.fresh c.args.words.now c.in_ok-fresh.ensures

pub returns : goal.returns
returns c =
    let count : c.in-Some.count ≡ c.len.result + c.len-added.result = c.in-Some.ensures.1 in
    let old : c.len.result ≡ finite.len c.args.table.now = c.len.ensures in
    let room : c.in-Some.count ≤ c.args.room = c.in_ok-fit.ensures.room in
    let most : c.in-Some.count ≤ c.args.most = c.in_ok-fit.ensures.most in
    added_done c.args.table.now c.in_ok-fresh.fresh c.args.words.now c.in_ok-fresh.ensures c.add_all.new.table c.args.room c.args.most c.len-added.result c.in_ok-add_all.ensures.ok c.len-added.ensures (omega arith) (omega arith)
