use Rattle.std.proofs.Common.{◌≡◌, ◌≤◌, arith, length}
use Rattle.std.specs.FinMap as finite
use Rattle.pf_shelf.specs.Change.{having}
use Rattle.pf_shelf.proofs.Counted.{common_fits}
use Rattle.pf_shelf.proofs.Told.{replaced_done}
use Rattle.pf_shelf.proofs.alter.replace_by.Goals as goal

pub overflow_sub-counts : goal.overflow_sub-counts
overflow_sub-counts c =
    let fits = common_fits c.args.table.now c.in_ok-next.next in
    let common : c.in_ok-common.common ≡ length (having c.in_ok-next.next c.args.table.now) = c.in_ok-common.ensures in
    let new : c.len-2.result ≡ finite.len c.in_ok-next.next = c.len-2.ensures in
    omega arith

pub overflow_sub-counts-2 : goal.overflow_sub-counts-2
overflow_sub-counts-2 c =
    let fits = common_fits c.args.table.now c.in_ok-next.next in
    let common : c.in_ok-common.common ≡ length (having c.in_ok-next.next c.args.table.now) = c.in_ok-common.ensures in
    let old : c.len-3.result ≡ finite.len c.args.table.now = c.len-3.ensures in
    omega arith

pub returns : goal.returns
returns c =
    let one : c.len.result ≡ finite.len c.in_ok-next.next = c.len.ensures in
    let two : c.len-2.result ≡ finite.len c.in_ok-next.next = c.len-2.ensures in
    let room : c.len.result ≤ c.args.room = c.in_ok-fit.ensures.room in
    let most : c.len.result ≤ c.args.most = c.in_ok-fit.ensures.most in
    replaced_done c.args.table.now c.in_ok-next.next c.args.words.now c.args.room c.args.most c.in_ok-common.common c.len-2.result c.len-3.result c.in_ok-next.ensures c.in_ok-common.ensures c.len-2.ensures c.len-3.ensures (omega arith) (omega arith)
