use Rattle.std.proofs.Common.{◌≡◌, ◌+◌, ◌-◌, sym, ap, ◌∙◌, arith}
use Rattle.std.specs.FinMap as finite
use Rattle.pf_base.specs.OrderedMap.{map_of}
use Rattle.pf_shelf.specs.Shelf.{name_cmp, total}
use Rattle.pf_shelf.proofs.Totals.{found_fits}
use Rattle.pf_shelf.proofs.Tables.{is_found, on_err, put_back, same_signs, sum_changed, with_signs}
use Rattle.pf_shelf.proofs.shelf.change_in.Goals as goal

pub returns-then-found-clause-err : goal.returns-then-found-clause-err
returns-then-found-clause-err c =
    let x = c.in-Some.found.now in
    let laws = c.name_map_laws.ensures in
    put_back (map_of name_cmp c.args.tables.now) _ c.args.name.now x x (laws.found c.args.tables.now c.args.name.now ∙ sym c.in-Some.ensures.value) (λ i. x)
    (laws.inserted c.args.tables.now (c.get_mut.follows.lender x) c.args.name.now x ((c.get_mut.follows.holds x).3 (is_found x c.in-Some.ensures.value)))

pub returns-then-found-clause-sum : goal.returns-then-found-clause-sum
returns-then-found-clause-sum c =
    let x = c.in-Some.found.now in
    let laws = c.name_map_laws.ensures in
    c.requires ∙ ap total (sym (put_back (map_of name_cmp c.args.tables.now) _ c.args.name.now x x (laws.found c.args.tables.now c.args.name.now ∙ sym c.in-Some.ensures.value) (λ i. x)
    (laws.inserted c.args.tables.now (c.get_mut.follows.lender x) c.args.name.now x ((c.get_mut.follows.holds x).3 (is_found x c.in-Some.ensures.value)))))

pub overflow_sub-others : goal.overflow_sub-others
overflow_sub-others c =
    let fits = found_fits (map_of name_cmp c.args.tables.now) c.args.name.now c.in-Some.found.now (c.name_map_laws.ensures.found c.args.tables.now c.args.name.now ∙ sym c.in-Some.ensures.value) in
    let len : c.len.result ≡ finite.len c.in-Some.found.now.table = c.len.ensures in
    let sum : c.args.sum.now ≡ total (map_of name_cmp c.args.tables.now) = c.requires in
    omega arith

pub returns-in_err-counts-clause-err : goal.returns-in_err-counts-clause-err
returns-in_err-counts-clause-err c =
    let x = c.in-Some.found.now in
    let w = with_signs x c.alter.new.table in
    let laws = c.name_map_laws.ensures in
    on_err c.from_residual.result
    (put_back (map_of name_cmp c.args.tables.now) _ c.args.name.now x w (laws.found c.args.tables.now c.args.name.now ∙ sym c.in-Some.ensures.value) (same_signs x c.alter.new.table c.in_err-counts.ensures.same)
    (laws.inserted c.args.tables.now (c.get_mut.follows.lender w) c.args.name.now w ((c.get_mut.follows.holds w).3 (is_found x c.in-Some.ensures.value))))

pub returns-in_err-counts-clause-sum : goal.returns-in_err-counts-clause-sum
returns-in_err-counts-clause-sum c =
    let x = c.in-Some.found.now in
    let w = with_signs x c.alter.new.table in
    let laws = c.name_map_laws.ensures in
    c.requires ∙ ap total (sym (put_back (map_of name_cmp c.args.tables.now) _ c.args.name.now x w (laws.found c.args.tables.now c.args.name.now ∙ sym c.in-Some.ensures.value) (same_signs x c.alter.new.table c.in_err-counts.ensures.same)
    (laws.inserted c.args.tables.now (c.get_mut.follows.lender w) c.args.name.now w ((c.get_mut.follows.holds w).3 (is_found x c.in-Some.ensures.value)))))

pub returns-clause-sum : goal.returns-clause-sum
returns-clause-sum c =
    let x = c.in-Some.found.now in
    let w = with_signs x c.alter.new.table in
    let laws = c.name_map_laws.ensures in
    let fits = found_fits (map_of name_cmp c.args.tables.now) c.args.name.now c.in-Some.found.now (c.name_map_laws.ensures.found c.args.tables.now c.args.name.now ∙ sym c.in-Some.ensures.value) in
    let len : c.len.result ≡ finite.len c.in-Some.found.now.table = c.len.ensures in
    let sum : c.args.sum.now ≡ total (map_of name_cmp c.args.tables.now) = c.requires in
    let others : (c.args.sum.now - c.len.result) + c.len.result ≡ c.args.sum.now = omega arith in
    sum_changed (map_of name_cmp c.args.tables.now) _ c.args.name.now x w c.args.sum.now c.len.result c.len-2.result (c.args.sum.now - c.len.result) (laws.found c.args.tables.now c.args.name.now ∙ sym c.in-Some.ensures.value)
    (laws.inserted c.args.tables.now (c.get_mut.follows.lender w) c.args.name.now w ((c.get_mut.follows.holds w).3 (is_found x c.in-Some.ensures.value)))
    c.requires c.len.ensures c.len-2.ensures others
