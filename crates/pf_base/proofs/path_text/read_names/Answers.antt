use Rattle.std.proofs.Common.{Some, None, sym, ◌∙◌, subst}
use Rattle.std.specs.Option.{option_copied}
use Rattle.std.proofs.lemmas.Result.{err_from_is_err_and}
use Rattle.std.proofs.lemmas.Bool.{cond-true, cond-false, lt-ltb, le-ltb}
use Rattle.pf_base.proofs.PathReads.{ReadSoFar, ok_of_checked, err_of_checked, read_more, read_fault, read_end}
use Rattle.pf_base.proofs.PathGrammar.{written_any, written_without_fault}
use Rattle.pf_base.proofs.path_text.read_names.Goals as goal

-- a name that was kept has no fault
pub keep-requires : goal.keep-requires
keep-requires c =
    let good = ok_of_checked _ _ _ c.in_ok-name.ensures in
    rw good.1 (written_any _ _ (written_without_fault _ _ _ good.0))

pub returns-in_err-name : goal.returns-in_err-name
returns-in_err-name c =
    let p = err_from_is_err_and c.from_residual.result c.from_residual.ensures.1 in
    let so : ReadSoFar c.args.any c.args.text.now c.loop-next.path c.loop-next.count (Some c.in-Some.rest.now) = subst (λ next. ReadSoFar c.args.any c.args.text.now c.loop-next.path c.loop-next.count (option_copied next)) c.in-Some.is c.loop-next.invariant in
    let fault = err_of_checked _ _ _ c.in_err-name.ensures in
    rw (p.1, p.2) (read_fault _ _ _ _ _ _ (option_copied c.first_name.result.1) _ so c.first_name.ensures.names fault)

pub loop-next-preserved : goal.loop-next-preserved
loop-next-preserved c =
    let good = ok_of_checked _ _ _ c.in_ok-name.ensures in
    let so : ReadSoFar c.args.any c.args.text.now c.loop-next.path c.loop-next.count (Some c.in-Some.rest.now) = subst (λ next. ReadSoFar c.args.any c.args.text.now c.loop-next.path c.loop-next.count (option_copied next)) c.in-Some.is c.loop-next.invariant in
    rw (c.keep.ensures, good.1) (read_more _ _ _ _ _ _ _ so c.first_name.ensures.names c.first_name.ensures.bytes good.0)

pub returns-then-count : goal.returns-then-count
returns-then-count c =
    let so : ReadSoFar c.args.any c.args.text.now c.loop-next.path c.loop-next.count None = subst (λ next. ReadSoFar c.args.any c.args.text.now c.loop-next.path c.loop-next.count (option_copied next)) c.in_default.is c.loop-next.invariant in
    sym (read_end _ _ _ _ so ∙ cond-true _ _ _ (lt-ltb 8 c.loop-next.count c.if-count.true))

pub returns : goal.returns
returns c =
    let so : ReadSoFar c.args.any c.args.text.now c.loop-next.path c.loop-next.count None = subst (λ next. ReadSoFar c.args.any c.args.text.now c.loop-next.path c.loop-next.count (option_copied next)) c.in_default.is c.loop-next.invariant in
    sym (read_end _ _ _ _ so ∙ cond-false _ _ _ (le-ltb 8 c.loop-next.count c.if-count.false))
