-- The macros so far with the definitions that are left are those of all.
use Rattle.std.proofs.Common.{◌+◌, ◌∷◌, drop, sym, ap, ◌∙◌}
use Rattle.std.specs.Ordering.{nat_cmp}
use Rattle.std.specs.Cmp.Lexicographic.{slice_cmp}
use Rattle.std.specs.FinMap.{from_entries, insert}
use Rattle.std.proofs.lemmas.List.{drop_more, drop_all}
use Rattle.pf_token.specs.Macros.{with_defines}
use Rattle.pf_token.proofs.macros.Macros.new.Goals as goal

pub loop-define-init : goal.loop-define-init
loop-define-init c = ap (λ entries. with_defines (from_entries {R = slice_cmp nat_cmp} entries) c.args.defines.now) c.new-given.ensures.empty

pub loop-define-preserved : goal.loop-define-preserved
loop-define-preserved c =
    let defines = c.args.defines.now in
    let i = c.loop-define.define-index in
    let define = c.define-item.result in
    let before = from_entries {R = slice_cmp nat_cmp} c.loop-define.given.entries in
    ap (λ m. with_defines m (drop (i + 1) defines)) c.in_ok-keep_value.ensures.kept
    ∙ ap (λ value. with_defines (insert before define.name value) (drop (i + 1) defines)) c.items.ensures
    ∙ ap (λ d. with_defines before (d ∷ drop (i + 1) defines)) c.define-item.is
    ∙ ap (with_defines before) (sym (drop_more defines i define c.loop-define-test.true))
    ∙ c.loop-define.invariant

pub returns : goal.returns
returns c = λ i. record {
  given = (ap (with_defines (from_entries {R = slice_cmp nat_cmp} c.loop-define.given.entries)) (sym (drop_all c.loop-define.define-index c.args.defines.now c.loop-define-test.false)) ∙ c.loop-define.invariant) i;
  defined = ap (from_entries {R = slice_cmp nat_cmp}) c.new-defined.ensures.empty i;
}
