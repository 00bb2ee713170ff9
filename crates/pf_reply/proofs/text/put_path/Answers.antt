use Rattle.std.proofs.Common.{◌≡◌, ℕ, List, ◌++◌, subst}
use Rattle.std.specs.Prelude.{OnOk}
use Rattle.pf_reply.proofs.Paths.{text_of_main, text_of_names}
use Rattle.pf_reply.proofs.text.put_path.Goals as goal

pub returns-then-is_empty-clause-ok : goal.returns-then-is_empty-clause-ok
returns-then-is_empty-clause-ok c =
    subst (λ (text : List ℕ). OnOk c.put.result (c.put.new.out.items ≡ c.args.out.now.items ++ text))
    (text_of_main c.args.path.now c.names.result.now c.is_empty.result c.names.ensures.same c.is_empty.ensures c.if-is_empty.true)
    c.put.ensures.ok

pub returns-else-is_empty-clause-ok : goal.returns-else-is_empty-clause-ok
returns-else-is_empty-clause-ok c =
    subst (λ (text : List ℕ). OnOk c.put_call.result (c.put_call.new.out.items ≡ c.args.out.now.items ++ text))
    (text_of_names c.args.path.now c.names.result.now c.is_empty.result c.names.ensures.same c.is_empty.ensures c.if-is_empty.false)
    c.put_call.ensures.ok
