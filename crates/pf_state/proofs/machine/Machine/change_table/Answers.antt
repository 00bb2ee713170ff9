use Rattle.std.proofs.Common.{◌≡◌, ℕ, ◌+◌, ◌-◌, List, Some, ap, sym, ◌∙◌, rules}
use Rattle.pf_reply.specs.declared.refusal.Refusal.TheVariants.{TablesFull}
use Rattle.pf_shelf.specs.Change.{answer}
use Rattle.pf_shelf.specs.declared.change.TableFault.TheVariants.{NoMemory}
use Rattle.pf_state.specs.Rulesets.{Rulesets}
use Rattle.pf_state.specs.Tables.{changed_rulesets, table_at}
use Rattle.pf_state.proofs.Counted.{allowed, full_is, never_none, no_more, parted, room_left, table_within}
use Rattle.pf_state.proofs.machine.Machine.change_table.Goals as goal

pub overflow_sub-others : goal.overflow_sub-others
overflow_sub-others c = no_more _ _ _ _ c.table_len.ensures c.in_ok-all.ensures (table_within c.args.self.now.rulesets c.args.path.now c.args.name.now)

pub returns-in-Ok-clause-done : goal.returns-in-Ok-clause-done
returns-in-Ok-clause-done c =
    let rulesets = c.args.self.now.rulesets in
    let path = c.args.path.now in
    let name = c.args.name.now in
    let others = c.in_ok-all.all - c.table_len.result in
    let within = table_within rulesets path name in
    let same : c.prepare.new.self.payloads ≡ rulesets = c.prepare.ensures.payloads ∙ c.rulesets.view_is in
    let told = allowed rulesets path name c.args.kind c.args.entries.now others (262144 - others)
    (parted c.table_len.result c.in_ok-all.all _ _ c.table_len.ensures c.in_ok-all.ensures within) (room_left c.table_len.result c.in_ok-all.all _ c.in_ok-all.ensures c.requires) c.in-Ok.counts
    (c.in-Ok.ensures.answer (never_none c.in-Ok.counts NoMemory) ∙ ap (λ (r : Rulesets). answer (table_at r path name) c.args.kind c.args.entries.now (262144 - others)) same) in
    record {
      allowed = told.0;
      told_is = told.1;
      changed_is = ap (λ (r : Rulesets). record c.args.self.now { rulesets = r }) (c.in-Ok.ensures.ok ∙ ap (λ (r : Rulesets). changed_rulesets r path name c.args.kind c.args.entries.now) same);
    }

pub returns-in_ok-after-in-Err-Full-clause-done : goal.returns-in_ok-after-in-Err-Full-clause-done
returns-in_ok-after-in-Err-Full-clause-done c =
    let rulesets = c.args.self.now.rulesets in
    let path = c.args.path.now in
    let name = c.args.name.now in
    let others = c.in_ok-all.all - c.table_len.result in
    let within = table_within rulesets path name in
    let same : c.prepare.new.self.payloads ≡ rulesets = c.prepare.ensures.payloads ∙ c.rulesets.view_is in
    let after : c.in_ok-after-in-Err-Full.after ≡ others + c.in-Err-Full.count = search rules in
    record {
      why = full_is rulesets path name c.args.kind c.args.entries.now others (262144 - others)
          (parted c.table_len.result c.in_ok-all.all _ _ c.table_len.ensures c.in_ok-all.ensures within) (room_left c.table_len.result c.in_ok-all.all _ c.in_ok-all.ensures c.requires)
          c.in-Err-Full.field-0 c.in-Err-Full.count c.in-Err-Full.field-0-is
          (λ no. c.in-Err-Full.ensures.answer no ∙ ap (λ (r : Rulesets). answer (table_at r path name) c.args.kind c.args.entries.now (262144 - others)) same)
          ∙ ap (λ n. Some (TablesFull n)) (sym after);
      same = ap (λ (r : Rulesets). record c.args.self.now { rulesets = r }) (c.in-Err-Full.ensures.err ∙ same);
    }
