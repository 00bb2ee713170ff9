use Rattle.std.proofs.Common.{◌≡◌, List, ℕ, [], ◌∷◌, ◌++◌, length, subst, ap, ◌∙◌}
use Rattle.std.specs.Prelude.{OnOk}
use Rattle.pf_reply.specs.Refusals.{refusal_text}
use Rattle.pf_reply.specs.Replies as replies
use Rattle.pf_runs.specs.Runs.{reply_text}
use Rattle.pf_state.specs.Tables.{IsChanged}
use Rattle.pf_state.specs.declared.tables.Changed.{Changed}
use Rattle.pf_engine.specs.TableLines.{told}
use Rattle.pf_engine.proofs.Changing.{change_refused, change_told, done_keeps, refused_keeps}
use Rattle.pf_engine.proofs.tables.change.Goals as goal

pub returns-in-Done-clause-answers : goal.returns-in-Done-clause-answers
returns-in-Done-clause-answers c =
    change_told c.args.machine.now c.change_table.new.self c.args.path.now c.args.name.now c.args.kind c.args.entries.now c.in-Done.counts c.args.out.now.items c.tell_change.new.out.items
    (subst (λ (changed : Changed). IsChanged c.args.machine.now c.args.path.now c.args.name.now c.args.kind c.args.entries.now c.change_table.new.self changed) c.in-Done.is c.in_ok-counts.ensures.done)
    (c.tell_change.ensures ∙ ap (λ (front : List ℕ). front ++ reply_text (replies.reply_text (told c.args.kind c.in-Done.counts (length c.args.entries.now)) ∷ [])) c.in_ok-reserve.ensures.items)

pub returns-in-Done-clause-kept : goal.returns-in-Done-clause-kept
returns-in-Done-clause-kept c =
    done_keeps c.args.machine.now c.change_table.new.self c.args.path.now c.args.name.now c.args.kind c.args.entries.now c.fewer_calls_stay_shallow.ensures c.in-Done.counts c.requires
    (subst (λ (changed : Changed). IsChanged c.args.machine.now c.args.path.now c.args.name.now c.args.kind c.args.entries.now c.change_table.new.self changed) c.in-Done.is c.in_ok-counts.ensures.done)

pub returns-in-Refused-clause-answers : goal.returns-in-Refused-clause-answers
returns-in-Refused-clause-answers c =
    change_refused c.args.machine.now c.change_table.new.self c.args.path.now c.args.name.now c.args.kind c.args.entries.now c.in-Refused.refusal c.refuse.result c.args.out.now.items c.refuse.new.out.items
    (subst (λ (changed : Changed). IsChanged c.args.machine.now c.args.path.now c.args.name.now c.args.kind c.args.entries.now c.change_table.new.self changed) c.in-Refused.is c.in_ok-counts.ensures.done)
    c.refuse.ensures.refused
    (subst (λ (front : List ℕ). OnOk c.refuse.result (c.refuse.new.out.items ≡ front ++ reply_text (refusal_text c.in-Refused.refusal ∷ []))) c.in_ok-reserve.ensures.items c.refuse.ensures.told)

pub returns-in-Refused-clause-kept : goal.returns-in-Refused-clause-kept
returns-in-Refused-clause-kept c =
    refused_keeps c.args.machine.now c.change_table.new.self c.args.path.now c.args.name.now c.args.kind c.args.entries.now c.in-Refused.refusal c.requires
    (subst (λ (changed : Changed). IsChanged c.args.machine.now c.args.path.now c.args.name.now c.args.kind c.args.entries.now c.change_table.new.self changed) c.in-Refused.is c.in_ok-counts.ensures.done)
