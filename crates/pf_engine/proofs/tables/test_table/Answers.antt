use Rattle.std.proofs.Common.{◌≡◌, length, refl, ◌∙◌}
use Rattle.pf_reply.specs.declared.refusal.Refusal.TheVariants.{TableMissing}
use Rattle.pf_reply.specs.declared.reply.Reply.TheVariants.{Matched}
use Rattle.pf_runs.specs.Runs.{Stepped}
use Rattle.pf_state.specs.declared.machine.Machine.{Machine}
use Rattle.pf_engine.specs.Steps.{done}
use Rattle.pf_engine.specs.TableLines.{if_there, matched}
use Rattle.pf_engine.specs.declared.outcome.Outcome.TheVariants.{Done}
use Rattle.pf_engine.proofs.Changing.{matched_there, none_there}
use Rattle.pf_engine.proofs.Doing.{refused_so, told_so}
use Rattle.pf_engine.proofs.tables.test_table.Goals as goal

pub returns-in_default-clause-answers : goal.returns-in_default-clause-answers
returns-in_default-clause-answers c =
    let machine = c.args.machine.now in
    let told = matched machine c.args.path.now c.args.name.now c.args.addrs.now in
    refused_so (λ (does : Stepped Machine). does ≡ if_there machine c.args.path.now c.args.name.now told) machine (TableMissing c.args.name.now) c.refuse.result c.args.out.now.items c.refuse.new.out.items
    (none_there machine c.args.path.now c.args.name.now told c.in_default.ensures) c.refuse.ensures.refused c.refuse.ensures.told

pub returns-clause-answers : goal.returns-clause-answers
returns-clause-answers c =
    let machine = c.args.machine.now in
    told_so (λ (does : Stepped Machine). does ≡ if_there machine c.args.path.now c.args.name.now (matched machine c.args.path.now c.args.name.now c.args.addrs.now))
    (done machine (Matched c.count_matches-count.result (length c.args.addrs.now))) machine Done c.args.out.now.items c.tell.new.out.items c.deref.result.now
    (matched_there machine c.args.path.now c.args.name.now c.args.addrs.now c.in-Some.table.now c.count_matches-count.result c.in-Some.ensures c.count_matches-count.ensures) refl refl
    (c.deref.ensures.value ∙ c.in_ok-reply_line.ensures)
    c.in_ok-tell.ensures.ok
