use Rattle.std.proofs.Common.{◌≡◌, List, map, refl, ap, ◌∙◌}
use Rattle.pf_print.specs.TableText.{entry_text}
use Rattle.pf_reply.specs.declared.refusal.Refusal.TheVariants.{TableMissing}
use Rattle.pf_reply.specs.declared.reply.Listing.TheVariants as listings
use Rattle.pf_runs.specs.Runs.{Stepped, reply_text}
use Rattle.pf_state.specs.declared.machine.Machine.{Machine}
use Rattle.pf_table.specs.Table.{entries_of}
use Rattle.pf_table.specs.declared.entry.Entry.{Entry}
use Rattle.pf_engine.specs.Steps.{list_text, shown}
use Rattle.pf_engine.specs.TableLines.{if_there, shown_table}
use Rattle.pf_engine.specs.declared.outcome.Outcome.TheVariants.{Done}
use Rattle.pf_engine.proofs.Changing.{none_there, shown_there}
use Rattle.pf_engine.proofs.Doing.{refused_so, told_so}
use Rattle.pf_engine.proofs.tables.show_table.Goals as goal

pub returns-in_default-clause-answers : goal.returns-in_default-clause-answers
returns-in_default-clause-answers c =
    let machine = c.args.machine.now in
    let told = shown_table machine c.args.path.now c.args.name.now in
    refused_so (λ (does : Stepped Machine). does ≡ if_there machine c.args.path.now c.args.name.now told) machine (TableMissing c.args.name.now) c.refuse.result c.args.out.now.items c.refuse.new.out.items
    (none_there machine c.args.path.now c.args.name.now told c.in_default.ensures) c.refuse.ensures.refused c.refuse.ensures.told

pub returns-clause-answers : goal.returns-clause-answers
returns-clause-answers c =
    let machine = c.args.machine.now in
    told_so (λ (does : Stepped Machine). does ≡ if_there machine c.args.path.now c.args.name.now (shown_table machine c.args.path.now c.args.name.now))
    (shown machine listings.Table (map entry_text (entries_of c.in-Some.table.now))) machine Done c.args.out.now.items c.tell.new.out.items c.deref.result.now
    (shown_there machine c.args.path.now c.args.name.now c.in-Some.table.now c.in-Some.ensures) refl refl
    (c.deref.ensures.value ∙ c.in_ok-list_of.ensures ∙ ap (λ (entries : List Entry). reply_text (list_text listings.Table (map entry_text entries))) (c.as_slice.ensures.value ∙ c.in_ok-entries.ensures))
    c.in_ok-tell.ensures.ok
