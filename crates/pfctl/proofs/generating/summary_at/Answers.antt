use Rattle.std.proofs.Common.{ap, ◌∙◌}
use Rattle.pf_engine.specs.Answering.{is_refused}
use Rattle.pfctl.proofs.Counting.{few_records, generated_files, loaded_by, summed_by}
use Rattle.pfctl.proofs.generating.summary_at.Goals as goal

pub count-pass-requires : goal.count-pass-requires
count-pass-requires c = let records = c.items-records.ensures ∙ c.in_ok-made.ensures.records in rw records (few_records c.args.number)

pub count-block-requires : goal.count-block-requires
count-block-requires c = let records = c.items-records.ensures ∙ c.in_ok-made.ensures.records in rw records (few_records c.args.number)

pub returns : goal.returns
returns c =
    let refused = is_refused c.in_ok-step.field-0 in
    let files = c.in_ok-files.ensures ∙ ap generated_files c.in_ok-made.ensures.config in
    let answers = rw c.load_line.ensures at c.in_ok-step.ensures.answers in
    let loaded = loaded_by c.args.number c.args.level _ _ c.new-engine.result c.step.new.self c.new-reply.result.items c.step.new.out.items refused files c.new-engine.ensures c.new-reply.ensures.items answers in
    let records = c.items-records.ensures ∙ c.in_ok-made.ensures.records in
    let law = c.a_generated_load_is_done.ensures in
    summed_by law.done law.rules c.args.number c.args.level c.step.new.self c.step.new.out.items refused c.count-pass.result c.count-block.result loaded
    (rw records at c.count-pass.ensures) (rw records at c.count-block.ensures)
