use Rattle.std.specs.List.{flat_map}
use Rattle.pf_entries.specs.Tables.{file_in, items_at, items_of, nothing_gathered}
use Rattle.pf_entries.proofs.Gathering.{gathers_more}
use Rattle.pf_entries.proofs.table.gather.Goals as goal

pub returns : goal.returns
returns c =
    gathers_more c.args.facts.now (items_at c.args.place (items_of c.args.form.now)) (flat_map file_in c.args.files.now) nothing_gathered c.add_items.new.gathered c.add_files.new.gathered
    (rw (c.items_of.ensures, c.new-gathered.ensures) at c.in_ok-add_items.ensures) (c.in_ok-add_files.ensures c.args.facts.now)
