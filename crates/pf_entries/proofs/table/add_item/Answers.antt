use Rattle.std.proofs.Common.{List, [], ◌∷◌, map, Result, Ok, Err, refl, ap, subst}
use Rattle.std.specs.Option.{option_copied}
use Rattle.pf_base.specs.declared.fault.FaultKind.{FaultKind}
use Rattle.pf_word.specs.Coming.{Comes}
use Rattle.pf_word.specs.Hosts.{HostWordMeans}
use Rattle.pf_word.specs.declared.fault.ExpandFault.{ExpandFault}
use Rattle.pf_addr.specs.declared.prefix.Prefix.{Prefix}
use Rattle.pf_table.specs.declared.entry.Entry.{Entry}
use Rattle.pf_entries.specs.Tables.{Gathers, entry_of, item_at}
use Rattle.pf_entries.proofs.Gathering.{gathers_entries, gathers_fault, on_ok}
use Rattle.pf_entries.proofs.table.add_item.Goals as goal

pub returns-in-Ok : goal.returns-in-Ok
returns-in-Ok c =
    let item = c.args.item.now in
    let one = item_at c.args.place item in
    let entries = map (entry_of item.negated) c.items-in-Ok.result.now in
    on_ok c.add_entries.result _ (Gathers c.args.facts.now (one ∷ []) c.args.gathered.now c.add_entries.new.gathered)
    (λ are. gathers_entries c.args.facts.now one entries c.args.gathered.now c.add_entries.new.gathered (record {
      prefixes = Ok c.in-Ok.prefixes;
      means = rw (c.items.ensures, c.mask_of.ensures) at c.in-Ok.ensures;
      are = ap (λ (prefixes : List Prefix). Ok (map (entry_of item.negated) prefixes)) c.items-in-Ok.ensures;
    }) are)
    c.add_entries.ensures

pub returns-in-Err-Kind : goal.returns-in-Err-Kind
returns-in-Err-Kind c =
    let Means : Result (List Prefix) FaultKind → Type 0 = HostWordMeans c.args.facts.now c.items.result.now (option_copied c.mask_of.result) in
    let told : Comes Means (Err c.in-Err-Kind.field-0) = c.in-Err-Kind.ensures in
    let kind : Means (Err c.in-Err-Kind.kind) = subst (λ (fault : ExpandFault). Comes Means (Err fault)) c.in-Err-Kind.field-0-is told in
    gathers_fault c.args.facts.now (item_at c.args.place c.args.item.now) c.in-Err-Kind.kind c.args.gathered.now c.add_fault.new.gathered (record {
      prefixes = Err c.in-Err-Kind.kind;
      means = rw (c.items.ensures, c.mask_of.ensures) at kind;
      are = refl;
    }) c.add_fault.ensures
