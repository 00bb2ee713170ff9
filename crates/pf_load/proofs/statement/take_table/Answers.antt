use Rattle.std.proofs.Common.{List, Err, length, subst, sym, ◌∙◌}
use Rattle.pf_entries.specs.Tables.{MayCome}
use Rattle.pf_shelf.specs.declared.decl.TableDecl.{TableDecl}
use Rattle.pf_source.specs.Told.{file_of}
use Rattle.pf_load.proofs.Reading.{table_stopped}
use Rattle.pf_load.proofs.Standing.{goes_on_length, places_grow}
use Rattle.pf_load.proofs.Fitting.{table_stays}
use Rattle.pf_load.proofs.statement.take_table.Goals as goal

pub returns-in-Err-clause-means : goal.returns-in-Err-clause-means
returns-in-Err-clause-means g c = record {
  at = λ held is. table_stopped (file_of held) c.args.facts.now c.args.draft c.args.form c.args.place c.args.reads.now (sym c.is_in_body.ensures ∙ c.if-is_in_body.false) c.in-Err.stop c.read_table.new.reads
      (subst (λ (t : List TableDecl). MayCome (file_of held) c.args.facts.now t c.args.form c.args.place c.args.reads.now (Err c.in-Err.stop) c.read_table.new.reads) c.items-tables.ensures (c.in-Err.ensures.means.at held is));
}

pub returns-in_ok-draft-in-Ok-clause-places : goal.returns-in_ok-draft-in-Ok-clause-places
returns-in_ok-draft-in-Ok-clause-places g c = λ so.
    c.in_ok-draft-in-Ok.ensures.within (length c.read_table.new.reads.names)
    (places_grow (length c.args.reads.now.names) (length c.read_table.new.reads.names) c.args.draft (goes_on_length c.args.reads.now.names c.read_table.new.reads.names c.in-Ok.ensures.asks.grows) so)

pub returns-in_ok-draft-in-Ok-clause-fit : goal.returns-in_ok-draft-in-Ok-clause-fit
returns-in_ok-draft-in-Ok-clause-fit g c = table_stays c.args.draft c.in_ok-draft-in-Ok.draft c.in-Ok.table c.in_ok-draft-in-Ok.ensures.laid
