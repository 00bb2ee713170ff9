use Rattle.pf_source.specs.Told.{file_of}
use Rattle.pf_load.proofs.Beginning.{load_told}
use Rattle.pf_load.proofs.loading.load.Goals as goal

pub returns-clause-means : goal.returns-clause-means
returns-clause-means g c = record {
  at = λ held is. load_told (file_of held) c.args.facts.now c.args.options.now c.args.file.now c.load_units.new.reads c.in-Err.stop c.told.result (c.in-Err.ensures.means.at held is) c.told.ensures.tells;
}
