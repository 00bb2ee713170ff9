use Rattle.pf_source.specs.Told.{file_of}
use Rattle.pf_load.proofs.Reading.{decl_refused, decl_said, decl_words}
use Rattle.pf_load.proofs.statement.take_declaration.Goals as goal

pub take_decl-requires-clause-words : goal.take_decl-requires-clause-words
take_decl-requires-clause-words g c = decl_words c.tables_have_words.ensures.words c.args.tokens.now c.args.body c.in-Ok.decl c.requires.words c.in-Ok.ensures.found

pub returns-in-Ok-clause-means : goal.returns-in-Ok-clause-means
returns-in-Ok-clause-means g c =
    let means = rw c.place_of-place.ensures at c.take_decl.ensures.means in
    record { at = λ held is. decl_said c.args.facts.now c.args.tokens.now c.args.body c.args.draft c.args.reads.now c.in-Ok.decl c.in-Ok.ensures.found (file_of held) c.take_decl.result c.take_decl.new.reads (means.at held is) }

pub returns-in-Err-clause-means : goal.returns-in-Err-clause-means
returns-in-Err-clause-means g c = record {
  at = λ held is. rw (c.stop_of.ensures, c.place_of-place.ensures) (decl_refused c.args.facts.now c.args.tokens.now c.args.body c.args.draft c.args.reads.now c.in-Err.fault c.in-Err.ensures.fault (file_of held));
}
