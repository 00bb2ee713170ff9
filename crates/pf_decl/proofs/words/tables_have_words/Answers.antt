use Rattle.pf_decl.proofs.TableWords.{entry_words, mask_words}
use Rattle.pf_decl.proofs.words.tables_have_words.Goals as goal

pub returns-clause-words : goal.returns-clause-words
returns-clause-words c = entry_words

pub returns-clause-masks : goal.returns-clause-masks
returns-clause-masks c = mask_words
