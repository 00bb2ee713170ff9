use Rattle.pf_word.proofs.Something.{host_word_means, list_means, target_means}
use Rattle.pf_word.proofs.laws.each_word_means_something.Goals as goal

pub returns-clause-word : goal.returns-clause-word
returns-clause-word c = host_word_means

pub returns-clause-hosts : goal.returns-clause-hosts
returns-clause-hosts c = list_means

pub returns-clause-target : goal.returns-clause-target
returns-clause-target c = target_means
