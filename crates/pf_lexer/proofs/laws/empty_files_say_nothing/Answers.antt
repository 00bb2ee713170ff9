use Rattle.pf_lexer.proofs.NothingMore.{nothing_said}
use Rattle.pf_lexer.proofs.laws.empty_files_say_nothing.Goals as goal

pub returns : goal.returns
returns c = λ disk macros reads later next statement leads. nothing_said c.next_is_one.ensures disk macros reads later next statement leads
