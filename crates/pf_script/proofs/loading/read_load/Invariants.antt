use Rattle.std.proofs.Common.{◌≡◌, length}
use Rattle.pf_script.specs.Options.{load_line_of, options_and_file}
use Rattle.pf_script.proofs.Laid.{line_on}
use Rattle.pf_script.proofs.loading.read_load.Given as goal

-- what is left, laid on what was read, is the line
abbrev pub invariant-loop-word : goal.invariant-loop-word
invariant-loop-word l = load_line_of l.fn.words ≡ line_on l.given (options_and_file l.words)

abbrev pub decreases-loop-word : goal.decreases-loop-word
decreases-loop-word l = length l.words
