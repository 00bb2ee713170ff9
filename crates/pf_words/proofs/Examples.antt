-- Words of the program, and what they say.
use Rattle.std.proofs.Common.{◌≡◌, [], ◌∷◌, Some, None, refl, codes}
use Rattle.pf_base.specs.Decimal.{decimal_of}
use Rattle.clap.proofs.OnLiterals.{clap_on_literals}
use Rattle.pf_words.specs.Program.{refusals_of, value_in}
use Rattle.pf_words.specs.Said.{words_read}
use Rattle.pf_words.specs.Said.Task.{generates, runs_script}

script : words_read (codes "-S" ∷ codes "--" ∷ []) ≡ Some runs_script
unfolding clap_on_literals refusals_of value_in
script = refl

generated : words_read (codes "-g1000" ∷ []) ≡ Some (generates 1000)
unfolding clap_on_literals refusals_of value_in decimal_of
generated = refl

two_tasks : words_read (codes "-f" ∷ codes "x" ∷ codes "-S" ∷ []) ≡ None
unfolding clap_on_literals refusals_of value_in
two_tasks = refl
