-- Flags of a rule (pf.conf(5), GRAMMAR, `flags`).
use Rattle.std.specs.Prelude.{ℕ, Bool, false, ◌&&◌, not, is_some, List, [], codes}
use Rattle.std.specs.List.{list_all}
use Rattle.pf_ops.specs.Words.{bit_of, bits_of}
use Rattle.pf_syntax.specs.Grammar.{Grammar, ◌>>=◌, give, sign, on_word, where_next}
use Rattle.pf_syntax.specs.Words.{any_word}
use Rattle.pf_syntax.specs.Lists.{at_sign}
use Rattle.pf_form.specs.declared.flags.ReadFlags.{ReadFlags}
use Rattle.pf_form.specs.declared.form.FlagsForm.TheVariants as flag_forms

-- every letter is that of a flag
abbrev pub are_flags : List ℕ → Bool
are_flags letters = list_all (λ letter. is_some (bit_of letter)) letters

abbrev pub flags_read : List ℕ → List ℕ → ReadFlags
flags_read set mask = record {
  flags = flag_forms.Test (record { set = bits_of set; mask = bits_of mask });
  unknown = not (are_flags set && are_flags mask);
}

-- `[word]` before a `/`
abbrev pub flag_set : Grammar (List ℕ)
flag_set = where_next (at_sign (codes "/")) (give []) any_word

-- `"any" | [word] "/" word` behind `flags`
unfoldable pub flags : Grammar ReadFlags
flags = on_word (codes "any") (give (record { flags = flag_forms.Any; unknown = false })) (do
  set ← flag_set
  slash ← sign (codes "/")
  mask ← any_word
  give (flags_read set mask))
