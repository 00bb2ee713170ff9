-- Which words a fault may have to bear: each has at least one byte.
use Rattle.std.specs.Prelude.{ℕ, Bool, true, ◌&&◌, ◌||◌, not, List, Option, Some, None}
use Rattle.pf_syntax.specs.declared.form.HostForm.{HostForm}
use Rattle.pf_syntax.specs.declared.form.HostForm.TheVariants as forms
use Rattle.pf_syntax.specs.declared.form.HostItem.{HostItem}
use Rattle.pf_syntax.specs.declared.form.OpItem.{OpItem}
use Rattle.pf_syntax.specs.declared.form.TargetWords.{TargetWords}
use Rattle.pf_word.specs.Numbers.{has_two, is_within}
use Rattle.pf_word.specs.Words.{has_bytes}

abbrev pub form_has_words : HostForm → Bool
form_has_words forms.Any = true
form_has_words (forms.Word word mask) = has_bytes word
form_has_words (forms.Range low high) = has_bytes low && has_bytes high
form_has_words (forms.Dynamic word) = has_bytes word
form_has_words (forms.Table name) = true

abbrev pub host_has_words : HostItem → Bool
host_has_words item = form_has_words item.what

-- `a:b` has its colon
abbrev pub op_has_words : OpItem → Bool
op_has_words item = is_within item.kind || (has_bytes item.low && (not (has_two item.kind) || has_bytes item.high))

abbrev pub port_has_bytes : Option (List ℕ) → Bool
port_has_bytes None = true
port_has_bytes (Some word) = has_bytes word

abbrev pub target_has_words : TargetWords → Bool
target_has_words target = has_bytes target.addr && port_has_bytes target.port
