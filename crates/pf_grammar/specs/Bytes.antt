-- Words that have at least one byte: those of the tokens, and those of a form whose meaning is asked for.
use Rattle.std.specs.Prelude.{◌≡◌, ℕ, Bool, true, false, ◌&&◌, ◌||◌, not, nat_le, List, length, Option, Some, None}
use Rattle.std.specs.List.{list_all}
use Rattle.pf_ops.specs.declared.operator.OpKind.{OpKind}
use Rattle.pf_ops.specs.declared.operator.OpKind.TheVariants.{Within, Between, Outside}
use Rattle.pf_syntax.specs.Symbols.{Symbol, Symbols, bare, quoted, mark, line_end}
use Rattle.pf_syntax.specs.declared.form.HostForm.{HostForm}
use Rattle.pf_syntax.specs.declared.form.HostForm.TheVariants as forms
use Rattle.pf_syntax.specs.declared.form.HostItem.{HostItem}
use Rattle.pf_syntax.specs.declared.form.OpItem.{OpItem}
use Rattle.pf_syntax.specs.declared.form.TargetWords.{TargetWords}
use Rattle.pf_form.specs.declared.form.RuleForm.{RuleForm}

abbrev pub has_bytes : List ℕ → Bool
has_bytes word = nat_le 1 (length word)

-- a word without quotes has a byte
abbrev pub symbol_has_bytes : Symbol → Bool
symbol_has_bytes (bare text) = has_bytes text
symbol_has_bytes (quoted text) = true
symbol_has_bytes (mark text) = true
symbol_has_bytes line_end = true

abbrev pub symbols_have_bytes : Symbols → Bool
symbols_have_bytes symbols = list_all symbol_has_bytes symbols

abbrev pub form_has_bytes : HostForm → Bool
form_has_bytes forms.Any = true
form_has_bytes (forms.Word word mask) = has_bytes word
form_has_bytes (forms.Range low high) = has_bytes low && has_bytes high
form_has_bytes (forms.Dynamic word) = has_bytes word
form_has_bytes (forms.Table name) = true

abbrev pub host_has_bytes : HostItem → Bool
host_has_bytes item = form_has_bytes item.what

abbrev pub has_two : OpKind → Bool
has_two Within = true
has_two Between = true
has_two Outside = true
has_two kind = false

-- it is `a:b`
abbrev pub is_within : OpKind → Bool
is_within Within = true
is_within kind = false

-- `a:b` has its colon
abbrev pub op_has_bytes : OpItem → Bool
op_has_bytes item = is_within item.kind || (has_bytes item.low && (not (has_two item.kind) || has_bytes item.high))

abbrev pub port_has_bytes : Option (List ℕ) → Bool
port_has_bytes None = true
port_has_bytes (Some word) = has_bytes word

abbrev pub target_has_bytes : TargetWords → Bool
target_has_bytes target = has_bytes target.addr && port_has_bytes target.port

abbrev pub translation_has_bytes : Option TargetWords → Bool
translation_has_bytes None = true
translation_has_bytes (Some target) = target_has_bytes target

-- the words of hosts, of ends of tests and of translations have a byte
pub record WordsHaveBytes (sources targets : List HostItem) (source_ports target_ports users groups : List OpItem) (nat rdr : Option TargetWords) : Type 0 where
  pub source_words : list_all host_has_bytes sources ≡ true
  pub source_port_words : list_all op_has_bytes source_ports ≡ true
  pub target_words : list_all host_has_bytes targets ≡ true
  pub target_port_words : list_all op_has_bytes target_ports ≡ true
  pub user_words : list_all op_has_bytes users ≡ true
  pub group_words : list_all op_has_bytes groups ≡ true
  pub nat_words : translation_has_bytes nat ≡ true
  pub rdr_words : translation_has_bytes rdr ≡ true

abbrev pub HasBytes : RuleForm → Type 0
HasBytes form = WordsHaveBytes form.sources form.targets form.source_ports form.target_ports form.users form.groups form.nat form.rdr
