-- The lines of a generated configuration: their glyphs, and the forms that they are read as.
use Rattle.std.proofs.Common.{◌≡◌, ℕ, Bool, true, false, List, [], ◌∷◌, ◌++◌, Some, None, refl}
use Rattle.std.specs.Prelude.{codes, map}
use Rattle.std.specs.Str.{bytes_eq}
use Rattle.pf_base.specs.declared.fault.Place.{Place}
use Rattle.pf_form.specs.Blank.{blank_form}
use Rattle.pf_form.specs.Log.{logged, quick_first}
use Rattle.pf_form.specs.Tests.{direction, family, hosts, iface, ifaces, ports, protos, side}
use Rattle.pf_form.specs.declared.form.Draft.{Draft}
use Rattle.pf_form.specs.declared.form.Head.{Head}
use Rattle.pf_form.specs.declared.form.Head.TheVariants as heads
use Rattle.pf_form.specs.declared.form.RuleForm.{RuleForm}
use Rattle.pf_grammar.specs.Forms.{IsDraft}
use Rattle.pf_grammar.specs.Heads.{block_kind, head_words, kind_words}
use Rattle.pf_grammar.specs.Statements.{block, rule, rule_front, statement}
use Rattle.pf_parts.specs.declared.matching.IfTest.TheVariants as tests
use Rattle.pf_syntax.specs.Hosts.{address, host, plain_host}
use Rattle.pf_syntax.specs.Operators.{op, word_op, word_test}
use Rattle.pf_syntax.specs.Symbols.{bare, symbols}
use Rattle.pf_syntax.specs.Words.{name_of}
use Rattle.pf_syntax.specs.declared.form.HostForm.TheVariants as forms
use Rattle.pf_syntax.specs.declared.form.HostItem.{HostItem}
use Rattle.pf_token.specs.declared.token.Token.{Token}
use Rattle.pf_genload.proofs.Glyphs.{Glyph, apart, close, slash, token_of}

-- ---- glyphs

abbrev pub tokens_of : Place → List Glyph → List Token
tokens_of place glyphs = map (token_of place) glyphs

abbrev pub action_word : Bool → List ℕ
action_word true = codes "pass"
action_word false = codes "block"

abbrev pub quick_glyphs : Bool → List Glyph
quick_glyphs true = apart (codes "quick") ∷ []
quick_glyphs false = []

-- ACTION [quick] on IFACE proto PROTO from SOURCE/24 to any port PORT
abbrev pub rule_glyphs : Bool → Bool → List ℕ → List ℕ → List ℕ → List ℕ → List Glyph
rule_glyphs pass quick iface proto source port =
    close (action_word pass) ∷ (quick_glyphs quick ++ (apart (codes "on") ∷ apart iface ∷ apart (codes "proto") ∷ apart proto
    ∷ apart (codes "from") ∷ apart source ∷ slash ∷ close (codes "24") ∷ apart (codes "to") ∷ apart (codes "any") ∷ apart (codes "port") ∷ apart port ∷ []))

abbrev pub all_glyphs : List Glyph
all_glyphs = close (codes "block") ∷ apart (codes "all") ∷ []

-- ---- forms

abbrev pub head_of : Bool → Head
head_of true = heads.Pass
head_of false = heads.Block None

abbrev pub source_item : List ℕ → HostItem
source_item word = record { negated = false; what = forms.Word word (Some (codes "24")) }

abbrev pub any_item : HostItem
any_item = record { negated = false; what = forms.Any }

abbrev pub rule_form : Bool → Bool → List ℕ → List ℕ → List ℕ → List ℕ → RuleForm
rule_form pass quick iface proto source port = record (blank_form (head_of pass)) {
  quick = quick;
  ifaces = tests.On iface false ∷ [];
  protos = proto ∷ [];
  sources = source_item source ∷ [];
  targets = any_item ∷ [];
  target_ports = word_op port ∷ [];
}

abbrev pub draft_with : RuleForm → Draft
draft_with form = record { form = form; unknown_flag = false; repeated_option = false; group_first = false; rdr_first = false }

rule_reads : (pass quick : Bool) (place : Place) (name proto source port : List ℕ)
    → name_of (bare name) ≡ Some name → bytes_eq name (codes "any") ≡ false → name_of (bare proto) ≡ Some proto
    → (statement false).reads (symbols (tokens_of place (rule_glyphs pass quick name proto (49 ∷ source) port))) ≡ Some (draft_with (rule_form pass quick name proto (49 ∷ source) port), [])
unfolding statement block rule rule_front head_words block_kind kind_words direction logged quick_first iface ifaces family protos hosts side ports host plain_host address op word_test
rule_reads true true place name proto source port named other proto_named = rw (other, named, proto_named) refl
rule_reads true false place name proto source port named other proto_named = rw (other, named, proto_named) refl
rule_reads false true place name proto source port named other proto_named = rw (other, named, proto_named) refl
rule_reads false false place name proto source port named other proto_named = rw (other, named, proto_named) refl

pub rule_is_draft : (pass quick : Bool) (place : Place) (name proto source port : List ℕ)
    → name_of (bare name) ≡ Some name → bytes_eq name (codes "any") ≡ false → name_of (bare proto) ≡ Some proto
    → IsDraft (tokens_of place (rule_glyphs pass quick name proto (49 ∷ source) port)) false (draft_with (rule_form pass quick name proto (49 ∷ source) port))
rule_is_draft pass quick place name proto source port named other proto_named =
    (statement false).exact.sound (symbols (tokens_of place (rule_glyphs pass quick name proto (49 ∷ source) port))) (draft_with (rule_form pass quick name proto (49 ∷ source) port)) []
    (rule_reads pass quick place name proto source port named other proto_named)

all_reads : (place : Place) → (statement false).reads (symbols (tokens_of place all_glyphs)) ≡ Some (draft_with (blank_form (heads.Block None)), [])
unfolding statement block rule rule_front head_words block_kind kind_words direction logged ifaces family protos hosts
all_reads place = refl

pub all_is_draft : (place : Place) → IsDraft (tokens_of place all_glyphs) false (draft_with (blank_form (heads.Block None)))
all_is_draft place = (statement false).exact.sound (symbols (tokens_of place all_glyphs)) (draft_with (blank_form (heads.Block None))) [] (all_reads place)
