-- A load goes on over one line, and over the end of a unit.
use Rattle.std.proofs.Common.{◌≡◌, ℕ, suc, ◌-◌, ◌≤◌, Bool, true, false, List, [], ◌∷◌, ◌++◌, Some, None, Result, Ok, length, refl, sym, subst, arith}
use Rattle.std.specs.Prelude.{slice_get}
use Rattle.std.proofs.lemmas.Bool.{le-ltb}
use Rattle.pf_base.specs.declared.fault.Place.{Place}
use Rattle.pf_decl.specs.Checks.{HoldsOfNone, fine}
use Rattle.pf_expand.specs.Expansion.{Expands}
use Rattle.pf_expand.specs.declared.order.Defaults.{Defaults}
use Rattle.pf_form.specs.Blank.{blank_form}
use Rattle.pf_form.specs.declared.form.Head.TheVariants as heads
use Rattle.pf_form.specs.declared.form.RuleForm.{RuleForm}
use Rattle.pf_grammar.specs.Late.{has_anchor_effect, has_state_fault, late_of}
use Rattle.pf_host.specs.Facts.{HostFacts}
use Rattle.pf_lexer.specs.Deeds.{Does, tokens_in}
use Rattle.pf_lexer.specs.Faults.{decided, definition_of, faults_of, include_of, is_nothing}
use Rattle.pf_lexer.specs.ReadSoFar.{ReadSoFar}
use Rattle.pf_lexer.specs.Stages.{Stage}
use Rattle.pf_lexer.specs.Statements.{Ends, most_tokens}
use Rattle.pf_lexer.specs.Units.{Answers, GoesTo, Leads, start_in}
use Rattle.pf_fault.specs.declared.fault.Stop.{Stop}
use Rattle.pf_decl.specs.Decls.{place_of}
use Rattle.pf_lexer.specs.declared.deed.Deed.TheVariants.{Hands}
use Rattle.pf_lexer.specs.declared.deed.Statement.{Statement}
use Rattle.pf_token.specs.declared.token.Token.{Token}
use Rattle.pf_token.specs.Bytes.{class_of}
use Rattle.pf_lexer.specs.declared.statement.Close.TheVariants.{Line}
use Rattle.pf_load.specs.Anchors.{no_call}
use Rattle.pf_load.specs.Load.{LoadsOn, Outcome, goes_on, ends, further}
use Rattle.pf_load.specs.Statements.{Comes, RuleComes, SaidComes, StatementComes, begins_declaration, defaults_of, is_close, is_said, order_of, way_of}
use Rattle.pf_load.specs.declared.loading.LoadOptions.{LoadOptions}
use Rattle.pf_load.specs.declared.way.Way.{Way}
use Rattle.pf_load.specs.declared.way.Way.TheVariants.{Rules}
use Rattle.pf_plan.specs.Drafts.{begun_draft, first_policies, room_of}
use Rattle.pf_plan.specs.Ends.{HasEndFault, plan_of}
use Rattle.pf_plan.specs.declared.draft.Draft.{Draft}
use Rattle.pf_rule.specs.declared.rule.Rule.{Rule}
use Rattle.pf_source.specs.Disk.{Disk}
use Rattle.pf_token.specs.Cells.{below, cells_from}
use Rattle.pf_token.specs.Macros.{Table, value_of}
use Rattle.pf_token.specs.Pieces.{NoMore}
use Rattle.pf_genload.proofs.Glyphs.{Glyph, are_spelled, lexemes_of, line_of, line_statement}
use Rattle.pf_genload.proofs.Lines.{all_glyphs, all_is_draft, draft_with, rule_form, rule_glyphs, rule_is_draft, tokens_of}
use Rattle.pf_genload.proofs.Rules.{IsOneRule, all_is_one_rule, is_one_rule}
use Rattle.pf_genload.proofs.Texts.{IsRuleLine}

-- where a unit with these macros stands before these bytes
abbrev pub start_at : Table → Place → List ℕ → Stage
start_at macros place bytes = start_in macros (cells_from place bytes)

-- a line is a statement of its own
abbrev pub statement_of : Place → List Glyph → Statement
statement_of place glyphs = record { tokens = tokens_of place glyphs; body = false }

-- The line is handed out: it is no definition, no include and no fault.
pub record IsHanded (glyphs : List Glyph) : Type 0 where
  pub written : are_spelled glyphs ≡ true
  pub few : length glyphs ≤ most_tokens
  pub no_fault : (place : Place) → decided (faults_of 0 (lexemes_of place glyphs) Line) ≡ None
  pub no_definition : (place : Place) → definition_of (lexemes_of place glyphs) ≡ None
  pub no_include : (place : Place) → include_of (lexemes_of place glyphs) ≡ None
  pub some : (place : Place) → is_nothing (lexemes_of place glyphs) ≡ false

tokens_back : (place : Place) (glyphs : List Glyph) → tokens_in (lexemes_of place glyphs) ≡ tokens_of place glyphs
tokens_back place [] = refl
tokens_back place (glyph ∷ glyphs) = cc (tokens_back place glyphs)

line_does : (macros : Table) (place : Place) (glyphs : List Glyph) (bytes : List ℕ) → IsHanded glyphs
    → Does 0 macros (cells_from place (line_of glyphs ++ bytes)) (Hands (statement_of place glyphs)) macros (cells_from (below place) bytes)
line_does macros place glyphs bytes is =
    subst (λ (tokens : List Token). Does 0 macros (cells_from place (line_of glyphs ++ bytes)) (Hands (record { tokens = tokens; body = false })) macros (cells_from (below place) bytes))
    (tokens_back place glyphs)
    (Does.hands (line_statement (value_of macros) place glyphs bytes is.written is.few) (is.no_fault place) (is.no_definition place) (is.no_include place) (is.some place))

line_leads : (disk : Disk) (macros : Table) (place : Place) (glyphs : List Glyph) (bytes : List ℕ) (reads : ReadSoFar) → IsHanded glyphs
    → Leads disk (start_at macros place (line_of glyphs ++ bytes)) reads (Ok (Some (statement_of place glyphs))) (start_at macros (below place) bytes) reads
line_leads disk macros place glyphs bytes reads is = Leads.comes GoesTo.here (Answers.hands (line_does macros place glyphs bytes is))

-- ---- a rule is laid on the draft

-- a draft of the main ruleset, begun at this place, with these rules and nothing else
abbrev pub laid : Place → List Rule → Draft
laid at rules = record (begun_draft [] at) { here = record { own = record { path = []; place = at; rules = rules; tables = [] }; inside = []; nameless = 0 } }

abbrev pub first_defaults : Defaults
first_defaults = defaults_of first_policies

-- The line says a rule, alone.
pub record SaysRule (facts : HostFacts) (glyphs : List Glyph) : Type 0 where
  pub form : RuleForm
  pub one : IsOneRule facts first_defaults form
  pub comes : (disk : Disk) (place at : Place) (rules : List Rule) (reads : ReadSoFar) → length rules ≤ 16384
      → StatementComes disk facts (statement_of place glyphs) (laid at rules) reads (Ok (laid at (rules ++ one.rule ∷ []))) reads

expands_in : (facts : HostFacts) (form : RuleForm) (one : IsOneRule facts first_defaults form) (at : Place) (rules : List Rule) → length rules ≤ 16384
    → Expands form no_call (order_of (draft_with form)) facts first_defaults (room_of (laid at rules)) (Ok (one.rule ∷ []))
expands_in facts form one at rules few =
    let room : suc (16384 - length rules) ≡ 16385 - length rules = omega arith in
    subst (λ (n : ℕ). Expands form no_call (order_of (draft_with form)) facts first_defaults n (Ok (one.rule ∷ []))) room (one.expands (16384 - length rules))

said_comes : (facts : HostFacts) (pass quick : Bool) (name proto source port : List ℕ) (one : IsOneRule facts first_defaults (rule_form pass quick name proto source port))
    (place at : Place) (rules : List Rule) → length rules ≤ 16384
    → SaidComes facts (laid at rules) (draft_with (rule_form pass quick name proto source port)) place (rule_form pass quick name proto source port).head (Ok (laid at (rules ++ one.rule ∷ [])))
unfolding late_of has_state_fault has_anchor_effect
said_comes facts true quick name proto source port one place at rules few =
    record { rules = Ok (one.rule ∷ []); expands = expands_in facts (rule_form true quick name proto source port) one at rules few; gives = refl }
said_comes facts false quick name proto source port one place at rules few =
    record { rules = Ok (one.rule ∷ []); expands = expands_in facts (rule_form false quick name proto source port) one at rules few; gives = refl }

all_comes : (facts : HostFacts) (one : IsOneRule facts first_defaults (blank_form (heads.Block None))) (place at : Place) (rules : List Rule) → length rules ≤ 16384
    → SaidComes facts (laid at rules) (draft_with (blank_form (heads.Block None))) place (heads.Block None) (Ok (laid at (rules ++ one.rule ∷ [])))
unfolding late_of has_state_fault has_anchor_effect
all_comes facts one place at rules few =
    record { rules = Ok (one.rule ∷ []); expands = expands_in facts (blank_form (heads.Block None)) one at rules few; gives = refl }

rule_way : (pass quick : Bool) (place : Place) (name proto source port : List ℕ) → way_of (tokens_of place (rule_glyphs pass quick name proto source port)) ≡ Rules
unfolding is_close begins_declaration
rule_way true true place name proto source port = refl
rule_way true false place name proto source port = refl
rule_way false true place name proto source port = refl
rule_way false false place name proto source port = refl

all_way : (place : Place) → way_of (tokens_of place all_glyphs) ≡ Rules
unfolding is_close begins_declaration
all_way place = refl

as_rule : (disk : Disk) (facts : HostFacts) (tokens : List Token) (draft : Draft) (reads : ReadSoFar) (result : Result Draft Stop) → way_of tokens ≡ Rules
    → RuleComes facts tokens false draft result → StatementComes disk facts (record { tokens = tokens; body = false }) draft reads result reads
as_rule disk facts tokens draft reads result way comes = subst (λ (w : Way). Comes disk facts w tokens false draft reads result reads) (sym way) (comes, refl)

-- ---- turns

pub line_goes : (disk : Disk) (facts : HostFacts) (options : LoadOptions) (macros : Table) (place at : Place) (glyphs : List Glyph) (bytes : List ℕ) (reads : ReadSoFar) (rules : List Rule) (outcome : Outcome)
    → IsHanded glyphs → (says : SaysRule facts glyphs) → length rules ≤ 16384
    → LoadsOn disk facts options (further (start_at macros (below place) bytes) reads (laid at (rules ++ says.one.rule ∷ []))) outcome
    → LoadsOn disk facts options (further (start_at macros place (line_of glyphs ++ bytes)) reads (laid at rules)) outcome
line_goes disk facts options macros place at glyphs bytes reads rules outcome is says few on =
    goes_on (line_leads disk macros place glyphs bytes reads is) tt
    (record { result = Ok (laid at (rules ++ says.one.rule ∷ [])); later = reads; comes = says.comes disk place at rules reads few; gives = refl }) on

none_of : {A : Type 0} (test : List A → A → Bool) → HoldsOfNone test []
none_of {A} test = record { fails = λ k other is. absurd (no_item k other is) }
  where
    no_item : (k : ℕ) (other : A) → slice_get [] k ≡ Some other → ⊥
    no_item k other is = cc

no_end_fault : (at : Place) (rules : List Rule) → length rules ≤ 16384 → HasEndFault (laid at rules) None
no_end_fault at rules few = record {
  queues = Ok tt;
  judged = fine (none_of _) (none_of _) (none_of _);
  is = rw (le-ltb 16384 (length rules) few) refl;
}

pub end_goes : (disk : Disk) (facts : HostFacts) (options : LoadOptions) (macros : Table) (place at : Place) (reads : ReadSoFar) (rules : List Rule) → length rules ≤ 16384
    → LoadsOn disk facts options (further (start_at macros place []) reads (laid at rules)) (Ok (plan_of options.level (laid at rules)))
unfolding cells_from
end_goes disk facts options macros place at reads rules few =
    goes_on (Leads.comes GoesTo.here (Answers.over (Does.ends (Ends.at_end NoMore.ended)) refl)) tt
    (record { fault = None; has = no_end_fault at rules few; goes = refl }) (ends refl)

-- ---- the lines of a generated configuration

pub rule_handed : (pass quick : Bool) (name proto source port : List ℕ) → are_spelled (rule_glyphs pass quick name proto source port) ≡ true → IsHanded (rule_glyphs pass quick name proto source port)
rule_handed true true name proto source port written = record { written = written; few = omega arith; no_fault = λ place. refl; no_definition = λ place. refl; no_include = λ place. refl; some = λ place. refl }
rule_handed true false name proto source port written = record { written = written; few = omega arith; no_fault = λ place. refl; no_definition = λ place. refl; no_include = λ place. refl; some = λ place. refl }
rule_handed false true name proto source port written = record { written = written; few = omega arith; no_fault = λ place. refl; no_definition = λ place. refl; no_include = λ place. refl; some = λ place. refl }
rule_handed false false name proto source port written = record { written = written; few = omega arith; no_fault = λ place. refl; no_definition = λ place. refl; no_include = λ place. refl; some = λ place. refl }

abbrev pub glyphs_of : {facts : HostFacts} {text : List ℕ} → IsRuleLine facts text → List Glyph
glyphs_of line = rule_glyphs line.pass line.quick line.name line.proto (49 ∷ line.source) line.port

pub rule_says : (facts : HostFacts) (text : List ℕ) (line : IsRuleLine facts text) → SaysRule facts (glyphs_of line)
rule_says facts text line =
    let form = rule_form line.pass line.quick line.name line.proto (49 ∷ line.source) line.port in
    let one : IsOneRule facts first_defaults form = is_one_rule facts first_defaults line.pass line.quick line.name line.proto (49 ∷ line.source) line.port line.mean in
    record {
      form = form;
      one = one;
      comes = λ disk place at rules reads few.
          as_rule disk facts (tokens_of place (glyphs_of line)) (laid at rules) reads (Ok (laid at (rules ++ one.rule ∷ []))) (rule_way line.pass line.quick place line.name line.proto (49 ∷ line.source) line.port)
          (is_said (draft_with form) (rule_is_draft line.pass line.quick place line.name line.proto line.source line.port line.named line.other line.proto_named)
          (said_comes facts line.pass line.quick line.name line.proto (49 ∷ line.source) line.port one (place_of (tokens_of place (glyphs_of line))) at rules few));
    }

pub all_handed : IsHanded all_glyphs
unfolding class_of
all_handed = record { written = refl; few = omega arith; no_fault = λ place. refl; no_definition = λ place. refl; no_include = λ place. refl; some = λ place. refl }

pub all_says : (facts : HostFacts) → SaysRule facts all_glyphs
all_says facts =
    let one : IsOneRule facts first_defaults (blank_form (heads.Block None)) = all_is_one_rule facts first_defaults in
    record {
      form = blank_form (heads.Block None);
      one = one;
      comes = λ disk place at rules reads few.
          as_rule disk facts (tokens_of place all_glyphs) (laid at rules) reads (Ok (laid at (rules ++ one.rule ∷ []))) (all_way place)
          (is_said (draft_with (blank_form (heads.Block None))) (all_is_draft place) (all_comes facts one (place_of (tokens_of place all_glyphs)) at rules few));
    }
