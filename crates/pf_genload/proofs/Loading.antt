-- A generated configuration loads: its first line, then its rules one by one, then the end of its file.
use Rattle.std.proofs.Common.{◌≡◌, ℕ, zero, suc, ◌+◌, ◌*◌, ◌≤◌, true, List, [], ◌∷◌, ◌++◌, Option, Ok, length, length-append, refl, sym, subst, ◌∙◌, arith, le-leb}
use Rattle.std.specs.Prelude.{◌&&◌, codes}
use Rattle.std.specs.List.{flat_map, list_all, range_with_len}
use Rattle.std.proofs.lemmas.Bool.{and_from}
use Rattle.std.proofs.lemmas.List.Folds.{list_all-append}
use Rattle.pf_base.specs.declared.fault.Place.{Place}
use Rattle.pf_base.specs.declared.kind.Level.{Level}
use Rattle.pf_gen.specs.Draws.{after}
use Rattle.pf_gen.specs.Texts.{config_of, rule_line, rule_text, rules_text}
use Rattle.pf_host.specs.Facts.{HostFacts, no_facts}
use Rattle.pf_lexer.specs.ReadSoFar.{ReadSoFar}
use Rattle.pf_lexer.specs.Reads.{has_read}
use Rattle.pf_lexer.specs.Units.{Opens}
use Rattle.pf_load.specs.Load.{Loads, LoadsOn, Outcome, begun, further, nothing_read, unit_at}
use Rattle.pf_load.specs.declared.loading.LoadOptions.{LoadOptions}
use Rattle.pf_plan.specs.Ends.{plan_of}
use Rattle.pf_rule.specs.declared.rule.Rule.{Rule}
use Rattle.pf_source.specs.Disk.{Disk}
use Rattle.pf_source.specs.Told.{file_of}
use Rattle.pf_token.specs.Cells.{below, cells_from}
use Rattle.pf_token.specs.Macros.{Table, values_of}
use Rattle.pf_genload.specs.Generated.{LoadsAs, LoadsWhole, calls_no_ruleset, generated_disk, options_at, plan_with}
use Rattle.pf_genload.proofs.Lines.{all_glyphs}
use Rattle.pf_genload.proofs.Sources.{PrefixesReadBack}
use Rattle.pf_genload.proofs.Texts.{rule_text_is}
use Rattle.pf_genload.proofs.Turns.{all_handed, all_says, end_goes, glyphs_of, laid, line_goes, rule_handed, rule_says, start_at}

-- the rules that these bytes come to behind others
pub record LoadsFrom (disk : Disk) (macros : Table) (place at : Place) (bytes : List ℕ) (reads : ReadSoFar) (rules : List Rule) (count : ℕ) : Type 0 where
  pub all : List Rule
  pub loads : (options : LoadOptions) → LoadsOn disk no_facts options (further (start_at macros place bytes) reads (laid at rules)) (Ok (plan_of options.level (laid at all)))
  pub count_is : length all ≡ count
  pub calls : list_all calls_no_ruleset all ≡ true

with_one : (rules : List Rule) (rule : Rule) → list_all calls_no_ruleset rules ≡ true → calls_no_ruleset rule ≡ true → list_all calls_no_ruleset (rules ++ rule ∷ []) ≡ true
with_one rules rule calls one =
    list_all-append calls_no_ruleset rules (rule ∷ [])
    ∙ and_from (list_all calls_no_ruleset rules) (calls_no_ruleset rule && true) calls (and_from (calls_no_ruleset rule) true one refl)

one_more : (rules : List Rule) (rule : Rule) → length (rules ++ rule ∷ []) ≡ length rules + 1
one_more rules rule = length-append rules (rule ∷ [])

module _ (back : PrefixesReadBack) (number : ℕ) (disk : Disk) (macros : Table) (at : Place) (reads : ReadSoFar) where
  -- so many rules' lines
  lines_load : (many first : ℕ) (place : Place) (rules : List Rule) → length rules + many ≤ 16384 → list_all calls_no_ruleset rules ≡ true
      → LoadsFrom disk macros place at (flat_map (rule_line number) (range_with_len first many)) reads rules (length rules + many)
  lines_load zero first place rules few calls = record {
    all = rules;
    loads = λ options. end_goes disk no_facts options macros place at reads rules (omega arith);
    count_is = omega arith;
    calls = calls;
  }
  lines_load (suc many) first place rules few calls =
      let line = rule_text_is back no_facts (after number (7 * first)) in
      let says = rule_says no_facts (rule_text (after number (7 * first))) line in
      let long = one_more rules says.one.rule in
      let bytes = flat_map (rule_line number) (range_with_len (first + 1) many) in
      let more = lines_load many (first + 1) (below place) (rules ++ says.one.rule ∷ []) (omega arith) (with_one rules says.one.rule calls says.one.calls) in
      record {
        all = more.all;
        loads = λ options. subst (λ (text : List ℕ). LoadsOn disk no_facts options (further (start_at macros place ((text ++ codes "\n") ++ bytes)) reads (laid at rules)) (Ok (plan_of options.level (laid at more.all))))
            (sym line.is)
            (line_goes disk no_facts options macros place at (glyphs_of line) bytes reads rules (Ok (plan_of options.level (laid at more.all)))
            (rule_handed line.pass line.quick line.name line.proto (49 ∷ line.source) line.port line.written) says (omega arith) (more.loads options));
        count_is = omega (arith, more.count_is);
        calls = more.calls;
      }

  -- `block all`, and so many rules' lines behind it
  text_loads : (many : ℕ) (place : Place) → many ≤ 16383 → LoadsFrom disk macros place at (rules_text number many) reads [] (many + 1)
  unfolding rules_text
  text_loads many place few =
      let says = all_says no_facts in
      let bytes = flat_map (rule_line number) (range_with_len 0 many) in
      let more = lines_load many 0 (below place) (says.one.rule ∷ []) (omega arith) (with_one [] says.one.rule refl says.one.calls) in
      record {
        all = more.all;
        loads = λ options. line_goes disk no_facts options macros place at all_glyphs bytes reads [] (Ok (plan_of options.level (laid at more.all))) all_handed says (omega arith) (more.loads options);
        count_is = omega (arith, more.count_is);
        calls = more.calls;
      }

-- ---- the file

lines_length : PrefixesReadBack → (number many first : ℕ) → length (flat_map (rule_line number) (range_with_len first many)) ≤ 100 * many
lines_length back number zero first = omega arith
lines_length back number (suc many) first =
    let short = (rule_text_is back no_facts (after number (7 * first))).short in
    let text = rule_text (after number (7 * first)) in
    let more = lines_length back number many (first + 1) in
    let line : length (text ++ codes "\n") ≡ length text + 1 = length-append text (codes "\n") in
    let all : length ((text ++ codes "\n") ++ flat_map (rule_line number) (range_with_len (first + 1) many)) ≡ length (text ++ codes "\n") + length (flat_map (rule_line number) (range_with_len (first + 1) many)) =
    length-append (text ++ codes "\n") (flat_map (rule_line number) (range_with_len (first + 1) many)) in
    omega arith

text_length : PrefixesReadBack → (number many : ℕ) → length (rules_text number many) ≤ 10 + 100 * many
unfolding rules_text
text_length back number many =
    let more = lines_length back number many 0 in omega arith

abbrev holding : List ℕ → Disk
holding bytes = file_of (record { files = record { name = codes "generated"; bytes = bytes } ∷ []; sure = true })

file_opens : (bytes : List ℕ) → length bytes ≤ 4194304
    → Opens (holding bytes) (codes "generated") nothing_read (Ok (cells_from (record { file = 0; line = 1 }) bytes)) (has_read nothing_read (codes "generated") bytes)
file_opens bytes fits = Opens.opened (rw (le-leb (length bytes) 4194304 fits) refl)

-- a load comes to one thing
abbrev pub OneOutcome : Type 0
OneOutcome = (disk : Disk) (facts : HostFacts) (options : LoadOptions) (file : List ℕ) (a b : Outcome) → Loads disk facts options file a → Loads disk facts options file b → a ≡ b

pub loads_whole : PrefixesReadBack → OneOutcome → (number : ℕ) → LoadsWhole number
loads_whole back one number =
    let bytes = config_of number in
    let reads = has_read nothing_read (codes "generated") bytes in
    let at = unit_at reads.names (codes "generated") in
    let place : Place = record { file = 0; line = 1 } in
    let fits : length bytes ≤ 4194304 = let short = text_length back number 2000 in omega arith in
    let from = text_loads back number (generated_disk number) (values_of []) at reads 2000 place (omega arith) in
    let loads : (level : Option Level) → LoadsAs number level (Ok (plan_with from.all level)) = λ level. record {
      turn = further (start_at (values_of []) place bytes) reads (laid at []);
      begins = begun (cells_from place bytes) reads (file_opens bytes fits) refl;
      on = from.loads (options_at level);
    } in
    record {
      rules = from.all;
      count = from.count_is;
      calls = from.calls;
      loads = loads;
      only = λ level outcome other. one (generated_disk number) no_facts (options_at level) (codes "generated") outcome (Ok (plan_with from.all level)) other (loads level);
    }
