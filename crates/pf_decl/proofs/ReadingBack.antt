-- The line of a setting is read as that setting.
use Rattle.std.proofs.Common.{◌≡◌, ℕ, ◌≤◌, Bool, true, false, List, [], ◌∷◌, ◌++◌, Option, Some, refl, ap, sym, ◌∙◌, arith, append_assoc, le-leb, decimal}
use Rattle.std.specs.Prelude.{map, codes, if◌then◌else◌}
use Rattle.std.specs.List.{list_all}
use Rattle.std.proofs.lemmas.Bool.{and_parts, leb-true}
use Rattle.pf_base.specs.Decimal.{decimal_of}
use Rattle.pf_base.specs.declared.fault.Place.{Place}
use Rattle.pf_base.specs.declared.kind.Level.TheVariants as levels
use Rattle.pf_parts.specs.declared.block.BlockKind.TheVariants as blocks
use Rattle.pf_parts.specs.BlockText.{block_text}
use Rattle.pf_parts.specs.NameText.{is_bare}
use Rattle.pf_syntax.specs.Fault.{is_one_of, timeouts}
use Rattle.pf_syntax.specs.Symbols.{Symbol, Symbols, bare, quoted, symbols}
use Rattle.pf_syntax.specs.Words.{in_range, is_name, name_of}
use Rattle.pf_token.specs.declared.token.Token.{Token}
use Rattle.pf_decl.specs.declared.form.Decl.{Decl}
use Rattle.pf_decl.specs.declared.form.Decl.TheVariants as decls
use Rattle.pf_decl.specs.declared.form.SetForm.{SetForm}
use Rattle.pf_decl.specs.declared.form.SetForm.TheVariants.{Skip, BlockPolicy, StatePolicy, RulesetOptimization, Timeout, Limit, Optimization, Debug, Reassemble, LogInterface, Fingerprints}
use Rattle.pf_decl.specs.Decls.{declaration, decl_words, decl_behind, place_of}
use Rattle.pf_decl.specs.Lines.{set_text, policy_text, level_text, line_of}
use Rattle.pf_decl.specs.ReadBack.{ReadsAs, is_made, is_number}
use Rattle.pf_decl.specs.Settings.{setting, set_words, set_behind, skip, timeout, limit, block_policy, block_policies, state_policy, state_policies, ruleset_optimization, level_words, optimization, debug, reassemble, yes_or_no, log_interface, fingerprints, limits, optimizations, debug_levels}
use Rattle.pf_decl.proofs.Spelling.{spelled, symbol_text, token_of, IsSpelled, AreSpelled, no_more, and_more, all_read, cells_plain, no_newlines, symbols-tokens}
use Rattle.pf_decl.proofs.Tokenwise.{is_plain_word, word_spelled, name_spelled, number_plain, decimal_of-decimal}
use Rattle.pf_decl.proofs.WordLemmas.{one_of_passes}

-- a name as a word, where it can be one, or as a string
abbrev pub name_symbol : List ℕ → Symbol
name_symbol name = if is_bare name then bare name else quoted name

abbrev pub symbols_of : SetForm → List Symbol
symbols_of (Skip name) = bare (codes "set") ∷ bare (codes "skip") ∷ bare (codes "on") ∷ name_symbol name ∷ []
symbols_of (BlockPolicy kind) = bare (codes "set") ∷ bare (codes "block-policy") ∷ bare (block_text kind) ∷ []
symbols_of (StatePolicy bound) = bare (codes "set") ∷ bare (codes "state-policy") ∷ bare (policy_text bound) ∷ []
symbols_of (RulesetOptimization level) = bare (codes "set") ∷ bare (codes "ruleset-optimization") ∷ bare (level_text level) ∷ []
symbols_of (Timeout name value) = bare (codes "set") ∷ bare (codes "timeout") ∷ bare name ∷ bare (decimal value) ∷ []
symbols_of (Limit name most) = bare (codes "set") ∷ bare (codes "limit") ∷ bare name ∷ bare (decimal most) ∷ []
symbols_of (Optimization word) = bare (codes "set") ∷ bare (codes "optimization") ∷ bare word ∷ []
symbols_of (Debug word) = bare (codes "set") ∷ bare (codes "debug") ∷ bare word ∷ []
symbols_of (Reassemble true true) = bare (codes "set") ∷ bare (codes "reassemble") ∷ bare (codes "yes") ∷ bare (codes "no-df") ∷ []
symbols_of (Reassemble true false) = bare (codes "set") ∷ bare (codes "reassemble") ∷ bare (codes "yes") ∷ []
symbols_of (Reassemble false true) = bare (codes "set") ∷ bare (codes "reassemble") ∷ bare (codes "no") ∷ bare (codes "no-df") ∷ []
symbols_of (Reassemble false false) = bare (codes "set") ∷ bare (codes "reassemble") ∷ bare (codes "no") ∷ []
symbols_of (LogInterface name) = bare (codes "set") ∷ bare (codes "loginterface") ∷ name_symbol name ∷ []
symbols_of (Fingerprints name) = bare (codes "set") ∷ bare (codes "fingerprints") ∷ name_symbol name ∷ []

name_text-spelled : (b : Bool) (name : List ℕ) → symbol_text (if b then bare name else quoted name) ≡ (if b then name else 34 ∷ name ++ 34 ∷ [])
name_text-spelled true name = refl
name_text-spelled false name = refl

-- the line is spelled so
pub set_text-spelled : (form : SetForm) → set_text form ≡ spelled (symbols_of form)
unfolding set_text
set_text-spelled (Skip name) = ap (λ text. codes "set skip on " ++ text) (sym (name_text-spelled (is_bare name) name))
set_text-spelled (BlockPolicy kind) = refl
set_text-spelled (StatePolicy bound) = refl
set_text-spelled (RulesetOptimization level) = refl
set_text-spelled (Timeout name value) = append_assoc (codes "set timeout " ++ name) (codes " ") (decimal value) ∙ append_assoc (codes "set timeout ") name (codes " " ++ decimal value)
set_text-spelled (Limit name most) = append_assoc (codes "set limit " ++ name) (codes " ") (decimal most) ∙ append_assoc (codes "set limit ") name (codes " " ++ decimal most)
set_text-spelled (Optimization word) = refl
set_text-spelled (Debug word) = refl
set_text-spelled (Reassemble true true) = refl
set_text-spelled (Reassemble true false) = refl
set_text-spelled (Reassemble false true) = refl
set_text-spelled (Reassemble false false) = refl
set_text-spelled (LogInterface name) = ap (λ text. codes "set loginterface " ++ text) (sym (name_text-spelled (is_bare name) name))
set_text-spelled (Fingerprints name) = ap (λ text. codes "set fingerprints " ++ text) (sym (name_text-spelled (is_bare name) name))

-- a word whose list is fixed
fixed : (word : List ℕ) → is_plain_word word ≡ true → {rest : List Symbol} → AreSpelled rest → AreSpelled (bare word ∷ rest)
fixed word is others = and_more (word_spelled word is) others

one_of_fixed : (words : List (List ℕ)) (word : List ℕ) → list_all is_plain_word words ≡ true → is_one_of words word ≡ true → IsSpelled (bare word)
one_of_fixed words word each is = word_spelled word (one_of_passes is_plain_word words word each is)

number_spelled : (n : ℕ) → is_number n ≡ true → IsSpelled (bare (decimal n))
number_spelled n fits =
    let le : n ≤ 4294967295 = leb-true n 4294967295 fits in
    word_spelled (decimal n) (number_plain n (omega arith))

timeouts_plain : list_all is_plain_word timeouts ≡ true
unfolding timeouts
timeouts_plain = refl

limits_plain : list_all is_plain_word limits ≡ true
unfolding limits
limits_plain = refl

optimizations_plain : list_all is_plain_word optimizations ≡ true
unfolding optimizations
optimizations_plain = refl

debug_levels_plain : list_all is_plain_word debug_levels ≡ true
unfolding debug_levels
debug_levels_plain = refl

-- its symbols are words and strings
pub symbols_spelled : (form : SetForm) → is_made form ≡ true → AreSpelled (symbols_of form)
unfolding is_made block_text
symbols_spelled (Skip name) made =
    fixed (codes "set") refl (fixed (codes "skip") refl (fixed (codes "on") refl (and_more (name_spelled (is_bare name) name refl made) no_more)))
symbols_spelled (BlockPolicy blocks.Drop) made = fixed (codes "set") refl (fixed (codes "block-policy") refl (fixed (codes "drop") refl no_more))
symbols_spelled (BlockPolicy blocks.Return) made = fixed (codes "set") refl (fixed (codes "block-policy") refl (fixed (codes "return") refl no_more))
symbols_spelled (BlockPolicy (blocks.Rst ttl)) made = absurd (cc)
symbols_spelled (BlockPolicy (blocks.Icmp code code6)) made = absurd (cc)
symbols_spelled (StatePolicy true) made = fixed (codes "set") refl (fixed (codes "state-policy") refl (fixed (codes "if-bound") refl no_more))
symbols_spelled (StatePolicy false) made = fixed (codes "set") refl (fixed (codes "state-policy") refl (fixed (codes "floating") refl no_more))
symbols_spelled (RulesetOptimization levels.None) made = fixed (codes "set") refl (fixed (codes "ruleset-optimization") refl (fixed (codes "none") refl no_more))
symbols_spelled (RulesetOptimization levels.Basic) made = fixed (codes "set") refl (fixed (codes "ruleset-optimization") refl (fixed (codes "basic") refl no_more))
symbols_spelled (RulesetOptimization levels.Profile) made = fixed (codes "set") refl (fixed (codes "ruleset-optimization") refl (fixed (codes "profile") refl no_more))
symbols_spelled (Timeout name value) made =
    let p = and_parts _ _ made in
    fixed (codes "set") refl (fixed (codes "timeout") refl (and_more (one_of_fixed timeouts name timeouts_plain p.0) (and_more (number_spelled value p.1) no_more)))
symbols_spelled (Limit name most) made =
    let p = and_parts _ _ made in
    fixed (codes "set") refl (fixed (codes "limit") refl (and_more (one_of_fixed limits name limits_plain p.0) (and_more (number_spelled most p.1) no_more)))
symbols_spelled (Optimization word) made = fixed (codes "set") refl (fixed (codes "optimization") refl (and_more (one_of_fixed optimizations word optimizations_plain made) no_more))
symbols_spelled (Debug word) made = fixed (codes "set") refl (fixed (codes "debug") refl (and_more (one_of_fixed debug_levels word debug_levels_plain made) no_more))
symbols_spelled (Reassemble true true) made = fixed (codes "set") refl (fixed (codes "reassemble") refl (fixed (codes "yes") refl (fixed (codes "no-df") refl no_more)))
symbols_spelled (Reassemble true false) made = fixed (codes "set") refl (fixed (codes "reassemble") refl (fixed (codes "yes") refl no_more))
symbols_spelled (Reassemble false true) made = fixed (codes "set") refl (fixed (codes "reassemble") refl (fixed (codes "no") refl (fixed (codes "no-df") refl no_more)))
symbols_spelled (Reassemble false false) made = fixed (codes "set") refl (fixed (codes "reassemble") refl (fixed (codes "no") refl no_more))
symbols_spelled (LogInterface name) made = fixed (codes "set") refl (fixed (codes "loginterface") refl (and_more (name_spelled (is_bare name) name refl made) no_more))
symbols_spelled (Fingerprints name) made = fixed (codes "set") refl (fixed (codes "fingerprints") refl (and_more (name_spelled (is_bare name) name refl made) no_more))

-- what the statement says
abbrev says_line : SetForm → Option (Decl × Symbols)
says_line form = Some (decls.Set (line_of form ∷ []), [])

-- a name in any spelling
skip_read : (b : Bool) (name : List ℕ) (place : Place) → is_name name ≡ true
    → (declaration false place).reads (bare (codes "set") ∷ bare (codes "skip") ∷ bare (codes "on") ∷ (if b then bare name else quoted name) ∷ []) ≡ says_line (Skip name)
unfolding declaration decl_words decl_behind setting set_words set_behind skip name_of
skip_read true name place is = rw is refl
skip_read false name place is = rw is refl

log_interface_read : (b : Bool) (name : List ℕ) (place : Place) → is_name name ≡ true
    → (declaration false place).reads (bare (codes "set") ∷ bare (codes "loginterface") ∷ (if b then bare name else quoted name) ∷ []) ≡ says_line (LogInterface name)
unfolding declaration decl_words decl_behind setting set_words set_behind log_interface name_of
log_interface_read true name place is = rw is refl
log_interface_read false name place is = rw is refl

fingerprints_read : (b : Bool) (name : List ℕ) (place : Place) → is_name name ≡ true
    → (declaration false place).reads (bare (codes "set") ∷ bare (codes "fingerprints") ∷ (if b then bare name else quoted name) ∷ []) ≡ says_line (Fingerprints name)
unfolding declaration decl_words decl_behind setting set_words set_behind fingerprints name_of
fingerprints_read true name place is = rw is refl
fingerprints_read false name place is = rw is refl

number_read : (n : ℕ) → is_number n ≡ true → in_range 0 (decimal_of 4294967295 (decimal n)) ≡ Some n
number_read n fits = rw (decimal_of-decimal n (leb-true n 4294967295 fits), le-leb 0 n (omega arith)) refl

timeout_read : (name : List ℕ) (value : ℕ) (place : Place) → is_one_of timeouts name ≡ true → is_number value ≡ true
    → (declaration false place).reads (symbols_of (Timeout name value)) ≡ says_line (Timeout name value)
unfolding declaration decl_words decl_behind setting set_words set_behind timeout
timeout_read name value place is fits = rw (is, number_read value fits) refl

limit_read : (name : List ℕ) (most : ℕ) (place : Place) → is_one_of limits name ≡ true → is_number most ≡ true
    → (declaration false place).reads (symbols_of (Limit name most)) ≡ says_line (Limit name most)
unfolding declaration decl_words decl_behind setting set_words set_behind limit
limit_read name most place is fits = rw (is, number_read most fits) refl

optimization_read : (word : List ℕ) (place : Place) → is_one_of optimizations word ≡ true
    → (declaration false place).reads (symbols_of (Optimization word)) ≡ says_line (Optimization word)
unfolding declaration decl_words decl_behind setting set_words set_behind optimization
optimization_read word place is = rw is refl

debug_read : (word : List ℕ) (place : Place) → is_one_of debug_levels word ≡ true
    → (declaration false place).reads (symbols_of (Debug word)) ≡ says_line (Debug word)
unfolding declaration decl_words decl_behind setting set_words set_behind debug
debug_read word place is = rw is refl

pub symbols_read : (form : SetForm) (place : Place) → is_made form ≡ true → (declaration false place).reads (symbols_of form) ≡ says_line form
unfolding is_made declaration decl_words decl_behind setting set_words set_behind block_policy block_policies state_policy state_policies ruleset_optimization level_words reassemble yes_or_no block_text
symbols_read (Skip name) place made = skip_read (is_bare name) name place (and_parts _ _ made).0
symbols_read (BlockPolicy blocks.Drop) place made = refl
symbols_read (BlockPolicy blocks.Return) place made = refl
symbols_read (BlockPolicy (blocks.Rst ttl)) place made = absurd (cc)
symbols_read (BlockPolicy (blocks.Icmp code code6)) place made = absurd (cc)
symbols_read (StatePolicy true) place made = refl
symbols_read (StatePolicy false) place made = refl
symbols_read (RulesetOptimization levels.None) place made = refl
symbols_read (RulesetOptimization levels.Basic) place made = refl
symbols_read (RulesetOptimization levels.Profile) place made = refl
symbols_read (Timeout name value) place made = let p = and_parts _ _ made in timeout_read name value place p.0 p.1
symbols_read (Limit name most) place made = let p = and_parts _ _ made in limit_read name most place p.0 p.1
symbols_read (Optimization word) place made = optimization_read word place made
symbols_read (Debug word) place made = debug_read word place made
symbols_read (Reassemble true true) place made = refl
symbols_read (Reassemble true false) place made = refl
symbols_read (Reassemble false true) place made = refl
symbols_read (Reassemble false false) place made = refl
symbols_read (LogInterface name) place made = log_interface_read (is_bare name) name place (and_parts _ _ made).0
symbols_read (Fingerprints name) place made = fingerprints_read (is_bare name) name place (and_parts _ _ made).0

-- the tokens of the line
abbrev tokens_at : Place → SetForm → List Token
tokens_at place form = map (token_of place) (symbols_of form)

pub lines_read_back : (values : List ℕ → Option (List ℕ)) (place : Place) (form : SetForm) → is_made form ≡ true
    → ReadsAs values place (set_text form) (decls.Set (line_of form ∷ []))
lines_read_back values place form made =
    let are = symbols_spelled form made in
    let plain = cells_plain place (spelled (symbols_of form)) (no_newlines (symbols_of form) are) in
    let said = ap (declaration false (place_of (tokens_at place form))).reads (symbols-tokens place (symbols_of form)) ∙ symbols_read form (place_of (tokens_at place form)) made in
    record {
      tokens = tokens_at place form;
      spelled = rw (set_text-spelled form, plain) (all_read values place (symbols_of form) are);
      declares = (declaration false (place_of (tokens_at place form))).exact.sound (symbols (tokens_at place form)) (decls.Set (line_of form ∷ [])) [] said;
    }
