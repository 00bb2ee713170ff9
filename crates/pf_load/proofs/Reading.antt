-- What a statement comes to, from what its calls answer.
use Rattle.std.proofs.Common.{◌≡◌, ℕ, ◌<◌, Bool, true, false, List, [], ◌∷◌, Option, Some, None, Result, Ok, Err, refl, sym, ap, subst, ◌∙◌}
use Rattle.std.specs.Prelude.{◌&&◌}
use Rattle.std.specs.List.{list_all}
use Rattle.pf_base.specs.declared.fault.FaultKind.{FaultKind}
use Rattle.pf_base.specs.declared.fault.Place.{Place}
use Rattle.pf_decl.specs.Decls.{IsDecl, RefusesDecl, place_of}
use Rattle.pf_decl.specs.declared.form.Decl.{Decl}
use Rattle.pf_decl.specs.declared.form.Decl.TheVariants as decls
use Rattle.pf_decl.specs.declared.form.TableForm.{TableForm}
use Rattle.pf_form.specs.declared.form.Draft.{Draft as Said}
use Rattle.pf_grammar.specs.Bytes.{symbol_has_bytes, symbols_have_bytes}
use Rattle.pf_grammar.specs.Forms.{HasForm, IsDraft, RefusesDraft}
use Rattle.pf_grammar.specs.Late.{late_of}
use Rattle.pf_host.specs.Facts.{HostFacts}
use Rattle.pf_lexer.specs.Calls.{AreNumbered}
use Rattle.pf_lexer.specs.ReadSoFar.{ReadSoFar}
use Rattle.pf_lexer.specs.Words.{text_has_bytes, token_has_bytes, tokens_have_bytes}
use Rattle.pf_lexer.specs.declared.deed.Statement.{Statement}
use Rattle.pf_lexer.specs.declared.reads.ReadFile.{ReadFile}
use Rattle.pf_plan.specs.Drafts.{is_in_body, with_table}
use Rattle.pf_fault.specs.Stops.{UnlessShort}
use Rattle.pf_entries.specs.TableFiles.{Contents, contents_of}
use Rattle.pf_entries.specs.Tables.{ComesOf, MayCome, has_words}
use Rattle.pf_plan.specs.declared.draft.Draft.{Draft}
use Rattle.pf_fault.specs.declared.fault.Stop.{Stop}
use Rattle.pf_fault.specs.declared.fault.Stop.TheVariants as stops
use Rattle.pf_shelf.specs.declared.decl.TableDecl.{TableDecl}
use Rattle.pf_source.specs.Disk.{Disk, without}
use Rattle.pf_syntax.specs.Symbols.{symbol_of, symbol_of_kind, symbols}
use Rattle.pf_syntax.specs.declared.fault.FormFault.{FormFault}
use Rattle.pf_syntax.specs.declared.fault.FormFault.TheVariants as outside
use Rattle.pf_token.specs.declared.token.Token.{Token}
use Rattle.pf_token.specs.declared.token.TokenKind.{TokenKind}
use Rattle.pf_token.specs.declared.token.TokenKind.TheVariants.{Word, Quoted, Sign, Newline}
use Rattle.pf_load.specs.Answers.{DeclHasWords, DeclStandsMay, May, Somewhere, StatementMay, TableMay}
use Rattle.pf_load.specs.Statements.{Comes, DeclComes, DeclStands, RuleComes, SaidComes, StatementComes, TableStands, is_declared, is_said, no_decl, no_rule, stop_of, way_of}
use Rattle.pf_load.specs.declared.way.Way.{Way}
use Rattle.pf_load.specs.declared.way.Way.TheVariants.{Nothing, Rules}

-- an answer of one meaning has another that follows from it
pub short_to : {A : Type 0} (P Q : Result A Stop → Type 0) → ((r : Result A Stop) → P r → Q r) → (r : Result A Stop) → UnlessShort P r → UnlessShort Q r
short_to P Q f (Ok x) h = f (Ok x) h
short_to P Q f (Err (stops.Fault fault)) h = f (Err (stops.Fault fault)) h
short_to P Q f (Err (stops.Unread name)) h = f (Err (stops.Unread name)) h
short_to P Q f (Err stops.NoMemory) h = tt

-- what comes without a reading comes over each disk
pub may_from : (P : Result Draft Stop → Type 0) (Gives : Disk → Result Draft Stop → ReadSoFar → Type 0) (reads : ReadSoFar) → ((disk : Disk) (r : Result Draft Stop) → P r → Gives disk r reads)
    → (disk : Disk) (r : Result Draft Stop) → UnlessShort P r → May Gives disk r reads
may_from P Gives reads f disk (Ok draft) h = f disk (Ok draft) h
may_from P Gives reads f disk (Err (stops.Fault fault)) h = f disk (Err (stops.Fault fault)) h
may_from P Gives reads f disk (Err (stops.Unread name)) h = record { at = reads; comes = f (without (Some name) disk) (Err (stops.Unread name)) h }
may_from P Gives reads f disk (Err stops.NoMemory) h = tt

pub may_map : (P Q : Disk → Result Draft Stop → ReadSoFar → Type 0) → ((disk : Disk) (r : Result Draft Stop) (later : ReadSoFar) → P disk r later → Q disk r later)
    → (disk : Disk) (r : Result Draft Stop) (later : ReadSoFar) → May P disk r later → May Q disk r later
may_map P Q f disk (Ok draft) later h = f disk (Ok draft) later h
may_map P Q f disk (Err (stops.Fault fault)) later h = f disk (Err (stops.Fault fault)) later h
may_map P Q f disk (Err (stops.Unread name)) later h = record { at = h.at; comes = f (without (Some name) disk) (Err (stops.Unread name)) h.at h.comes }
may_map P Q f disk (Err stops.NoMemory) later h = tt

-- a statement is read in its way
pub in_way : (disk : Disk) (facts : HostFacts) (said : Statement) (draft : Draft) (reads later : ReadSoFar) (result : Result Draft Stop) (way : Way) → way_of said.tokens ≡ way
    → May (λ d. Comes d facts way said.tokens said.body draft reads) disk result later → StatementMay disk facts said draft reads result later
in_way disk facts said draft reads later result way is h =
    subst (λ (w : Way). May (λ d. Comes d facts w said.tokens said.body draft reads) disk result later) (sym is) h

-- tokens that say this
pub rule_said : (facts : HostFacts) (tokens : List Token) (body : Bool) (draft : Draft) (said : Said) → IsDraft tokens body said → (r : Result Draft Stop)
    → UnlessShort (SaidComes facts draft said (place_of tokens) said.form.head) r → UnlessShort (RuleComes facts tokens body draft) r
rule_said facts tokens body draft said is r h = short_to (SaidComes facts draft said (place_of tokens) said.form.head) (RuleComes facts tokens body draft) (λ x k. is_said said is k) r h

-- the form of tokens that say this
pub said_form : (tokens : List Token) (body : Bool) (said : Said) → IsDraft tokens body said → HasForm tokens body said.form (late_of said)
said_form tokens body said is = record { draft = said; derived = is; says = refl; fault = refl }

-- tokens outside the grammar of rules
pub rule_refused : (facts : HostFacts) (tokens : List Token) (body : Bool) (draft : Draft) (fault : FormFault) → RefusesDraft tokens body fault
    → UnlessShort (RuleComes facts tokens body draft) (Err (stop_of fault (place_of tokens)))
rule_refused facts tokens body draft outside.Syntax h = no_rule outside.Syntax h refl
rule_refused facts tokens body draft (outside.Unsupported word) h = no_rule (outside.Unsupported word) h refl
rule_refused facts tokens body draft outside.StateOptions h = absurd h
rule_refused facts tokens body draft outside.AnchorEffect h = absurd h
rule_refused facts tokens body draft outside.BadFlags h = absurd h
rule_refused facts tokens body draft outside.NoMemory h = tt

-- tokens that declare this
pub decl_said : (facts : HostFacts) (tokens : List Token) (body : Bool) (draft : Draft) (reads : ReadSoFar) (decl : Decl) → IsDecl tokens body decl
    → (disk : Disk) (r : Result Draft Stop) (later : ReadSoFar) → DeclStandsMay disk facts draft (place_of tokens) reads decl r later → May (λ d. DeclComes d facts tokens body draft reads) disk r later
decl_said facts tokens body draft reads decl is disk r later h =
    may_map (λ d. DeclStands d facts draft (place_of tokens) reads decl) (λ d. DeclComes d facts tokens body draft reads) (λ d x l k. is_declared decl is k) disk r later h

-- tokens that declare nothing
pub decl_refused : (facts : HostFacts) (tokens : List Token) (body : Bool) (draft : Draft) (reads : ReadSoFar) (fault : FormFault) → RefusesDecl tokens body fault
    → (disk : Disk) → May (λ d. DeclComes d facts tokens body draft reads) disk (Err (stop_of fault (place_of tokens))) reads
decl_refused facts tokens body draft reads outside.Syntax h disk = no_decl outside.Syntax h (refl, refl)
decl_refused facts tokens body draft reads (outside.Unsupported word) h disk = no_decl (outside.Unsupported word) h (refl, refl)
decl_refused facts tokens body draft reads outside.StateOptions h disk = absurd h
decl_refused facts tokens body draft reads outside.AnchorEffect h disk = absurd h
decl_refused facts tokens body draft reads outside.BadFlags h disk = absurd h
decl_refused facts tokens body draft reads outside.NoMemory h disk = tt

-- a table outside of a body, from what its declaration may come to
module _ (disk : Disk) (facts : HostFacts) (draft : Draft) (form : TableForm) (place : Place) (reads : ReadSoFar) where
  stands_may : (stop : Stop) (later : ReadSoFar) → MayCome disk facts draft.here.own.tables form place reads (Err stop) later → May (λ d. TableStands d facts draft form place reads false) disk (Err stop) later
  stands_may (stops.Fault fault) later h = record { table = Err (stops.Fault fault); comes = h; gives = refl }
  stands_may (stops.Unread name) later h =
      let gone : Contents = contents_of (without (Some name) disk) form.files reads in
      record {
        at = gone.later;
        comes = record {
          table = Err (stops.Unread name);
          comes = record { comes = subst (λ (f : Result (List ReadFile) Stop). ComesOf facts draft.here.own.tables form place f (Err (stops.Unread name))) (sym h) refl; read = refl };
          gives = refl;
        };
      }
  stands_may stops.NoMemory later h = tt

  -- a table that isn't read
  pub table_stopped : is_in_body draft ≡ false → (stop : Stop) (later : ReadSoFar) → MayCome disk facts draft.here.own.tables form place reads (Err stop) later → TableMay disk facts draft form place reads (Err stop) later
  table_stopped out stop later h = subst (λ (b : Bool). May (λ d. TableStands d facts draft form place reads b) disk (Err stop) later) (sym out) (stands_may stop later h)

  -- a table that is read, and laid on the draft
  pub table_taken : is_in_body draft ≡ false → (table : TableDecl) (later : ReadSoFar) (new : Draft) → MayCome disk facts draft.here.own.tables form place reads (Ok table) later → new ≡ with_table draft table → TableMay disk facts draft form place reads (Ok new) later
  table_taken out table later new h is =
      let stands : TableStands disk facts draft form place reads false (Ok new) later = record { table = Ok table; comes = h; gives = ap (λ (d : Draft). Ok d) is } in
      subst (λ (b : Bool). TableStands disk facts draft form place reads b (Ok new) later) (sym out) stands

-- where a rule begins is a place in a file that has a number
pub numbered_place : (count : ℕ) (tokens : List Token) → AreNumbered count tokens → way_of tokens ≡ Rules → (place_of tokens).file < count
numbered_place count [] h is = absurd cc
numbered_place count (token ∷ tokens) h is = h.0

-- the words of a statement have bytes, as the lexer and as the grammar say it
words_alike : (kind : TokenKind) (text : List ℕ) → text_has_bytes kind text ≡ symbol_has_bytes (symbol_of_kind kind text)
words_alike Word text = refl
words_alike Quoted text = refl
words_alike Sign text = refl
words_alike Newline text = refl

all_alike : (tokens : List Token) → list_all token_has_bytes tokens ≡ list_all symbol_has_bytes (symbols tokens)
all_alike [] = refl
all_alike (token ∷ tokens) =
    ap (λ (b : Bool). b && list_all token_has_bytes tokens) (words_alike token.kind token.text) ∙ ap (λ (b : Bool). symbol_has_bytes (symbol_of token) && b) (all_alike tokens)

pub statement_words : (tokens : List Token) → tokens_have_bytes tokens ≡ true → symbols_have_bytes (symbols tokens) ≡ true
statement_words tokens h = sym (all_alike tokens) ∙ h

-- the law of the grammar of declarations below
abbrev pub TablesHaveWords : Type 0
TablesHaveWords = (tokens : List Token) (body : Bool) (form : TableForm) → symbols_have_bytes (symbols tokens) ≡ true → IsDecl tokens body (decls.Table form) → has_words form ≡ true

pub decl_words : TablesHaveWords → (tokens : List Token) (body : Bool) (decl : Decl) → symbols_have_bytes (symbols tokens) ≡ true → IsDecl tokens body decl → DeclHasWords decl
decl_words law tokens body (decls.Table form) words is = law tokens body form words is
decl_words law tokens body (decls.Set lines) words is = tt
decl_words law tokens body (decls.Queue queue) words is = tt
