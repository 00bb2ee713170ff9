-- What the tokens of a statement declare.
use Rattle.std.specs.Prelude.{◌≡◌, Bool, not, List, [], ◌∷◌, codes}
use Rattle.pf_base.specs.declared.fault.Place.{Place}
use Rattle.pf_token.specs.declared.token.Token.{Token}
use Rattle.pf_syntax.specs.Fault.{outside_fault}
use Rattle.pf_syntax.specs.Grammar.{Grammar, ◌>>=◌, give}
use Rattle.pf_syntax.specs.Symbols.{symbols}
use Rattle.pf_syntax.specs.Words.{Keyword, key, keyword, only_where}
use Rattle.pf_syntax.specs.declared.fault.FormFault.{FormFault}
use Rattle.pf_syntax.specs.declared.fault.FormFault.TheVariants.{Syntax, Unsupported, StateOptions, AnchorEffect, BadFlags, NoMemory}
use Rattle.pf_decl.specs.declared.form.Decl.{Decl}
use Rattle.pf_decl.specs.declared.form.Decl.TheVariants as decls
use Rattle.pf_decl.specs.declared.keyword.DeclWord.{DeclWord}
use Rattle.pf_decl.specs.declared.keyword.DeclWord.TheVariants.{Set, Table, Queue}
use Rattle.pf_decl.specs.Queues.{queue}
use Rattle.pf_decl.specs.Settings.{setting}
use Rattle.pf_decl.specs.Tables.{table}

unfoldable pub decl_words : List (Keyword DeclWord)
decl_words = key (codes "set") Set ∷ key (codes "table") Table ∷ key (codes "queue") Queue ∷ []

-- what stands behind the first word, in a statement at this place
unfoldable pub decl_behind : DeclWord → Place → Grammar Decl
decl_behind Set place = do
  lines ← setting
  give (decls.Set lines)
decl_behind Table place = do
  form ← table
  give (decls.Table form)
decl_behind Queue place = do
  form ← queue place
  give (decls.Queue form)

-- `set`, `table` or `queue`, in a statement at this place; none of them has a body
unfoldable pub declaration : Bool → Place → Grammar Decl
declaration body place = do
  bare ← only_where (not body)
  which ← keyword decl_words
  decl_behind which place

-- where a statement begins
abbrev pub place_of : List Token → Place
place_of [] = record { file = 0; line = 0 }
place_of (token ∷ rest) = token.place

-- the tokens, all of them, with a body behind them or not, declare this
abbrev pub IsDecl : List Token → Bool → Decl → Type 0
IsDecl tokens body decl = (declaration body (place_of tokens)).derives (symbols tokens) decl []

-- the tokens declare nothing, and this says as what they are refused
pub record IsOutside (tokens : List Token) (body : Bool) (fault : FormFault) : Type 0 where
  pub none : (decl : Decl) → IsDecl tokens body decl → ⊥
  pub refused : fault ≡ outside_fault (symbols tokens)

-- what tokens are refused for: `Syntax` and `Unsupported` where they declare nothing
abbrev pub RefusesDecl : List Token → Bool → FormFault → Type 0
RefusesDecl tokens body Syntax = IsOutside tokens body Syntax
RefusesDecl tokens body (Unsupported word) = IsOutside tokens body (Unsupported word)
RefusesDecl tokens body StateOptions = ⊥
RefusesDecl tokens body AnchorEffect = ⊥
RefusesDecl tokens body BadFlags = ⊥
RefusesDecl tokens body NoMemory = Unit {0}
