-- What tokens declare, and what they are refused for.
use Rattle.std.proofs.Common.{◌≡◌, ℕ, Bool, true, false, List, [], ◌∷◌, Option, Some, None, refl, ap, sym, ◌∙◌}
use Rattle.pf_token.specs.declared.token.Token.{Token}
use Rattle.pf_syntax.specs.Fault.{fault_of_word, first_left_out, outside_fault}
use Rattle.pf_syntax.specs.Symbols.{Symbols, is_end, symbols}
use Rattle.pf_syntax.specs.declared.fault.FormFault.{FormFault}
use Rattle.pf_syntax.specs.declared.fault.FormFault.TheVariants.{Syntax, Unsupported, StateOptions, AnchorEffect, BadFlags, NoMemory}
use Rattle.pf_decl.specs.declared.form.Decl.{Decl}
use Rattle.pf_decl.specs.Coming.{DeclaresOrNot, declares, refused as refused_with}
use Rattle.pf_decl.specs.Decls.{declaration, place_of, IsDecl, RefusesDecl}

abbrev decl_in : Decl → Option (Decl × Symbols) → Decl
decl_in other None = other
decl_in other (Some (decl, rest)) = decl

abbrev ends_in : Option (Decl × Symbols) → Bool
ends_in None = false
ends_in (Some (decl, rest)) = is_end rest

-- the whole of the tokens is read
pub decl_found : (tokens : List Token) (body : Bool) (decl : Decl) (rest : Symbols)
    → (declaration body (place_of tokens)).reads (symbols tokens) ≡ Some (decl, rest) → is_end rest ≡ true → IsDecl tokens body decl
decl_found tokens body decl [] said ends = (declaration body (place_of tokens)).exact.sound (symbols tokens) decl [] said
decl_found tokens body decl (symbol ∷ rest) said ends = absurd (cc)

-- what is read is the declaration
pub decl_only : (tokens : List Token) (body : Bool) (decl other : Decl) (rest : Symbols)
    → (declaration body (place_of tokens)).reads (symbols tokens) ≡ Some (decl, rest) → IsDecl tokens body other → decl ≡ other
decl_only tokens body decl other rest said is =
    ap (decl_in decl) (sym said ∙ (declaration body (place_of tokens)).exact.found (symbols tokens) other [] is)

-- nothing is read
pub none_outside : (tokens : List Token) (body : Bool) → (declaration body (place_of tokens)).reads (symbols tokens) ≡ None
    → (decl : Decl) → IsDecl tokens body decl → ⊥
none_outside tokens body said decl is =
    let e = sym said ∙ (declaration body (place_of tokens)).exact.found (symbols tokens) decl [] is in
    let b : false ≡ true = ap ends_in e in cc

-- something is left
pub none_before_more : (tokens : List Token) (body : Bool) (read : Decl) (rest : Symbols)
    → (declaration body (place_of tokens)).reads (symbols tokens) ≡ Some (read, rest) → is_end rest ≡ false → (decl : Decl) → IsDecl tokens body decl → ⊥
none_before_more tokens body read rest said more decl is =
    let e = sym said ∙ (declaration body (place_of tokens)).exact.found (symbols tokens) decl [] is in
    let b : is_end rest ≡ true = ap ends_in e in
    let c : false ≡ true = sym more ∙ b in cc

abbrev is_early : FormFault → Bool
is_early Syntax = true
is_early (Unsupported _) = true
is_early StateOptions = false
is_early AnchorEffect = false
is_early BadFlags = false
is_early NoMemory = false

outside_is_early : (word : Option (List ℕ)) → is_early (fault_of_word word) ≡ true
outside_is_early None = refl
outside_is_early (Some word) = refl

-- tokens that declare nothing are refused so
pub refused : (tokens : List Token) (body : Bool) (fault : FormFault) → fault ≡ outside_fault (symbols tokens)
    → ((decl : Decl) → IsDecl tokens body decl → ⊥) → RefusesDecl tokens body fault
refused tokens body Syntax is none = record { none = none; refused = is }
refused tokens body (Unsupported word) is none = record { none = none; refused = is }
refused tokens body StateOptions is none =
    let b : false ≡ true = ap is_early is ∙ outside_is_early (first_left_out (symbols tokens)) in absurd (cc)
refused tokens body AnchorEffect is none =
    let b : false ≡ true = ap is_early is ∙ outside_is_early (first_left_out (symbols tokens)) in absurd (cc)
refused tokens body BadFlags is none =
    let b : false ≡ true = ap is_early is ∙ outside_is_early (first_left_out (symbols tokens)) in absurd (cc)
refused tokens body NoMemory is none = tt

by_reading : (tokens : List Token) (body : Bool) (o : Option (Decl × Symbols)) → (declaration body (place_of tokens)).reads (symbols tokens) ≡ o → DeclaresOrNot tokens body
by_reading tokens body None said = refused_with (outside_fault (symbols tokens)) (record { none = none_outside tokens body said; refused = refl })
by_reading tokens body (Some (decl, [])) said = declares decl (decl_found tokens body decl [] said refl)
by_reading tokens body (Some (decl, symbol ∷ rest)) said = refused_with (outside_fault (symbols tokens)) (record { none = none_before_more tokens body decl (symbol ∷ rest) said refl; refused = refl })

-- tokens declare something or are refused
pub declares_or_not : (tokens : List Token) (body : Bool) → DeclaresOrNot tokens body
declares_or_not tokens body = by_reading tokens body ((declaration body (place_of tokens)).reads (symbols tokens)) refl
