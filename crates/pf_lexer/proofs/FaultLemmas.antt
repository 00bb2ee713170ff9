-- Which fault decides, list by list and token by token.
use Rattle.std.proofs.Common.{◌≡◌, Bool, true, false, List, [], ◌∷◌, ◌++◌, Option, Some, None, refl, ap, sym, ◌∙◌, append_assoc, arith}
use Rattle.std.specs.Prelude.{nat_le}
use Rattle.std.proofs.lemmas.Bool.{leb-true, leb-false}
use Rattle.pf_token.specs.declared.token.Token.{Token as TokenOf}
use Rattle.pf_token.specs.declared.token.Fault.{Fault as FaultOf}
use Rattle.pf_token.specs.declared.token.Lexeme.{Lexeme}
use Rattle.pf_token.specs.declared.token.Lexeme.TheVariants.{Token, Fault}
use Rattle.pf_lexer.specs.Faults.{decided, earlier, or_earlier, token_faults}
use Rattle.pf_token.specs.Kinds.{rank}

-- of three the same one decides, however they are grouped
three : (f g h : FaultOf) (a b c : Bool) → nat_le (rank f.cause) (rank g.cause) ≡ a → nat_le (rank g.cause) (rank h.cause) ≡ b → nat_le (rank f.cause) (rank h.cause) ≡ c
    → earlier (earlier f (Some g)) (Some h) ≡ earlier f (Some (earlier g (Some h)))
three f g h true true true p q r = rw (p, q, r, p) refl
three f g h true true false p q r = absurd (omega (arith, leb-true _ _ p, leb-true _ _ q, leb-false _ _ r))
three f g h true false c p q r = rw (p, q) refl
three f g h false true c p q r = rw (p, q, p) refl
three f g h false false true p q r = absurd (omega (arith, leb-false _ _ p, leb-false _ _ q, leb-true _ _ r))
three f g h false false false p q r = rw (p, q, r) refl

or_earlier_assoc : (a b c : Option FaultOf) → or_earlier (or_earlier a b) c ≡ or_earlier a (or_earlier b c)
or_earlier_assoc None b c = refl
or_earlier_assoc (Some f) None c = refl
or_earlier_assoc (Some f) (Some g) None = refl
or_earlier_assoc (Some f) (Some g) (Some h) = ap (λ x. Some x) (three f g h _ _ _ refl refl refl)

pub decided-append : (xs ys : List FaultOf) → decided (xs ++ ys) ≡ or_earlier (decided xs) (decided ys)
decided-append [] ys = refl
decided-append (x ∷ xs) ys = ap (or_earlier (Some x)) (decided-append xs ys) ∙ sym (or_earlier_assoc (Some x) (decided xs) (decided ys))

pub decided_push : (xs : List FaultOf) (f : FaultOf) → or_earlier (decided xs) (Some f) ≡ decided (xs ++ f ∷ [])
decided_push xs f = sym (decided-append xs (f ∷ []))

token_faults_fault : (lexemes : List Lexeme) (fault : FaultOf) → token_faults lexemes ++ fault ∷ [] ≡ token_faults (lexemes ++ Fault fault ∷ [])
token_faults_fault [] fault = refl
token_faults_fault (Token first ∷ lexemes) fault = token_faults_fault lexemes fault
token_faults_fault (Fault first ∷ lexemes) fault = ap (λ t. first ∷ t) (token_faults_fault lexemes fault)

token_faults_token : (lexemes : List Lexeme) (token : TokenOf) → token_faults lexemes ≡ token_faults (lexemes ++ Token token ∷ [])
token_faults_token [] token = refl
token_faults_token (Token first ∷ lexemes) token = token_faults_token lexemes token
token_faults_token (Fault first ∷ lexemes) token = ap (λ t. first ∷ t) (token_faults_token lexemes token)

-- one more token, behind faults that were found before
pub decided_fault_push : (before : List FaultOf) (lexemes : List Lexeme) (fault : FaultOf) → or_earlier (decided (before ++ token_faults lexemes)) (Some fault) ≡ decided (before ++ token_faults (lexemes ++ Fault fault ∷ []))
decided_fault_push before lexemes fault =
    decided_push (before ++ token_faults lexemes) fault
    ∙ ap decided (append_assoc before (token_faults lexemes) (fault ∷ []) ∙ ap (λ t. before ++ t) (token_faults_fault lexemes fault))

pub decided_token_push : (before : List FaultOf) (lexemes : List Lexeme) (token : TokenOf) → decided (before ++ token_faults lexemes) ≡ decided (before ++ token_faults (lexemes ++ Token token ∷ []))
decided_token_push before lexemes token = ap (λ t. decided (before ++ t)) (token_faults_token lexemes token)
