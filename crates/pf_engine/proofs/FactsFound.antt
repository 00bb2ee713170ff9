-- A text says the facts of a host, or one of its lines is the first with a fault.
use Rattle.std.proofs.Common.{◌≡◌, ℕ, ◌+◌, ◌<◌, ◌≤◌, ◌⊎◌, Bool, true, false, cond, List, [], ◌∷◌, ◌++◌, length, Option, Some, None, refl, sym, ap, subst, ◌∙◌, inl, inr, arith, append_assoc, if◌then◌else◌}
use Rattle.std.specs.Prelude.{IsTrue, ◌&&◌, codes, is_some, nat_le}
use Rattle.std.specs.List.{AllByRecursion, AllZip, cons_option, filter, filter_map, flat_map}
use Rattle.std.specs.Option.{IsSomeAnd}
use Rattle.std.specs.Str.{bytes_eq}
use Rattle.std.proofs.lemmas.Bool.{false≢true}
use Rattle.std.proofs.lemmas.List.{append-nil}
use Rattle.pf_base.specs.Decimal.{decimal_of}
use Rattle.pf_base.specs.Text.{fields_of, lines_of}
use Rattle.pf_addr.specs.Grammar.{IsAddrText}
use Rattle.pf_addr.specs.PrefixText.{IsMaskedText}
use Rattle.pf_addr.specs.declared.addr.Addr.{Addr}
use Rattle.pf_addr.specs.declared.parse.Masked.{Masked}
use Rattle.pf_host.specs.Facts.{HostFacts}
use Rattle.pf_host.specs.Line.{Line, is_about, is_passed_over, kind_named, line_about, line_of, line_said, lines_about, lines_said, word_of}
use Rattle.pf_host.specs.Meaning.{AreSaid, HasBadAddress, HasBadNumber, HasCause, HasFault, IsBadLine, IsFactsText, IsFaultAt, IsFirst, SaysAddress, SaysHost, SaysNumber, StandsAt, groups_said, is_limited, is_named, is_single, most_id, most_port, names_about, rank}
use Rattle.pf_host.specs.declared.fault.FactsCause.{FactsCause}
use Rattle.pf_host.specs.declared.fault.FactsCause.TheVariants.{BadLine, Unknown, Twice, BadAddress, BadNumber, Full}
use Rattle.pf_engine.proofs.Written.{addr_or_not, masked_or_not}

-- it holds or not
abbrev Holds : Type 0 → Type 0
Holds P = P ⊎ (P → ⊥)

true_or_not : (b : Bool) → Holds (IsTrue b)
true_or_not true = inl refl
true_or_not false = inr false≢true

none_or_not : {A : Type 0} (o : Option A) → Holds (o ≡ None)
none_or_not None = inl refl
none_or_not (Some x) = inr (λ e. absurd cc)

-- ---- what a line is about: its first word names it, so it is one of six

inside : {A : Type 0} (x y : A) → Some x ≡ Some y → x ≡ y
inside x y e = cc

nothing_named : {K : Type 0} {Goal : Type 0} (kind : K) → ◌≡◌ {A = Option K} None (Some kind) → Goal
nothing_named kind e = cc

the : {A : Type 0} (o : Option A) → is_some o ≡ true → A
the None some = absurd (false≢true some)
the (Some x) some = x

interface_named : is_some (kind_named (codes "interface")) ≡ true
unfolding kind_named
interface_named = refl

address_named : is_some (kind_named (codes "address")) ≡ true
unfolding kind_named
address_named = refl

host_named : is_some (kind_named (codes "host")) ≡ true
unfolding kind_named
host_named = refl

user_named : is_some (kind_named (codes "user")) ≡ true
unfolding kind_named
user_named = refl

group_named : is_some (kind_named (codes "group")) ≡ true
unfolding kind_named
group_named = refl

service_named : is_some (kind_named (codes "service")) ≡ true
unfolding kind_named
service_named = refl

-- the first of six that a test picks
first_of_six : {K : Type 0} (P : K → Type 0) (b1 b2 b3 b4 b5 b6 : Bool) (k1 k2 k3 k4 k5 k6 kind : K) → (if b1 then Some k1 else (if b2 then Some k2 else (if b3 then Some k3 else (if b4 then Some k4 else (if b5 then Some k5 else (if b6 then Some k6 else None)))))) ≡ Some kind → P k1 → P k2 → P k3 → P k4 → P k5 → P k6 → P kind
first_of_six P true b2 b3 b4 b5 b6 k1 k2 k3 k4 k5 k6 kind e p1 p2 p3 p4 p5 p6 = subst P (inside k1 kind e) p1
first_of_six P false true b3 b4 b5 b6 k1 k2 k3 k4 k5 k6 kind e p1 p2 p3 p4 p5 p6 = subst P (inside k2 kind e) p2
first_of_six P false false true b4 b5 b6 k1 k2 k3 k4 k5 k6 kind e p1 p2 p3 p4 p5 p6 = subst P (inside k3 kind e) p3
first_of_six P false false false true b5 b6 k1 k2 k3 k4 k5 k6 kind e p1 p2 p3 p4 p5 p6 = subst P (inside k4 kind e) p4
first_of_six P false false false false true b6 k1 k2 k3 k4 k5 k6 kind e p1 p2 p3 p4 p5 p6 = subst P (inside k5 kind e) p5
first_of_six P false false false false false true k1 k2 k3 k4 k5 k6 kind e p1 p2 p3 p4 p5 p6 = subst P (inside k6 kind e) p6
first_of_six P false false false false false false k1 k2 k3 k4 k5 k6 kind e p1 p2 p3 p4 p5 p6 = nothing_named kind e

-- a line that begins with a word that names its kind
record IsNamed (line : Line) : Type 0 where
  word : List ℕ
  is : kind_named word ≡ Some line.kind

bad_address_or_not : (line : Line) → IsNamed line → (word : List ℕ) → Holds (HasBadAddress line.kind word)
unfolding kind_named the
bad_address_or_not line named word =
    first_of_six (λ kind. Holds (HasBadAddress kind word))
    (bytes_eq named.word (codes "interface")) (bytes_eq named.word (codes "address")) (bytes_eq named.word (codes "host")) (bytes_eq named.word (codes "user")) (bytes_eq named.word (codes "group")) (bytes_eq named.word (codes "service"))
    (the (kind_named (codes "interface")) interface_named) (the (kind_named (codes "address")) address_named) (the (kind_named (codes "host")) host_named) (the (kind_named (codes "user")) user_named) (the (kind_named (codes "group")) group_named) (the (kind_named (codes "service")) service_named)
    line.kind named.is (inr (λ h. h))
    (elim (masked_or_not word) [ inl some ↦ inr (λ none. none some.0 some.1) | inr none ↦ inl none ])
    (elim (addr_or_not word) [ inl some ↦ inr (λ none. none some.0 some.1) | inr none ↦ inl none ])
    (inr (λ h. h))
    (inr (λ h. h))
    (inr (λ h. h))

bad_number_or_not : (line : Line) → IsNamed line → (word : List ℕ) → Holds (HasBadNumber line.kind word)
unfolding kind_named the
bad_number_or_not line named word =
    first_of_six (λ kind. Holds (HasBadNumber kind word))
    (bytes_eq named.word (codes "interface")) (bytes_eq named.word (codes "address")) (bytes_eq named.word (codes "host")) (bytes_eq named.word (codes "user")) (bytes_eq named.word (codes "group")) (bytes_eq named.word (codes "service"))
    (the (kind_named (codes "interface")) interface_named) (the (kind_named (codes "address")) address_named) (the (kind_named (codes "host")) host_named) (the (kind_named (codes "user")) user_named) (the (kind_named (codes "group")) group_named) (the (kind_named (codes "service")) service_named)
    line.kind named.is (inr (λ h. h))
    (inr (λ h. h))
    (inr (λ h. h))
    (none_or_not (decimal_of most_id word))
    (none_or_not (decimal_of most_id word))
    (none_or_not (decimal_of most_port word))

-- what a line of a text says is named
plain_line : (b : Bool) (line said : Line) → (if b then Some line else None) ≡ Some said → line.kind ≡ said.kind
plain_line true line said e = ap (λ (l : Line). l.kind) (inside line said e)
plain_line false line said e = nothing_named said e

words_named : (words : List (List ℕ)) (line : Line) → line_of words ≡ Some line → IsNamed line
words_named [] line e = nothing_named line e
words_named (keyword ∷ []) line e = nothing_named line e
words_named (keyword ∷ name ∷ rest) line e =
    elim (kind_named keyword) as (λ r. kind_named keyword ≡ r → line_about r name rest ≡ Some line → IsNamed line) [
      | None ↦ λ is e. nothing_named line e
      | Some kind ↦ λ is e. record { word = keyword; is = is ∙ ap (λ k. Some k) (plain_line _ (record { kind = kind; name = name; rest = rest }) line e) }
    ] refl e

said_named : (text : List ℕ) (line : Line) → line_said text ≡ Some line → IsNamed line
unfolding line_said
said_named text line e = passed (is_passed_over text) e
  where
    passed : (b : Bool) → (if b then None else line_of (fields_of text)) ≡ Some line → IsNamed line
    passed true e = nothing_named line e
    passed false e = words_named (fields_of text) line e

-- ---- the faults of a line are decided

cause_or_not : (before : List Line) (line : Line) → IsNamed line → (cause : FactsCause) → Holds (HasCause before line cause)
cause_or_not before line named BadLine = inr (λ h. h)
cause_or_not before line named Unknown = true_or_not _
cause_or_not before line named Twice = true_or_not (is_single line.kind && is_named line.kind before line.name)
cause_or_not before line named BadAddress = bad_address_or_not line named (word_of line.rest)
cause_or_not before line named BadNumber = bad_number_or_not line named (word_of line.rest)
cause_or_not before line named Full = true_or_not (is_limited line.kind && nat_le 1024 (length (lines_about line.kind before)))

said_or_not : (o : Option Line) (P : Line → Type 0) → ((line : Line) → o ≡ Some line → Holds (P line)) → Holds (IsSomeAnd o P)
said_or_not None P each = inr (λ h. h)
said_or_not (Some line) P each = each line refl

false_or_not : (b : Bool) → Holds (b ≡ false)
false_or_not true = inr (λ e. false≢true (sym e))
false_or_not false = inl refl

bad_line_or_not : (text : List ℕ) → Holds (IsBadLine text)
bad_line_or_not text =
    elim (false_or_not (is_passed_over text)) [
      | inr passed ↦ inr (λ bad. passed bad.said)
      | inl said ↦ elim (none_or_not (line_of (fields_of text))) [
        | inl none ↦ inl (record { said = said; formless = none })
        | inr some ↦ inr (λ bad. some bad.formless)
      ]
    ]

fault_or_not : (before : List (List ℕ)) (text : List ℕ) (cause : FactsCause) → Holds (HasFault before text cause)
fault_or_not before text BadLine = bad_line_or_not text
fault_or_not before text Unknown = said_or_not (line_said text) (λ line. HasCause (lines_said before) line Unknown) (λ line said. cause_or_not (lines_said before) line (said_named text line said) Unknown)
fault_or_not before text Twice = said_or_not (line_said text) (λ line. HasCause (lines_said before) line Twice) (λ line said. cause_or_not (lines_said before) line (said_named text line said) Twice)
fault_or_not before text BadAddress = said_or_not (line_said text) (λ line. HasCause (lines_said before) line BadAddress) (λ line said. cause_or_not (lines_said before) line (said_named text line said) BadAddress)
fault_or_not before text BadNumber = said_or_not (line_said text) (λ line. HasCause (lines_said before) line BadNumber) (λ line said. cause_or_not (lines_said before) line (said_named text line said) BadNumber)
fault_or_not before text Full = said_or_not (line_said text) (λ line. HasCause (lines_said before) line Full) (λ line said. cause_or_not (lines_said before) line (said_named text line said) Full)

-- ---- the first cause

module _ (Has : FactsCause → Type 0) where
  none_before : (n : ℕ) → (0 < n → Has BadLine → ⊥) → (1 < n → Has Unknown → ⊥) → (2 < n → Has Twice → ⊥) → (3 < n → Has BadAddress → ⊥) → (4 < n → Has BadNumber → ⊥) → (5 < n → Has Full → ⊥)
      → (other : FactsCause) → rank other + 1 ≤ n → Has other → ⊥
  none_before n a b c d e f BadLine less = a (omega arith)
  none_before n a b c d e f Unknown less = b (omega arith)
  none_before n a b c d e f Twice less = c (omega arith)
  none_before n a b c d e f BadAddress less = d (omega arith)
  none_before n a b c d e f BadNumber less = e (omega arith)
  none_before n a b c d e f Full less = f (omega arith)

  first_cause : ((cause : FactsCause) → Holds (Has cause)) → ((cause : FactsCause) × IsFirst Has cause) ⊎ ((cause : FactsCause) → Has cause → ⊥)
  first_cause each =
      elim (each BadLine) [
        | inl has ↦ inl (BadLine, record { has = has; first = none_before 0 (λ lt. absurd (omega arith)) (λ lt. absurd (omega arith)) (λ lt. absurd (omega arith)) (λ lt. absurd (omega arith)) (λ lt. absurd (omega arith)) (λ lt. absurd (omega arith)) })
        | inr a ↦ elim (each Unknown) [
          | inl has ↦ inl (Unknown, record { has = has; first = none_before 1 (λ lt. a) (λ lt. absurd (omega arith)) (λ lt. absurd (omega arith)) (λ lt. absurd (omega arith)) (λ lt. absurd (omega arith)) (λ lt. absurd (omega arith)) })
          | inr b ↦ elim (each Twice) [
            | inl has ↦ inl (Twice, record { has = has; first = none_before 2 (λ lt. a) (λ lt. b) (λ lt. absurd (omega arith)) (λ lt. absurd (omega arith)) (λ lt. absurd (omega arith)) (λ lt. absurd (omega arith)) })
            | inr c ↦ elim (each BadAddress) [
              | inl has ↦ inl (BadAddress, record { has = has; first = none_before 3 (λ lt. a) (λ lt. b) (λ lt. c) (λ lt. absurd (omega arith)) (λ lt. absurd (omega arith)) (λ lt. absurd (omega arith)) })
              | inr d ↦ elim (each BadNumber) [
                | inl has ↦ inl (BadNumber, record { has = has; first = none_before 4 (λ lt. a) (λ lt. b) (λ lt. c) (λ lt. d) (λ lt. absurd (omega arith)) (λ lt. absurd (omega arith)) })
                | inr e ↦ elim (each Full) [
                  | inl has ↦ inl (Full, record { has = has; first = none_before 5 (λ lt. a) (λ lt. b) (λ lt. c) (λ lt. d) (λ lt. e) (λ lt. absurd (omega arith)) })
                  | inr f ↦ inr (none_of a b c d e f)
                ]
              ]
            ]
          ]
        ]
      ]
    where
      none_of : (Has BadLine → ⊥) → (Has Unknown → ⊥) → (Has Twice → ⊥) → (Has BadAddress → ⊥) → (Has BadNumber → ⊥) → (Has Full → ⊥) → (cause : FactsCause) → Has cause → ⊥
      none_of a b c d e f BadLine = a
      none_of a b c d e f Unknown = b
      none_of a b c d e f Twice = c
      none_of a b c d e f BadAddress = d
      none_of a b c d e f BadNumber = e
      none_of a b c d e f Full = f

-- ---- the lines of a text

-- behind these lines no line has a fault
abbrev SoundBehind : List (List ℕ) → List (List ℕ) → Type 0
SoundBehind before lines = (front : List (List ℕ)) (line : List ℕ) → StandsAt lines front line → (cause : FactsCause) → HasFault (before ++ front) line cause → ⊥

-- what a line says can be read
record IsFine (line : Line) : Type 0 where
  named : IsNamed line
  address : HasBadAddress line.kind (word_of line.rest) → ⊥
  number : HasBadNumber line.kind (word_of line.rest) → ⊥

record FirstFault (before lines : List (List ℕ)) : Type 0 where
  front : List (List ℕ)
  line : List ℕ
  stands : StandsAt lines front line
  sound : SoundBehind before front
  cause : FactsCause
  first : IsFirst (HasFault (before ++ front) line) cause

not_empty : (front : List (List ℕ)) (line : List ℕ) (behind : List (List ℕ)) → [] ≡ front ++ line ∷ behind → ⊥
not_empty [] line behind e = absurd cc
not_empty (x ∷ front) line behind e = absurd cc

sound_nothing : (before : List (List ℕ)) → SoundBehind before []
sound_nothing before front line stands cause fault = not_empty front line stands.behind stands.joined

same_head : (x y : List ℕ) (xs ys : List (List ℕ)) → x ∷ xs ≡ y ∷ ys → (x ≡ y) × (xs ≡ ys)
same_head x y xs ys e = (cc, cc)

sound_more : (before : List (List ℕ)) (line : List ℕ) (lines : List (List ℕ)) → ((cause : FactsCause) → HasFault before line cause → ⊥) → SoundBehind (before ++ line ∷ []) lines → SoundBehind before (line ∷ lines)
sound_more before line lines none later [] other stands cause fault =
    let same = same_head line other lines stands.behind stands.joined in
    none cause (subst (λ (l : List ℕ). HasFault before l cause) (sym same.0) (subst (λ (bs : List (List ℕ)). HasFault bs other cause) (append-nil before) fault))
sound_more before line lines none later (x ∷ front) other stands cause fault =
    let same = same_head line x lines (front ++ other ∷ stands.behind) stands.joined in
    later front other (record { behind = stands.behind; joined = same.1 }) cause
    (subst (λ (bs : List (List ℕ)). HasFault bs other cause) (ap (λ (y : List ℕ). before ++ y ∷ front) (sym same.0) ∙ sym (append_assoc before (line ∷ []) front)) fault)

fine_more : (o : Option Line) (lines : List Line) → ((line : Line) → o ≡ Some line → IsNamed line) → (IsSomeAnd o (λ line. HasBadAddress line.kind (word_of line.rest)) → ⊥) → (IsSomeAnd o (λ line. HasBadNumber line.kind (word_of line.rest)) → ⊥)
    → AllByRecursion IsFine lines → AllByRecursion IsFine (cons_option o lines)
fine_more None lines named address number rest = rest
fine_more (Some line) lines named address number rest = (record { named = named line refl; address = address; number = number }, rest)

-- no line has a fault, and then each can be read
record AllSound (before lines : List (List ℕ)) : Type 0 where
  sound : SoundBehind before lines
  fine : AllByRecursion IsFine (filter_map line_said lines)

sound_on : (before : List (List ℕ)) (line : List ℕ) (lines : List (List ℕ)) → ((cause : FactsCause) → HasFault before line cause → ⊥) → AllSound (before ++ line ∷ []) lines → AllSound before (line ∷ lines)
sound_on before line lines none rest = record {
  sound = sound_more before line lines none rest.sound;
  fine = fine_more (line_said line) (filter_map line_said lines) (said_named line) (none BadAddress) (none BadNumber) rest.fine;
}

later_fault : (before : List (List ℕ)) (line : List ℕ) (lines : List (List ℕ)) → ((cause : FactsCause) → HasFault before line cause → ⊥) → FirstFault (before ++ line ∷ []) lines → FirstFault before (line ∷ lines)
later_fault before line lines none rest = record {
  front = line ∷ rest.front;
  line = rest.line;
  stands = record { behind = rest.stands.behind; joined = ap (λ (ls : List (List ℕ)). line ∷ ls) rest.stands.joined };
  sound = sound_more before line rest.front none rest.sound;
  cause = rest.cause;
  first = subst (λ (bs : List (List ℕ)). IsFirst (HasFault bs rest.line) rest.cause) (append_assoc before (line ∷ []) rest.front) rest.first;
}

here_fault : (before : List (List ℕ)) (line : List ℕ) (lines : List (List ℕ)) (cause : FactsCause) → IsFirst (HasFault before line) cause → FirstFault before (line ∷ lines)
here_fault before line lines cause first = record {
  front = [];
  line = line;
  stands = record { behind = lines; joined = refl };
  sound = sound_nothing before;
  cause = cause;
  first = subst (λ (bs : List (List ℕ)). IsFirst (HasFault bs line) cause) (sym (append-nil before)) first;
}

fault_or_sound : (before lines : List (List ℕ)) → FirstFault before lines ⊎ AllSound before lines
fault_or_sound before [] = inr (record { sound = sound_nothing before; fine = tt })
fault_or_sound before (line ∷ lines) =
    elim (first_cause (HasFault before line) (fault_or_not before line)) [
      | inl some ↦ inl (here_fault before line lines some.0 some.1)
      | inr none ↦ elim (fault_or_sound (before ++ line ∷ []) lines) [
        | inl later ↦ inl (later_fault before line lines none later)
        | inr rest ↦ inr (sound_on before line lines none rest)
      ]
    ]

-- ---- what sound lines say

-- something that has a property
record Thing {A : Type 0} (P : A → Type 0) : Type 0 where
  it : A
  has : P it

module _ {K X : Type 0} (about : K → K → Bool) (kind : K) (kind_of : Line → K) (Says : Line → X → Type 0) (each : (line : Line) → about kind (kind_of line) ≡ true → IsFine line → Thing (Says line)) where
  said_more : (line : Line) (lines : List Line) (b : Bool) → (b ≡ true → Thing (Says line)) → Thing (AllZip Says lines) → Thing (AllZip Says (cond b (line ∷ lines) lines))
  said_more line lines true says rest = let row = says refl in record { it = row.it ∷ rest.it; has = (row.has, rest.has) }
  said_more line lines false says rest = rest

  rows_said : (lines : List Line) → AllByRecursion IsFine lines → Thing (AllZip Says (filter (λ line. about kind (kind_of line)) lines))
  rows_said [] fine = record { it = []; has = tt }
  rows_said (line ∷ lines) fine =
      said_more line (filter (λ line. about kind (kind_of line)) lines) (about kind (kind_of line)) (λ e. each line e fine.0) (rows_said lines fine.1)

masked_there : (word : List ℕ) → (((address : Masked) → IsMaskedText word address → ⊥) → ⊥) → Thing (IsMaskedText word)
masked_there word some = elim (masked_or_not word) [ inl there ↦ record { it = there.0; has = there.1 } | inr none ↦ absurd (some none) ]

addr_there : (word : List ℕ) → (((address : Addr) → IsAddrText word address → ⊥) → ⊥) → Thing (IsAddrText word)
addr_there word some = elim (addr_or_not word) [ inl there ↦ record { it = there.0; has = there.1 } | inr none ↦ absurd (some none) ]

record IsRead (most : ℕ) (word : List ℕ) (n : ℕ) : Type 0 where
  is : decimal_of most word ≡ Some n

number_there : (most : ℕ) (word : List ℕ) → (decimal_of most word ≡ None → ⊥) → Thing (IsRead most word)
number_there most word some =
    elim (decimal_of most word) as (λ r. decimal_of most word ≡ r → Thing (IsRead most word)) [
      | None ↦ λ e. absurd (some e)
      | Some n ↦ λ e. record { it = n; has = record { is = e } }
    ] refl

not_about : {Goal : Type 0} → false ≡ true → Goal
not_about e = absurd (false≢true e)

address_there : (line : Line) → is_about (the (kind_named (codes "address")) address_named) line.kind ≡ true → IsFine line → Thing (IsMaskedText (word_of line.rest))
unfolding kind_named the
address_there line about fine =
    first_of_six (λ kind. is_about (the (kind_named (codes "address")) address_named) kind ≡ true → (HasBadAddress kind (word_of line.rest) → ⊥) → Thing (IsMaskedText (word_of line.rest)))
    (bytes_eq fine.named.word (codes "interface")) (bytes_eq fine.named.word (codes "address")) (bytes_eq fine.named.word (codes "host")) (bytes_eq fine.named.word (codes "user")) (bytes_eq fine.named.word (codes "group")) (bytes_eq fine.named.word (codes "service"))
    (the (kind_named (codes "interface")) interface_named) (the (kind_named (codes "address")) address_named) (the (kind_named (codes "host")) host_named) (the (kind_named (codes "user")) user_named) (the (kind_named (codes "group")) group_named) (the (kind_named (codes "service")) service_named)
    line.kind fine.named.is (λ about bad. not_about about)
    (λ about bad. masked_there (word_of line.rest) bad)
    (λ about bad. not_about about)
    (λ about bad. not_about about)
    (λ about bad. not_about about)
    (λ about bad. not_about about)
    about fine.address

host_there : (line : Line) → is_about (the (kind_named (codes "host")) host_named) line.kind ≡ true → IsFine line → Thing (IsAddrText (word_of line.rest))
unfolding kind_named the
host_there line about fine =
    first_of_six (λ kind. is_about (the (kind_named (codes "host")) host_named) kind ≡ true → (HasBadAddress kind (word_of line.rest) → ⊥) → Thing (IsAddrText (word_of line.rest)))
    (bytes_eq fine.named.word (codes "interface")) (bytes_eq fine.named.word (codes "address")) (bytes_eq fine.named.word (codes "host")) (bytes_eq fine.named.word (codes "user")) (bytes_eq fine.named.word (codes "group")) (bytes_eq fine.named.word (codes "service"))
    (the (kind_named (codes "interface")) interface_named) (the (kind_named (codes "address")) address_named) (the (kind_named (codes "host")) host_named) (the (kind_named (codes "user")) user_named) (the (kind_named (codes "group")) group_named) (the (kind_named (codes "service")) service_named)
    line.kind fine.named.is (λ about bad. not_about about)
    (λ about bad. not_about about)
    (λ about bad. addr_there (word_of line.rest) bad)
    (λ about bad. not_about about)
    (λ about bad. not_about about)
    (λ about bad. not_about about)
    about fine.address

user_there : (line : Line) → is_about (the (kind_named (codes "user")) user_named) line.kind ≡ true → IsFine line → Thing (IsRead most_id (word_of line.rest))
unfolding kind_named the
user_there line about fine =
    first_of_six (λ kind. is_about (the (kind_named (codes "user")) user_named) kind ≡ true → (HasBadNumber kind (word_of line.rest) → ⊥) → Thing (IsRead most_id (word_of line.rest)))
    (bytes_eq fine.named.word (codes "interface")) (bytes_eq fine.named.word (codes "address")) (bytes_eq fine.named.word (codes "host")) (bytes_eq fine.named.word (codes "user")) (bytes_eq fine.named.word (codes "group")) (bytes_eq fine.named.word (codes "service"))
    (the (kind_named (codes "interface")) interface_named) (the (kind_named (codes "address")) address_named) (the (kind_named (codes "host")) host_named) (the (kind_named (codes "user")) user_named) (the (kind_named (codes "group")) group_named) (the (kind_named (codes "service")) service_named)
    line.kind fine.named.is (λ about bad. not_about about)
    (λ about bad. not_about about)
    (λ about bad. not_about about)
    (λ about bad. number_there most_id (word_of line.rest) bad)
    (λ about bad. not_about about)
    (λ about bad. not_about about)
    about fine.number

group_there : (line : Line) → is_about (the (kind_named (codes "group")) group_named) line.kind ≡ true → IsFine line → Thing (IsRead most_id (word_of line.rest))
unfolding kind_named the
group_there line about fine =
    first_of_six (λ kind. is_about (the (kind_named (codes "group")) group_named) kind ≡ true → (HasBadNumber kind (word_of line.rest) → ⊥) → Thing (IsRead most_id (word_of line.rest)))
    (bytes_eq fine.named.word (codes "interface")) (bytes_eq fine.named.word (codes "address")) (bytes_eq fine.named.word (codes "host")) (bytes_eq fine.named.word (codes "user")) (bytes_eq fine.named.word (codes "group")) (bytes_eq fine.named.word (codes "service"))
    (the (kind_named (codes "interface")) interface_named) (the (kind_named (codes "address")) address_named) (the (kind_named (codes "host")) host_named) (the (kind_named (codes "user")) user_named) (the (kind_named (codes "group")) group_named) (the (kind_named (codes "service")) service_named)
    line.kind fine.named.is (λ about bad. not_about about)
    (λ about bad. not_about about)
    (λ about bad. not_about about)
    (λ about bad. not_about about)
    (λ about bad. number_there most_id (word_of line.rest) bad)
    (λ about bad. not_about about)
    about fine.number

service_there : (line : Line) → is_about (the (kind_named (codes "service")) service_named) line.kind ≡ true → IsFine line → Thing (IsRead most_port (word_of line.rest))
unfolding kind_named the
service_there line about fine =
    first_of_six (λ kind. is_about (the (kind_named (codes "service")) service_named) kind ≡ true → (HasBadNumber kind (word_of line.rest) → ⊥) → Thing (IsRead most_port (word_of line.rest)))
    (bytes_eq fine.named.word (codes "interface")) (bytes_eq fine.named.word (codes "address")) (bytes_eq fine.named.word (codes "host")) (bytes_eq fine.named.word (codes "user")) (bytes_eq fine.named.word (codes "group")) (bytes_eq fine.named.word (codes "service"))
    (the (kind_named (codes "interface")) interface_named) (the (kind_named (codes "address")) address_named) (the (kind_named (codes "host")) host_named) (the (kind_named (codes "user")) user_named) (the (kind_named (codes "group")) group_named) (the (kind_named (codes "service")) service_named)
    line.kind fine.named.is (λ about bad. not_about about)
    (λ about bad. not_about about)
    (λ about bad. not_about about)
    (λ about bad. not_about about)
    (λ about bad. not_about about)
    (λ about bad. number_there most_port (word_of line.rest) bad)
    about fine.number

module _ (lines : List Line) (fine : AllByRecursion IsFine lines) where
  address_rows : Thing (AllZip SaysAddress (filter (λ line. is_about (the (kind_named (codes "address")) address_named) line.kind) lines))
  address_rows = rows_said is_about (the (kind_named (codes "address")) address_named) (λ line. line.kind) SaysAddress (λ line about fine. let there = address_there line about fine in record { it = record { name = line.name; value = there.it }; has = record { name = refl; address = there.has } }) lines fine

  host_rows : Thing (AllZip SaysHost (filter (λ line. is_about (the (kind_named (codes "host")) host_named) line.kind) lines))
  host_rows = rows_said is_about (the (kind_named (codes "host")) host_named) (λ line. line.kind) SaysHost (λ line about fine. let there = host_there line about fine in record { it = record { name = line.name; value = there.it }; has = record { name = refl; address = there.has } }) lines fine

  user_rows : Thing (AllZip (SaysNumber most_id) (filter (λ line. is_about (the (kind_named (codes "user")) user_named) line.kind) lines))
  user_rows = rows_said is_about (the (kind_named (codes "user")) user_named) (λ line. line.kind) (SaysNumber most_id) (λ line about fine. let there = user_there line about fine in record { it = record { name = line.name; value = there.it }; has = record { name = refl; number = there.has.is } }) lines fine

  group_rows : Thing (AllZip (SaysNumber most_id) (filter (λ line. is_about (the (kind_named (codes "group")) group_named) line.kind) lines))
  group_rows = rows_said is_about (the (kind_named (codes "group")) group_named) (λ line. line.kind) (SaysNumber most_id) (λ line about fine. let there = group_there line about fine in record { it = record { name = line.name; value = there.it }; has = record { name = refl; number = there.has.is } }) lines fine

  service_rows : Thing (AllZip (SaysNumber most_port) (filter (λ line. is_about (the (kind_named (codes "service")) service_named) line.kind) lines))
  service_rows = rows_said is_about (the (kind_named (codes "service")) service_named) (λ line. line.kind) (SaysNumber most_port) (λ line about fine. let there = service_there line about fine in record { it = record { name = line.name; value = there.it }; has = record { name = refl; number = there.has.is } }) lines fine

  facts_said : HostFacts
  facts_said = record {
    interfaces = names_about (the (kind_named (codes "interface")) interface_named) lines;
    members = flat_map groups_said (lines_about (the (kind_named (codes "interface")) interface_named) lines);
    addresses = address_rows.it;
    hosts = host_rows.it;
    users = user_rows.it;
    groups = group_rows.it;
    services = service_rows.it;
  }

  are_said : AreSaid lines facts_said
  unfolding kind_named lines_about facts_said the
  are_said = record {
    interfaces = refl;
    members = refl;
    addresses = address_rows.has;
    hosts = host_rows.has;
    users = user_rows.has;
    groups = group_rows.has;
    services = service_rows.has;
  }

-- ---- texts

pub record FaultOf (text : List ℕ) : Type 0 where
  pub line : ℕ
  pub cause : FactsCause
  pub is : IsFaultAt text line cause

pub facts_or_fault : (text : List ℕ) → ((facts : HostFacts) × IsFactsText text facts) ⊎ FaultOf text
unfolding lines_said
facts_or_fault text =
    elim (fault_or_sound [] (lines_of text)) [
      | inl some ↦ inr (record {
        line = length some.front + 1;
        cause = some.cause;
        is = record { before = some.front; line = some.line; stands = some.stands; counted = refl; sound = some.sound; fault = some.first };
      })
      | inr all ↦ inl (facts_said (filter_map line_said (lines_of text)) all.fine, record { sound = all.sound; said = are_said (filter_map line_said (lines_of text)) all.fine })
    ]
