-- The text of a generated rule is a line whose words are such as a file has, and mean something.
use Rattle.std.proofs.Common.{◌≡◌, ℕ, zero, suc, ◌+◌, ◌<◌, ◌≤◌, Bool, true, false, List, [], ◌∷◌, ◌++◌, Some, length, length-append, refl, sym, subst, ◌∙◌, append_assoc, arith, decimal}
use Rattle.std.specs.Prelude.{◌==◌, codes, if◌then◌else◌}
use Rattle.std.specs.Fmt.{digits}
use Rattle.std.specs.Str.{bytes_eq}
use Rattle.std.proofs.lemmas.Fmt.{length-decimal-le}
use Rattle.std.proofs.lemmas.List.{append-nil}
use Rattle.pf_base.specs.Decimal.{decimal_of}
use Rattle.pf_gen.specs.Draws.{after, draw}
use Rattle.pf_gen.specs.Texts.{action_part, port_part, rule_text, source_part}
use Rattle.pf_host.specs.Facts.{HostFacts}
use Rattle.pf_ops.specs.Operator.{set_of}
use Rattle.pf_ops.specs.Words.{proto_of, protocols}
use Rattle.pf_ops.specs.declared.operator.OpKind.TheVariants.{Equal}
use Rattle.pf_rule.specs.Criteria.{is_tcp_or_udp}
use Rattle.pf_syntax.specs.Symbols.{bare}
use Rattle.pf_syntax.specs.Words.{name_of}
use Rattle.pf_token.specs.Bytes.{class_of}
use Rattle.pf_genload.proofs.Glyphs.{are_spelled, is_line_word, spelled}
use Rattle.pf_genload.proofs.Lines.{rule_glyphs}
use Rattle.pf_genload.proofs.Numbers.{number_is_port, number_is_word}
use Rattle.pf_genload.proofs.Rules.{WordsMean}
use Rattle.pf_genload.proofs.Sources.{PrefixesReadBack, network_of, source_behind, source_is_network, source_is_word}

-- The line of a rule: its words are such as a file has, they may stand where they do, and they mean something.
pub record IsRuleLine (facts : HostFacts) (text : List ℕ) : Type 0 where
  pub pass : Bool
  pub quick : Bool
  pub name : List ℕ
  pub proto : List ℕ
  pub source : List ℕ
  pub port : List ℕ
  pub is : text ≡ spelled (rule_glyphs pass quick name proto (49 ∷ source) port)
  pub written : are_spelled (rule_glyphs pass quick name proto (49 ∷ source) port) ≡ true
  pub named : name_of (bare name) ≡ Some name
  pub other : bytes_eq name (codes "any") ≡ false
  pub proto_named : name_of (bare proto) ≡ Some proto
  pub mean : WordsMean facts proto (49 ∷ source) port
  pub short : length text ≤ 99

-- ---- words

-- an interface is one of four
pub four : (P : ℕ → Type 0) → P 0 → P 1 → P 2 → P 3 → (n : ℕ) → n < 4 → P n
four P p q r s zero h = p
four P p q r s (suc zero) h = q
four P p q r s (suc (suc zero)) h = r
four P p q r s (suc (suc (suc zero))) h = s
four P p q r s (suc (suc (suc (suc n)))) h = absurd (omega arith)

abbrev pub iface_word : ℕ → List ℕ
iface_word n = 101 ∷ 109 ∷ decimal n

iface_named : (n : ℕ) → n < 4 → name_of (bare (iface_word n)) ≡ Some (iface_word n)
unfolding name_of digits
iface_named = four (λ n. name_of (bare (iface_word n)) ≡ Some (iface_word n)) refl refl refl refl

iface_written : (n : ℕ) → n < 4 → is_line_word (iface_word n) ≡ true
unfolding class_of digits
iface_written = four (λ n. is_line_word (iface_word n) ≡ true) refl refl refl refl

iface_length : (n : ℕ) → n < 4 → length (iface_word n) ≤ 3
unfolding digits
iface_length = four (λ n. length (iface_word n) ≤ 3) (omega arith) (omega arith) (omega arith) (omega arith)

abbrev pub proto_word : Bool → List ℕ
proto_word tcp = if tcp then codes "tcp" else codes "udp"

abbrev pub proto_number : Bool → ℕ
proto_number tcp = if tcp then 6 else 17

proto_is_named : (tcp : Bool) → name_of (bare (proto_word tcp)) ≡ Some (proto_word tcp)
unfolding name_of
proto_is_named true = refl
proto_is_named false = refl

proto_written : (tcp : Bool) → is_line_word (proto_word tcp) ≡ true
unfolding class_of
proto_written true = refl
proto_written false = refl

pub proto_is : (tcp : Bool) → proto_of (proto_word tcp) ≡ Some (proto_number tcp)
unfolding protocols decimal_of
proto_is true = refl
proto_is false = refl

-- ---- the line

written : (pass quick : Bool) (name proto source port : List ℕ) → is_line_word name ≡ true → is_line_word proto ≡ true → is_line_word source ≡ true → is_line_word port ≡ true
    → are_spelled (rule_glyphs pass quick name proto source port) ≡ true
unfolding class_of
written true true name proto source port n p s d = rw (n, p, s, d) refl
written true false name proto source port n p s d = rw (n, p, s, d) refl
written false true name proto source port n p s d = rw (n, p, s, d) refl
written false false name proto source port n p s d = rw (n, p, s, d) refl

-- the text as it is made, part by part
abbrev made : Bool → Bool → List ℕ → List ℕ → List ℕ → List ℕ → List ℕ → List ℕ
made pass quick n proto b c d =
    ((if pass then codes "pass" else codes "block") ++ (if quick then codes " quick" else []) ++ codes " on em" ++ n)
    ++ ((codes " proto " ++ proto ++ codes " from 10." ++ b ++ codes "." ++ c ++ codes ".0/24") ++ (codes " to any port " ++ d))

in_row : (front n proto b c d on to from dot mask port : List ℕ)
    → ((front ++ on ++ n) ++ ((to ++ proto ++ from ++ b ++ dot ++ c ++ mask) ++ (port ++ d))) ≡ front ++ (on ++ (n ++ (to ++ (proto ++ (from ++ (b ++ (dot ++ (c ++ (mask ++ (port ++ d))))))))))
in_row front n proto b c d on to from dot mask port = simp append_assoc

as_spelled : (front n proto b c d on to from dot mask port : List ℕ)
    → front ++ (on ++ (n ++ (to ++ (proto ++ (from ++ ((b ++ (dot ++ (c ++ mask))) ++ (port ++ (d ++ []))))))))
    ≡ front ++ (on ++ (n ++ (to ++ (proto ++ (from ++ (b ++ (dot ++ (c ++ (mask ++ (port ++ d))))))))))
as_spelled front n proto b c d on to from dot mask port = simp (append_assoc, append-nil)

spelled_is : (pass quick : Bool) (n proto : List ℕ) (b c : ℕ) (d : List ℕ)
    → made pass quick n proto (decimal b) (decimal c) d ≡ spelled (rule_glyphs pass quick (101 ∷ 109 ∷ n) proto (49 ∷ source_behind b c) d)
spelled_is true true n proto b c d =
    in_row (codes "pass quick") n proto (decimal b) (decimal c) d (codes " on em") (codes " proto ") (codes " from 10.") (codes ".") (codes ".0/24") (codes " to any port ")
    ∙ sym (as_spelled (codes "pass quick") n proto (decimal b) (decimal c) d (codes " on em") (codes " proto ") (codes " from 10.") (codes ".") (codes ".0") (codes "/24 to any port "))
spelled_is true false n proto b c d =
    in_row (codes "pass") n proto (decimal b) (decimal c) d (codes " on em") (codes " proto ") (codes " from 10.") (codes ".") (codes ".0/24") (codes " to any port ")
    ∙ sym (as_spelled (codes "pass") n proto (decimal b) (decimal c) d (codes " on em") (codes " proto ") (codes " from 10.") (codes ".") (codes ".0") (codes "/24 to any port "))
spelled_is false true n proto b c d =
    in_row (codes "block quick") n proto (decimal b) (decimal c) d (codes " on em") (codes " proto ") (codes " from 10.") (codes ".") (codes ".0/24") (codes " to any port ")
    ∙ sym (as_spelled (codes "block quick") n proto (decimal b) (decimal c) d (codes " on em") (codes " proto ") (codes " from 10.") (codes ".") (codes ".0") (codes "/24 to any port "))
spelled_is false false n proto b c d =
    in_row (codes "block") n proto (decimal b) (decimal c) d (codes " on em") (codes " proto ") (codes " from 10.") (codes ".") (codes ".0/24") (codes " to any port ")
    ∙ sym (as_spelled (codes "block") n proto (decimal b) (decimal c) d (codes " on em") (codes " proto ") (codes " from 10.") (codes ".") (codes ".0") (codes "/24 to any port "))

front_length : (pass quick : Bool) → length ((if pass then codes "pass" else codes "block") ++ (if quick then codes " quick" else [])) ≤ 11
front_length true true = omega arith
front_length true false = omega arith
front_length false true = omega arith
front_length false false = omega arith

proto_length : (tcp : Bool) → length (proto_word tcp) ≤ 3
proto_length true = omega arith
proto_length false = omega arith

row_length : (front n proto b c d on to from dot mask port : List ℕ) → length front ≤ 11 → length n ≤ 20 → length proto ≤ 3 → length b ≤ 3 → length c ≤ 3 → length d ≤ 4
    → length on ≤ 6 → length to ≤ 7 → length from ≤ 9 → length dot ≤ 1 → length mask ≤ 5 → length port ≤ 13
    → length (front ++ (on ++ (n ++ (to ++ (proto ++ (from ++ (b ++ (dot ++ (c ++ (mask ++ (port ++ d))))))))))) ≤ 99
row_length front n proto b c d on to from dot mask port h1 h2 h3 h4 h5 h6 h7 h8 h9 h10 h11 h12 = simp length-append (omega arith)

made_length : (pass quick tcp : Bool) (n b c d : ℕ) → n < 4 → b < 256 → c < 256 → d ≤ 1000 → length (made pass quick (decimal n) (proto_word tcp) (decimal b) (decimal c) (decimal d)) ≤ 99
made_length pass quick tcp n b c d few small_b small_c small_d =
    let front = (if pass then codes "pass" else codes "block") ++ (if quick then codes " quick" else []) in
    let long = iface_length n few in
    let long_n : length (decimal n) ≤ 20 = omega arith in
    let long_b : length (decimal b) ≤ 3 = length-decimal-le 3 b (omega arith) (omega arith) (omega arith) in
    let long_c : length (decimal c) ≤ 3 = length-decimal-le 3 c (omega arith) (omega arith) (omega arith) in
    let long_d : length (decimal d) ≤ 4 = length-decimal-le 4 d (omega arith) (omega arith) (omega arith) in
    subst (λ (text : List ℕ). length text ≤ 99)
    (sym (in_row front (decimal n) (proto_word tcp) (decimal b) (decimal c) (decimal d) (codes " on em") (codes " proto ") (codes " from 10.") (codes ".") (codes ".0/24") (codes " to any port ")))
    (row_length front (decimal n) (proto_word tcp) (decimal b) (decimal c) (decimal d) (codes " on em") (codes " proto ") (codes " from 10.") (codes ".") (codes ".0/24") (codes " to any port ")
    (front_length pass quick) long_n (proto_length tcp) long_b long_c long_d (omega arith) (omega arith) (omega arith) (omega arith) (omega arith) (omega arith))

with_ports : (tcp : Bool) → is_tcp_or_udp (proto_number tcp) ≡ true
with_ports true = refl
with_ports false = refl

words_mean : PrefixesReadBack → (facts : HostFacts) (tcp : Bool) (b c d : ℕ) → b < 256 → c < 256 → d ≤ 1000 → WordsMean facts (proto_word tcp) (49 ∷ source_behind b c) (decimal d)
words_mean back facts tcp b c d small_b small_c small_d = record {
  number = proto_number tcp;
  prefix = network_of b c;
  numbers = set_of 65535 Equal d 0;
  protocol = proto_is tcp;
  has_ports = with_ports tcp;
  network = source_is_network back b c small_b small_c;
  ports = number_is_port facts d (omega arith);
}

line_is : PrefixesReadBack → (facts : HostFacts) (pass quick tcp : Bool) (n b c d : ℕ) → n < 4 → b < 256 → c < 256 → d ≤ 1000
    → IsRuleLine facts (made pass quick (decimal n) (proto_word tcp) (decimal b) (decimal c) (decimal d))
line_is back facts pass quick tcp n b c d few small_b small_c small_d = record {
  pass = pass;
  quick = quick;
  name = iface_word n;
  proto = proto_word tcp;
  source = source_behind b c;
  port = decimal d;
  is = spelled_is pass quick (decimal n) (proto_word tcp) b c (decimal d);
  written = written pass quick (iface_word n) (proto_word tcp) (49 ∷ source_behind b c) (decimal d) (iface_written n few) (proto_written tcp) (source_is_word b c small_b small_c) (number_is_word d (omega arith));
  named = iface_named n few;
  other = refl;
  proto_named = proto_is_named tcp;
  mean = words_mean back facts tcp b c d small_b small_c small_d;
  short = made_length pass quick tcp n b c d few small_b small_c small_d;
}

-- whatever numbers are drawn
pub rule_text_is : PrefixesReadBack → (facts : HostFacts) (x : ℕ) → IsRuleLine facts (rule_text x)
unfolding action_part source_part port_part
rule_text_is back facts x =
    line_is back facts (draw x 1 2 == 0) (draw x 2 8 == 0) (draw (after x 3) 1 2 == 0) (draw x 3 4) (draw (after x 3) 2 256) (draw (after x 3) 3 256) (draw (after x 6) 1 1000 + 1)
    (omega arith) (omega arith) (omega arith) (omega arith)
