-- What is printed is in the grammar, and is the text that RFC 5952 asks for.
use Rattle.std.proofs.Common.{◌≡◌, ℕ, ◌^◌, ◌<◌, ◌≤◌, ◌⊎◌, List, [], ◌∷◌, length, decimal, refl, sym, ◌∙◌, arith, inl, inr, append_assoc, lit<, eq-eqb, ne_eqb, rules, true, false, le-leb}
use Rattle.std.specs.Net.Text.{longest_zero_run, hex_groups_text}
use Rattle.std.proofs.NetLemmas.Texts.{IsDotted-ipv4_text, IsColonHex-hex_groups_text, IsZeroRun-longest_zero_run, longest_zero_run_first}
use Rattle.std.proofs.lemmas.Bool.{cases_lt, cases_eq}
use Rattle.std.proofs.lemmas.List.{append-nil}
use Rattle.std.proofs.lemmas.Fmt.{decimal_nonempty, digits_decimal, digits_value-decimal, length-decimal-le}
use Rattle.std.proofs.lemmas.Str.Parse.{IsNumeralModel, numerals_by_fold}
use Rattle.std.specs.List.{list_all}
use Rattle.std.specs.Char.{is_ascii_digit}
use Rattle.pf_base.specs.Text.{is_nothing}
use Rattle.pf_base.specs.Decimal.{digits_after, decimal_of}
use Rattle.pf_addr.specs.declared.addr.Addr.{Addr}
use Rattle.pf_addr.specs.declared.addr.Addr.TheVariants.{V4, V6}
use Rattle.pf_addr.specs.declared.prefix.Prefix.{Prefix}
use Rattle.pf_addr.specs.Addr.{width, IsAddr, network}
use Rattle.pf_addr.specs.Text.{last_digits, addr_text, IsZeroRun, IsWhole, IsShortened, IsShortest}
use Rattle.pf_addr.specs.Grammar.{IsAddrText, IsNetworkText, IsMask, slash}
use Rattle.pf_addr.specs.PrefixText.{prefix_text, IsPrefixText}
use Rattle.pf_addr.proofs.Digits.{length-last_digits, last_digits-value, last_digits-below}
use Rattle.pf_addr.proofs.Groups.{shortened_text, whole_text}
use Rattle.pf_addr.specs.NetworkLaws.{network-same}

pub IsAddrText-addr_text : (a : Addr) → IsAddr a → IsAddrText (addr_text a) a
IsAddrText-addr_text (V4 n) h = record {
  octets = last_digits 256 4 n;
  dotted = IsDotted-ipv4_text _ (length-last_digits 256 4 n) (last_digits-below 256 4 n (lit< tt));
  value = sym (last_digits-value 256 4 n (lit< tt) h);
}
IsAddrText-addr_text (V6 n) h = record {
  groups = last_digits 65536 8 n;
  hex = IsColonHex-hex_groups_text _ (length-last_digits 65536 8 n) (last_digits-below 65536 8 n (lit< tt));
  value = sym (last_digits-value 65536 8 n (lit< tt) h);
}

run_of : (gs : List ℕ) → IsZeroRun gs (longest_zero_run gs).0 (longest_zero_run gs).1
run_of gs = let h = IsZeroRun-longest_zero_run gs in record { within = h.0; zeros = h.1 }

shortest_groups : (gs : List ℕ) → IsWhole (hex_groups_text gs) gs ⊎ IsShortened (hex_groups_text gs) gs
shortest_groups gs =
    let start = (longest_zero_run gs).0 in
    let len = (longest_zero_run gs).1 in
    elim (cases_lt 1 len) [
      | inl long ↦ inr (record {
        start = start;
        len = len;
        run = run_of gs;
        some = omega arith;
        longest = λ from most h. (longest_zero_run_first gs from most (h.within, h.zeros)).0;
        first = λ from h. (longest_zero_run_first gs from len (h.within, h.zeros)).1 refl;
        spelled = shortened_text gs start len refl long ∙ sym (append_assoc _ (58 ∷ 58 ∷ []) _);
      })
      | inr short ↦ inl (record {
        single = λ from most h. omega (arith, (longest_zero_run_first gs from most (h.within, h.zeros)).0);
        spelled = whole_text gs start len refl short;
      })
    ]

pub IsShortest-addr_text : (a : Addr) → IsShortest (addr_text a) a
IsShortest-addr_text (V4 n) = refl
IsShortest-addr_text (V6 n) = shortest_groups (last_digits 65536 8 n)

before_mask : (a : Addr) → IsAddr a → IsNetworkText (addr_text a) a
before_mask (V4 n) h =
    let whole = IsAddrText-addr_text (V4 n) h in
    record { missing = 0; few = omega arith; filled = rw append-nil whole }
before_mask (V6 n) h = IsAddrText-addr_text (V6 n) h

-- pf_base's number of a text of digits
pub own : IsNumeralModel (λ ds. list_all is_ascii_digit ds ≡ true) (digits_after 0)
own = numerals_by_fold _ (search rules) digits_after (search rules)

nonempty : (text : List ℕ) → 0 < length text → is_nothing text ≡ false
nonempty [] h = absurd (omega arith)
nonempty (b ∷ text) h = refl

mask_text : (n : ℕ) → n < 1000 → IsMask (decimal n) n
unfolding decimal_of
mask_text n lt =
    let small : n < 2 ^ 64 = omega arith in
    let some : is_nothing (decimal n) ≡ false = nonempty (decimal n) (decimal_nonempty n small) in
    let all : list_all is_ascii_digit (decimal n) ≡ true = digits_decimal own n small in
    let value : digits_after 0 (decimal n) ≡ n = digits_value-decimal own n small in
    (rw (some, all, value, le-leb n 999 (omega arith)) refl, length-decimal-le 3 n (lit< tt) lt small)

width_most : (a : Addr) → width a ≤ 128
width_most (V4 n) = omega arith
width_most (V6 n) = omega arith

pub IsPrefixText-prefix_text : (p : Prefix) → IsAddr p.addr → IsPrefixText (prefix_text p) p
IsPrefixText-prefix_text p h =
    let a = p.addr in
    let same : p.addr ≡ network p.addr p.len = sym (network-same p.addr p.len p.no_host_bits) in
    elim (cases_eq p.len (width a)) [
      | inl full ↦
          rw (eq-eqb p.len (width a) full)
          (record { addr = a; writes = inl (IsAddrText-addr_text a h, full); fits = p.fits; cleared = same })
      | inr part ↦
          rw (ne_eqb p.len (width a) part)
          (record {
            addr = a;
            writes = inr (record {
              front = addr_text a;
              digits = decimal p.len;
              spelled = append_assoc (addr_text a) (slash ∷ []) (decimal p.len);
              address = before_mask a h;
              mask = mask_text p.len (omega (arith, p.fits, width_most a));
            });
            fits = p.fits;
            cleared = same;
          })
    ]
