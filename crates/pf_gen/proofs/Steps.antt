-- One line or record more.
use Rattle.std.proofs.Common.{◌≡◌, ℕ, suc, ◌+◌, ◌*◌, List, [], ◌∷◌, ◌++◌, ◌∙◌, refl, ap, sym, arith, codes}
use Rattle.std.specs.List.{flat_map, range_with_len}
use Rattle.std.proofs.lemmas.List.{map-id, append_assoc, append-nil}
use Rattle.std.proofs.lemmas.List.FromFn.{map-range_with_len_more}
use Rattle.std.proofs.lemmas.Grind.{flat_map-append}
use Rattle.pf_gen.specs.Draws.{after}
use Rattle.pf_gen.specs.Texts.{record_at, record_text, records_from, rule_line, rule_text, rules_text}

-- so many numbers later and as many again
rule_step : (x k : ℕ) → after x (suc (suc (suc (suc (suc (suc (suc k))))))) ≡ after (after x k) 7
unfolding after
rule_step x k = refl

record_step : (x k : ℕ) → after x (suc (suc (suc (suc (suc (suc k)))))) ≡ after (after x k) 6
unfolding after
record_step x k = refl

pub behind_rules : (x i : ℕ) → after x (7 * (i + 1)) ≡ after (after x (7 * i)) 7
behind_rules x i =
    let same : 7 * (i + 1) ≡ suc (suc (suc (suc (suc (suc (suc (7 * i))))))) = omega arith in
    rw same (rule_step x (7 * i))

pub behind_records : (x i : ℕ) → after x (6 * (i + 1)) ≡ after (after x (6 * i)) 6
behind_records x i =
    let same : 6 * (i + 1) ≡ suc (suc (suc (suc (suc (suc (6 * i)))))) = omega arith in
    rw same (record_step x (6 * i))

range_more : (n : ℕ) → range_with_len 0 (n + 1) ≡ range_with_len 0 n ++ n ∷ []
range_more n =
    sym (map-id (range_with_len 0 (n + 1))) ∙ map-range_with_len_more (λ (x : ℕ). x) 0 n n (omega arith) ∙ ap (λ (xs : List ℕ). xs ++ n ∷ []) (map-id (range_with_len 0 n))

-- none at first
pub no_number : (x : ℕ) → after x 0 ≡ x
unfolding after
no_number x = refl

pub no_rule : (x : ℕ) → rules_text x 0 ≡ codes "block all\n"
unfolding rules_text
no_rule x = refl

pub no_record : (x : ℕ) → records_from x 0 ≡ []
unfolding records_from
no_record x = refl

pub one_rule_more : (x i : ℕ) → rules_text x (i + 1) ≡ rules_text x i ++ (rule_text (after x (7 * i)) ++ codes "\n")
unfolding rules_text
one_rule_more x i =
    ap (λ (xs : List ℕ). codes "block all\n" ++ flat_map (rule_line x) xs) (range_more i)
    ∙ ap (λ (text : List ℕ). codes "block all\n" ++ text) (flat_map-append (rule_line x) (range_with_len 0 i) (i ∷ []) ∙ ap (λ (text : List ℕ). flat_map (rule_line x) (range_with_len 0 i) ++ text) (append-nil (rule_line x i)))
    ∙ sym (append_assoc (codes "block all\n") (flat_map (rule_line x) (range_with_len 0 i)) (rule_line x i))

pub one_record_more : (x i : ℕ) → records_from x (i + 1) ≡ records_from x i ++ record_text (after x (6 * i)) ∷ []
unfolding records_from
one_record_more x i = map-range_with_len_more (record_at x) 0 i i (omega arith)
