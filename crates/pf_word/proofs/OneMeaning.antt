-- Words mean one thing alone.
use Rattle.std.proofs.Common.{◌≡◌, ℕ, ◌≤◌, ◌<◌, Bool, ◌&&◌, ◌↔◌, IsTrue, List, [], ◌∷◌, ◌++◌, Result, Ok, Err, Option, Some, None, refl, sym, ap, ◌∙◌, subst, arith}
use Rattle.std.specs.List.{AllZip}
use Rattle.std.proofs.lemmas.Bool.{and_from}
use Rattle.pf_base.specs.declared.fault.FaultKind.{FaultKind}
use Rattle.pf_base.specs.declared.fault.FaultKind.TheVariants as kinds
use Rattle.pf_addr.specs.declared.addr.Addr.{Addr}
use Rattle.pf_addr.specs.declared.prefix.Prefix.{Prefix}
use Rattle.pf_addr.specs.declared.range.Range.{Range}
use Rattle.pf_addr.specs.Addr.{SameFamily, number}
use Rattle.pf_addr.specs.AddrOrder.{addr_eq}
use Rattle.pf_addr.specs.Grammar.{IsAddrText, Writes, slash}
use Rattle.pf_addr.specs.Prefix.{whole}
use Rattle.pf_addr.specs.PrefixText.{IsPrefixText, IsTooLong}
use Rattle.pf_addr.specs.Range.{HasEnds, OutOfOrder}
use Rattle.pf_addr.specs.RangeOrder.{range_eq}
use Rattle.pf_host.specs.Facts.{HostFacts}
use Rattle.pf_rule.specs.declared.criteria.AddrSet.TheVariants as sets
use Rattle.pf_rule.specs.declared.criteria.AddrTest.{AddrTest}
use Rattle.pf_rule.specs.declared.criteria.AddrTest.TheVariants as tests
use Rattle.pf_rule.specs.declared.translation.Target.{Target}
use Rattle.pf_syntax.specs.declared.form.HostForm.{HostForm}
use Rattle.pf_syntax.specs.declared.form.HostForm.TheVariants as forms
use Rattle.pf_syntax.specs.declared.form.HostItem.{HostItem}
use Rattle.pf_syntax.specs.declared.form.TargetWords.{TargetWords}
use Rattle.pf_word.specs.Hosts.{AddressMeans, EndsMean, FormMeans, HostMeans, HostWordMeans, HostsMean, IsRange, IsWord, MaskedMeans, NoAddress, RangeMeans, WordMeans, a_name, a_prefix, a_range, an_address, falls, is_address, no_address, no_prefix, tests_of_word, too_long, two_families}
use Rattle.pf_word.specs.Targets.{TargetMeans, target_of, target_port}
use Rattle.pf_word.specs.Words.{EachMeans, all_of, found}
use Rattle.pf_word.specs.declared.words.Words.{Words}

same_zip : {A B : Type 0} (R : A → B → Type 0) → ((x : A) (y z : B) → R x y → R x z → y ≡ z) → (xs : List A) (ys zs : List B) → AllZip R xs ys → AllZip R xs zs → ys ≡ zs
same_zip R one [] [] [] h k = refl
same_zip R one [] [] (z ∷ zs) h k = absurd k
same_zip R one [] (y ∷ ys) zs h k = absurd h
same_zip R one (x ∷ xs) [] zs h k = absurd h
same_zip R one (x ∷ xs) (y ∷ ys) [] h k = absurd k
same_zip R one (x ∷ xs) (y ∷ ys) (z ∷ zs) h k = λ i. one x y z h.0 k.0 i ∷ same_zip R one xs ys zs h.1 k.1 i

module _ (one_addr : (text : List ℕ) (a b : Addr) → IsAddrText text a → IsAddrText text b → a ≡ b)
    (one_mask : (text : List ℕ) (a b : Addr) (m n : ℕ) → Writes text a m → Writes text b n → m ≡ n)
    (one_prefix : (text : List ℕ) (p q : Prefix) → IsPrefixText text p → IsPrefixText text q → p ≡ q)
    (level : (a b : Addr) → IsTrue (addr_eq a b) ↔ (a ≡ b))
    (level_ranges : (r s : Range) → IsTrue (range_eq r s) ↔ (r ≡ s)) where
  one_word : (facts : HostFacts) (word : List ℕ) (answer other : Result (List Prefix) FaultKind) → WordMeans facts word answer → WordMeans facts word other → answer ≡ other
  one_word facts word answer other (an_address a h e) (an_address b k f) = e ∙ ap (λ c. Ok (whole c ∷ [])) (one_addr word a b h k) ∙ sym f
  one_word facts word answer other (an_address a h e) (a_name none f) = absurd (none a h)
  one_word facts word answer other (a_name none e) (an_address b k f) = absurd (none b k)
  one_word facts word answer other (a_name none e) (a_name also f) = e ∙ sym f

  one_masked : (word mask : List ℕ) (answer other : Result (List Prefix) FaultKind) → MaskedMeans word mask answer → MaskedMeans word mask other → answer ≡ other
  one_masked word mask answer other (a_prefix p h e) (a_prefix q k f) = e ∙ ap (λ c. Ok (c ∷ [])) (one_prefix (word ++ slash ∷ mask) p q h k) ∙ sym f
  one_masked word mask answer other (a_prefix p h e) (too_long n none k f) = absurd (none p h)
  one_masked word mask answer other (a_prefix p h e) (no_prefix none f) = absurd (none h.addr p.len h.writes)
  one_masked word mask answer other (too_long m none h e) (a_prefix q k f) = absurd (none q k)
  one_masked word mask answer other (too_long m none h e) (too_long n also k f) =
      e ∙ ap (λ n. Err (kinds.MaskTooLong n)) (one_mask (word ++ slash ∷ mask) h.addr k.addr m n h.writes k.writes) ∙ sym f
  one_masked word mask answer other (too_long m none h e) (no_prefix also f) = absurd (also h.addr m h.writes)
  one_masked word mask answer other (no_prefix none e) (a_prefix q k f) = absurd (none k.addr q.len k.writes)
  one_masked word mask answer other (no_prefix none e) (too_long n also k f) = absurd (none k.addr n k.writes)
  one_masked word mask answer other (no_prefix none e) (no_prefix also f) = e ∙ sym f

  pub one_host_word : (facts : HostFacts) (word : List ℕ) (mask : Option (List ℕ)) (answer other : Result (List Prefix) FaultKind) → HostWordMeans facts word mask answer → HostWordMeans facts word mask other → answer ≡ other
  one_host_word facts word None answer other h k = one_word facts word answer other h k
  one_host_word facts word (Some mask) answer other h k = one_masked word mask answer other h k

  one_address : (word : List ℕ) (answer other : Result Addr FaultKind) → AddressMeans word answer → AddressMeans word other → answer ≡ other
  one_address word answer other (is_address a h e) (is_address b k f) = e ∙ ap Ok (one_addr word a b h k) ∙ sym f
  one_address word answer other (is_address a h e) (no_address none f) = absurd (none a h)
  one_address word answer other (no_address none e) (is_address b k f) = absurd (none b k)
  one_address word answer other (no_address none e) (no_address also f) = e ∙ sym f

  one_of_ends : (a b : Addr) (r s : Range) → HasEnds a b r → HasEnds a b s → r ≡ s
  one_of_ends a b r s h k =
      let low = (level r.low s.low).1 (h.low_end ∙ sym k.low_end) in
      let high = (level r.high s.high).1 (h.high_end ∙ sym k.high_end) in
      (level_ranges r s).0 (and_from (addr_eq r.low s.low) (addr_eq r.high s.high) low high)

  of_one_family : (a b : Addr) (r : Range) → HasEnds a b r → SameFamily a b
  of_one_family a b r h = subst (λ (c : Addr). SameFamily c b) h.low_end (subst (λ (c : Addr). SameFamily r.low c) h.high_end r.one_family)

  in_order : (a b : Addr) (r : Range) → HasEnds a b r → OutOfOrder a b → ⊥
  in_order a b r h out =
      let kept : number a ≤ number b = subst (λ (c : Addr). number c ≤ number b) h.low_end (subst (λ (c : Addr). number r.low ≤ number c) h.high_end r.in_order) in
      let above : number b < number a = out.above in
      omega arith

  one_between : (low : List ℕ) (negated : Bool) (a b : Addr) (words other : Words AddrTest) → RangeMeans low negated a b words → RangeMeans low negated a b other → words ≡ other
  one_between low negated a b words other (a_range r h e) (a_range s k f) = e ∙ ap (λ c. found (tests.Test negated (sets.Range c))) (one_of_ends a b r s h k) ∙ sym f
  one_between low negated a b words other (a_range r h e) (two_families k f) = absurd (k (of_one_family a b r h))
  one_between low negated a b words other (a_range r h e) (falls k f) = absurd (in_order a b r h k)
  one_between low negated a b words other (two_families h e) (a_range s k f) = absurd (h (of_one_family a b s k))
  one_between low negated a b words other (two_families h e) (two_families k f) = e ∙ sym f
  one_between low negated a b words other (two_families h e) (falls k f) = absurd (h k.one_family)
  one_between low negated a b words other (falls h e) (a_range s k f) = absurd (in_order a b s k h)
  one_between low negated a b words other (falls h e) (two_families k f) = absurd (k h.one_family)
  one_between low negated a b words other (falls h e) (falls k f) = e ∙ sym f

  one_end : (low : List ℕ) (negated : Bool) (first last : Result Addr FaultKind) (words other : Words AddrTest) → EndsMean low negated first last words → EndsMean low negated first last other → words ≡ other
  one_end low negated (Ok a) (Ok b) words other h k = one_between low negated a b words other h k
  one_end low negated (Ok a) (Err fault) words other h k = h ∙ sym k
  one_end low negated (Err fault) (Ok b) words other h k = h ∙ sym k
  one_end low negated (Err fault) (Err second) words other h k = h ∙ sym k

  one_range : (negated : Bool) (low high : List ℕ) (words other : Words AddrTest) → IsRange negated low high words → IsRange negated low high other → words ≡ other
  one_range negated low high words other h k =
      let first = one_address low h.first k.first h.low_end k.low_end in
      let last = one_address high h.last k.last h.high_end k.high_end in
      one_end low negated k.first k.last words other
      (subst (λ (r : Result Addr FaultKind). EndsMean low negated r k.last words) first (subst (λ (r : Result Addr FaultKind). EndsMean low negated h.first r words) last h.mean))
      k.mean

  one_form : (facts : HostFacts) (negated : Bool) (what : HostForm) (words other : Words AddrTest) → FormMeans facts negated what words → FormMeans facts negated what other → words ≡ other
  one_form facts negated forms.Any words other h k = h ∙ sym k
  one_form facts negated (forms.Word word mask) words other h k =
      h.are ∙ ap (tests_of_word negated) (one_host_word facts word mask h.answer k.answer h.means k.means) ∙ sym k.are
  one_form facts negated (forms.Range low high) words other h k = one_range negated low high words other h k
  one_form facts negated (forms.Dynamic word) words other h k = h ∙ sym k
  one_form facts negated (forms.Table name) words other h k = h ∙ sym k

  pub one_list : (facts : HostFacts) (items : List HostItem) (words other : Words AddrTest) → HostsMean facts items words → HostsMean facts items other → words ≡ other
  one_list facts items words other h k =
      h.are
      ∙ ap all_of (same_zip (HostMeans facts) (λ item one two. one_form facts item.negated item.what one two) items h.readings k.readings h.each k.each)
      ∙ sym k.are

  pub one_target : (facts : HostFacts) (target : TargetWords) (words other : Words Target) → TargetMeans facts target words → TargetMeans facts target other → words ≡ other
  one_target facts target words other h k =
      h.are ∙ ap (λ addr. target_of addr (target_port facts target.port)) (one_address target.addr h.addr k.addr h.address k.address) ∙ sym k.are
