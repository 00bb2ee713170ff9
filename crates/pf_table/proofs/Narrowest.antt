-- The longest entry that contains an address is one of the entries, contains it, and no such entry is longer.
use Rattle.std.proofs.Common.{◌≡◌, zero, suc, ◌<◌, ◌≤◌, Bool, true, false, IsTrue, List, [], ◌∷◌, length, Option, Some, None, refl, sym, ap, ◌∙◌, subst, arith, inl, inr, ◌⊎◌, nat_lt}
use Rattle.std.specs.Prelude.{cond, Contains}
use Rattle.std.proofs.lemmas.Bool.Decides.{nat_tests}
use Rattle.pf_addr.specs.declared.addr.Addr.{Addr}
use Rattle.pf_addr.specs.Prefix.{contains}
use Rattle.pf_table.specs.declared.entry.Entry.{Entry}
use Rattle.pf_table.specs.Table.{narrower, narrowest, IsNarrowest}

first_or_later : (x : Entry) (xs : List Entry) (f : Entry) → Contains (x ∷ xs) f → (x ≡ f) ⊎ Contains xs f
first_or_later x xs f (zero, lt, e) = inl e
first_or_later x xs f (suc k, lt, e) = inr (k, let less : k < length xs = omega arith in less, e)

first : (x : Entry) (xs : List Entry) → Contains (x ∷ xs) x
first x xs = (0, let some : 0 < length (x ∷ xs) = omega arith in some, refl)

later : (x : Entry) (xs : List Entry) (f : Entry) → Contains xs f → Contains (x ∷ xs) f
later x xs f (k, lt, e) = (suc k, let less : suc k < length (x ∷ xs) = omega arith in less, e)

some_is : (e f : Entry) → ◌≡◌ {A = Option Entry} (Some e) (Some f) → e ≡ f
some_is e f h = cc

tested : (b : Bool) → (b ≡ true) ⊎ (b ≡ false)
tested true = inl refl
tested false = inr refl

-- no entry contains the address
nothing : (es : List Entry) (a : Addr) → narrowest es a ≡ None → (f : Entry) → Contains es f → contains f.prefix a ≡ true → 0 < 0
nothing [] a e f (k, lt, is) h = absurd (omega arith)
nothing (x ∷ xs) a e f c h =
    elim (tested (contains x.prefix a)) [
      | inl inside ↦
          let is : ◌≡◌ {A = Option Entry} (Some (narrower x (narrowest xs a))) None = sym (ap (λ (b : Bool). cond b (Some (narrower x (narrowest xs a))) (narrowest xs a)) inside) ∙ e in
          absurd cc
      | inr outside ↦ elim (first_or_later x xs f c) [
        | inl same ↦ let both : true ≡ false = sym (ap (λ (t : Entry). contains t.prefix a) same ∙ h) ∙ outside in absurd cc
        | inr rest ↦ nothing xs a (sym (ap (λ (b : Bool). cond b (Some (narrower x (narrowest xs a))) (narrowest xs a)) outside) ∙ e) f rest h
      ]
    ]

module _ (x : Entry) (xs : List Entry) (a : Addr) (inside : contains x.prefix a ≡ true) where
  is_first : narrowest xs a ≡ None → IsNarrowest (x ∷ xs) a x
  is_first none = record {
    among = first x xs;
    inside = inside;
    longest = λ f c h. elim (first_or_later x xs f c) [
      | inl same ↦ let len : x.prefix.len ≡ f.prefix.len = ap (λ (t : Entry). t.prefix.len) same in omega arith
      | inr rest ↦ absurd (let no = nothing xs a none f rest h in omega arith)
    ];
  }

  is_longer : (g : Entry) → IsNarrowest xs a g → x.prefix.len < g.prefix.len → IsNarrowest (x ∷ xs) a g
  is_longer g h lt = record {
    among = later x xs g h.among;
    inside = h.inside;
    longest = λ f c k. elim (first_or_later x xs f c) [
      | inl same ↦ let len : x.prefix.len ≡ f.prefix.len = ap (λ (t : Entry). t.prefix.len) same in omega arith
      | inr rest ↦ h.longest f rest k
    ];
  }

  stays : (g : Entry) → IsNarrowest xs a g → g.prefix.len ≤ x.prefix.len → IsNarrowest (x ∷ xs) a x
  stays g h le = record {
    among = first x xs;
    inside = inside;
    longest = λ f c k. elim (first_or_later x xs f c) [
      | inl same ↦ let len : x.prefix.len ≡ f.prefix.len = ap (λ (t : Entry). t.prefix.len) same in omega arith
      | inr rest ↦ let low = h.longest f rest k in omega arith
    ];
  }

  of_two : (g : Entry) (b : Bool) → nat_lt x.prefix.len g.prefix.len ≡ b → IsNarrowest xs a g → IsNarrowest (x ∷ xs) a (cond b g x)
  of_two g true e h = is_longer g h (grind (arith, nat_tests))
  of_two g false e h = stays g h (grind (arith, nat_tests))

found_outside : (x : Entry) (xs : List Entry) (a : Addr) (e : Entry) → contains x.prefix a ≡ false → IsNarrowest xs a e → IsNarrowest (x ∷ xs) a e
found_outside x xs a e outside h = record {
  among = later x xs e h.among;
  inside = h.inside;
  longest = λ f c k. elim (first_or_later x xs f c) [
    | inl same ↦ let both : true ≡ false = sym (ap (λ (t : Entry). contains t.prefix a) same ∙ k) ∙ outside in absurd cc
    | inr rest ↦ h.longest f rest k
  ];
}

pub found : (es : List Entry) (a : Addr) (e : Entry) → narrowest es a ≡ Some e → IsNarrowest es a e
found [] a e h = absurd cc
found (x ∷ xs) a e h =
    elim (tested (contains x.prefix a)) [
      | inl inside ↦ by_rest (λ g k. found xs a g k) inside (narrowest xs a) refl (some_is _ _ (sym (ap (λ (b : Bool). cond b (Some (narrower x (narrowest xs a))) (narrowest xs a)) inside) ∙ h))
      | inr outside ↦ found_outside x xs a e outside (found xs a e (sym (ap (λ (b : Bool). cond b (Some (narrower x (narrowest xs a))) (narrowest xs a)) outside) ∙ h))
    ]
  where
    by_rest : ((g : Entry) → narrowest xs a ≡ Some g → IsNarrowest xs a g) → contains x.prefix a ≡ true → (r : Option Entry) → narrowest xs a ≡ r → narrower x r ≡ e → IsNarrowest (x ∷ xs) a e
    by_rest go inside None is same = subst (λ (t : Entry). IsNarrowest (x ∷ xs) a t) same (is_first x xs a inside is)
    by_rest go inside (Some g) is same = subst (λ (t : Entry). IsNarrowest (x ∷ xs) a t) same (of_two x xs a inside g (nat_lt x.prefix.len g.prefix.len) refl (go g is))

pub none_inside : (es : List Entry) (a : Addr) → narrowest es a ≡ None → (f : Entry) → Contains es f → IsTrue (contains f.prefix a) → ⊥
none_inside es a e f c h = absurd (let no = nothing es a e f c h in omega arith)
