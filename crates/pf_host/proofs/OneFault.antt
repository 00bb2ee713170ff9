-- A text has facts or one first fault, and never both.
use Rattle.std.proofs.Common.{◌≡◌, ℕ, ◌<◌, inl, inr, List, [], ◌∷◌, ◌++◌, length, refl, sym, ap, ◌∙◌, subst, arith}
use Rattle.std.proofs.lemmas.Bool.{cases_lt}
use Rattle.pf_host.specs.Facts.{HostFacts}
use Rattle.pf_host.specs.declared.fault.FactsCause.{FactsCause}
use Rattle.pf_host.specs.declared.fault.FactsCause.TheVariants.{BadLine, Unknown, Twice, BadAddress, BadNumber, Full}
use Rattle.pf_host.specs.Meaning.{HasFault, IsFactsText, IsFaultAt, IsFirst, StandsAt, rank}

pub apart : (text : List ℕ) (facts : HostFacts) (line : ℕ) (cause : FactsCause) → IsFactsText text facts → IsFaultAt text line cause → ⊥
apart text facts line cause read fault = read.sound fault.before fault.line fault.stands cause fault.fault.has

-- of two places of a list the first stands before the second
stands_before : (xs : List (List ℕ)) (x : List ℕ) (xr ys : List (List ℕ)) (y : List ℕ) (yr : List (List ℕ)) → xs ++ x ∷ xr ≡ ys ++ y ∷ yr → length xs < length ys → StandsAt ys xs x
stands_before [] x xr [] y yr e low = absurd (omega (arith, low))
stands_before [] x xr (b ∷ ys) y yr e low = let same : b ≡ x = cc in record { behind = ys; joined = ap (λ z. z ∷ ys) same }
stands_before (a ∷ xs) x xr [] y yr e low = absurd (omega (arith, low))
stands_before (a ∷ xs) x xr (b ∷ ys) y yr e low =
    let same : b ≡ a = cc in
    let rest : xs ++ x ∷ xr ≡ ys ++ y ∷ yr = cc in
    let less : length xs < length ys = omega (arith, low) in
    let st = stands_before xs x xr ys y yr rest less in
    record { behind = st.behind; joined = let j = st.joined in cc }

same_place : (xs : List (List ℕ)) (x : List ℕ) (xr ys : List (List ℕ)) (y : List ℕ) (yr : List (List ℕ)) → xs ++ x ∷ xr ≡ ys ++ y ∷ yr → length xs ≡ length ys → (xs ≡ ys) × (x ≡ y)
same_place [] x xr [] y yr e same = (refl, cc)
same_place [] x xr (b ∷ ys) y yr e same = absurd (omega (arith, same))
same_place (a ∷ xs) x xr [] y yr e same = absurd (omega (arith, same))
same_place (a ∷ xs) x xr (b ∷ ys) y yr e same =
    let head : a ≡ b = cc in
    let rest : xs ++ x ∷ xr ≡ ys ++ y ∷ yr = cc in
    let long : length xs ≡ length ys = omega (arith, same) in
    let st = same_place xs x xr ys y yr rest long in
    (let front = st.0 in cc, st.1)

same_rank : (a b : FactsCause) → rank a ≡ rank b → a ≡ b
same_rank BadLine BadLine e = refl
same_rank BadLine Unknown e = absurd (omega (arith, e))
same_rank BadLine Twice e = absurd (omega (arith, e))
same_rank BadLine BadAddress e = absurd (omega (arith, e))
same_rank BadLine BadNumber e = absurd (omega (arith, e))
same_rank BadLine Full e = absurd (omega (arith, e))
same_rank Unknown BadLine e = absurd (omega (arith, e))
same_rank Unknown Unknown e = refl
same_rank Unknown Twice e = absurd (omega (arith, e))
same_rank Unknown BadAddress e = absurd (omega (arith, e))
same_rank Unknown BadNumber e = absurd (omega (arith, e))
same_rank Unknown Full e = absurd (omega (arith, e))
same_rank Twice BadLine e = absurd (omega (arith, e))
same_rank Twice Unknown e = absurd (omega (arith, e))
same_rank Twice Twice e = refl
same_rank Twice BadAddress e = absurd (omega (arith, e))
same_rank Twice BadNumber e = absurd (omega (arith, e))
same_rank Twice Full e = absurd (omega (arith, e))
same_rank BadAddress BadLine e = absurd (omega (arith, e))
same_rank BadAddress Unknown e = absurd (omega (arith, e))
same_rank BadAddress Twice e = absurd (omega (arith, e))
same_rank BadAddress BadAddress e = refl
same_rank BadAddress BadNumber e = absurd (omega (arith, e))
same_rank BadAddress Full e = absurd (omega (arith, e))
same_rank BadNumber BadLine e = absurd (omega (arith, e))
same_rank BadNumber Unknown e = absurd (omega (arith, e))
same_rank BadNumber Twice e = absurd (omega (arith, e))
same_rank BadNumber BadAddress e = absurd (omega (arith, e))
same_rank BadNumber BadNumber e = refl
same_rank BadNumber Full e = absurd (omega (arith, e))
same_rank Full BadLine e = absurd (omega (arith, e))
same_rank Full Unknown e = absurd (omega (arith, e))
same_rank Full Twice e = absurd (omega (arith, e))
same_rank Full BadAddress e = absurd (omega (arith, e))
same_rank Full BadNumber e = absurd (omega (arith, e))
same_rank Full Full e = refl

-- there is one first cause
one_cause : (Has : FactsCause → Type 0) (a b : FactsCause) → IsFirst Has a → IsFirst Has b → a ≡ b
one_cause Has a b first second =
    elim (cases_lt (rank a) (rank b)) [
      | inl less ↦ absurd (second.first a (omega arith) first.has)
      | inr more ↦ elim (cases_lt (rank b) (rank a)) [
        | inl less ↦ absurd (first.first b (omega arith) second.has)
        | inr equal ↦ same_rank a b (omega arith)
      ]
    ]

pub one_fault : (text : List ℕ) (line : ℕ) (cause : FactsCause) (other_line : ℕ) (other_cause : FactsCause) → IsFaultAt text line cause → IsFaultAt text other_line other_cause → (line ≡ other_line) × (cause ≡ other_cause)
one_fault text line cause other_line other_cause a b =
    let e : a.before ++ a.line ∷ a.stands.behind ≡ b.before ++ b.line ∷ b.stands.behind = sym a.stands.joined ∙ b.stands.joined in
    elim (cases_lt (length a.before) (length b.before)) [
      | inl less ↦ absurd (b.sound a.before a.line (stands_before a.before a.line a.stands.behind b.before b.line b.stands.behind e less) cause a.fault.has)
      | inr more ↦ elim (cases_lt (length b.before) (length a.before)) [
        | inl less ↦ absurd (a.sound b.before b.line (stands_before b.before b.line b.stands.behind a.before a.line a.stands.behind (sym e) less) other_cause b.fault.has)
        | inr equal ↦
            let long : length a.before ≡ length b.before = omega arith in
            let same = same_place a.before a.line a.stands.behind b.before b.line b.stands.behind e long in (
              omega (arith, a.counted, b.counted, long),
              one_cause (HasFault b.before b.line) cause other_cause
                  (subst (λ (bs : List (List ℕ)). IsFirst (HasFault bs b.line) cause) same.0 (subst (λ (l : List ℕ). IsFirst (HasFault a.before l) cause) same.1 a.fault))
                  b.fault,
            )
      ]
    ]
