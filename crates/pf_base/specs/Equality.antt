-- Decided equality: a test that passes exactly where two values are one.
use Rattle.std.specs.Prelude.{◌≡◌, ℕ, Bool, true, false, ◌&&◌, ◌⊎◌, List, Option, Some, None, nat_eq, refl}
use Rattle.std.proofs.Common.{sym, ap, ◌∙◌, inl, inr}
use Rattle.std.proofs.lemmas.Bool.{false≢true}
use Rattle.std.proofs.Math.Bool.{beq}
use Rattle.std.specs.Bool.{Decides}
use Rattle.std.specs.Option.{option_eq, is_some, unwrap_or}
use Rattle.std.specs.Cmp.{booleans_Decides, unsigned_Decides, first_so, second_so}
use Rattle.std.specs.Cmp.Lexicographic.{pointwise, pointwise_decides}

pub record Equality (A : Type 0) : Type 0 where
  pub same : A → A → Bool
  pub decides : (a b : A) → Decides (same a b) (a ≡ b)

-- numbers
abbrev pub numbers : Equality ℕ
numbers = record { same = nat_eq; decides = unsigned_Decides }

-- truth values
abbrev pub truths : Equality Bool
truths = record { same = beq; decides = booleans_Decides }

-- values shown by a view that tells them apart
abbrev pub shown_by : {A B : Type 0} (view : A → B) → ((a b : A) → view a ≡ view b → a ≡ b) → Equality B → Equality A
shown_by view tells shown = record {
  same = λ a b. shown.same (view a) (view b);
  decides = λ a b. (λ h. tells a b ((shown.decides (view a) (view b)).0 h), λ e. (shown.decides (view a) (view b)).1 (ap view e));
}

-- values made of parts: the parts give the whole back
abbrev pub made_of : {A B : Type 0} (parts : A → B) (whole : B → A) → ((a : A) → whole (parts a) ≡ a) → Equality B → Equality A
made_of parts whole back made = shown_by parts (λ a b e. sym (back a) ∙ ap whole e ∙ back b) made

pub both_so : (s t : Bool) → s ≡ true → t ≡ true → (s && t) ≡ true
both_so s t h k = rw (h, k) refl

-- pairs: both parts are the same
abbrev pub pairs : {A B : Type 0} → Equality A → Equality B → Equality (A × B)
pairs first second = record {
  same = λ a b. first.same a.0 b.0 && second.same a.1 b.1;
  decides = λ a b. (
    λ h i. ((first.decides a.0 b.0).0 (first_so _ _ h) i, (second.decides a.1 b.1).0 (second_so _ _ h) i),
    λ e. both_so _ _ ((first.decides a.0 b.0).1 (ap (λ p. p.0) e)) ((second.decides a.1 b.1).1 (ap (λ p. p.1) e)),
  );
}

-- lists: as long, and the same in each place
abbrev pub lists : {A : Type 0} → Equality A → Equality (List A)
lists item = record { same = pointwise item.same; decides = pointwise_decides item.decides }

-- one of two kinds: the same kind, and the same value
abbrev pub same_kind : {A B : Type 0} → Equality A → Equality B → A ⊎ B → A ⊎ B → Bool
same_kind left right (inl a) (inl b) = left.same a b
same_kind left right (inl a) (inr b) = false
same_kind left right (inr a) (inl b) = false
same_kind left right (inr a) (inr b) = right.same a b

-- what stands in a left one, or else something given
abbrev in_left : {A B : Type 0} → A → A ⊎ B → A
in_left other (inl a) = a
in_left other (inr b) = other

abbrev in_right : {A B : Type 0} → B → A ⊎ B → B
in_right other (inl a) = other
in_right other (inr b) = b

abbrev is_left : {A B : Type 0} → A ⊎ B → Bool
is_left (inl a) = true
is_left (inr b) = false

pub kind_decides : {A B : Type 0} (left : Equality A) (right : Equality B) (x y : A ⊎ B) → Decides (same_kind left right x y) (x ≡ y)
kind_decides left right (inl a) (inl b) = (λ h. ap inl ((left.decides a b).0 h), λ e. (left.decides a b).1 (ap (in_left a) e))
kind_decides left right (inl a) (inr b) = (λ h. absurd (false≢true h), λ e. ap is_left (sym e))
kind_decides left right (inr a) (inl b) = (λ h. absurd (false≢true h), λ e. ap is_left e)
kind_decides left right (inr a) (inr b) = (λ h. ap inr ((right.decides a b).0 h), λ e. (right.decides a b).1 (ap (in_right a) e))

abbrev pub sums : {A B : Type 0} → Equality A → Equality B → Equality (A ⊎ B)
sums left right = record { same = same_kind left right; decides = kind_decides left right }

-- a value or none: both none, or both the same value
pub option_decides : {A : Type 0} (item : Equality A) (x y : Option A) → Decides (option_eq item.same x y) (x ≡ y)
option_decides item None None = (λ h. refl, λ e. refl)
option_decides item None (Some b) = (λ h. absurd (false≢true h), λ e. ap is_some e)
option_decides item (Some a) None = (λ h. absurd (false≢true h), λ e. ap is_some (sym e))
option_decides item (Some a) (Some b) = (λ h. ap Some ((item.decides a b).0 h), λ e. (item.decides a b).1 (ap (λ o. unwrap_or o a) e))

abbrev pub options : {A : Type 0} → Equality A → Equality (Option A)
options item = record { same = option_eq item.same; decides = option_decides item }
