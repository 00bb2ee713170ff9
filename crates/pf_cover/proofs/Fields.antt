-- Covering, criterion by criterion: it is transitive, each criterion covers itself, and what covers holds where the
-- covered one holds.
use Rattle.std.proofs.Common.{◌≡◌, ℕ, ◌≤◌, Bool, true, false, not, ◌&&◌, ◌||◌, nat_le, ◌==◌, List, Option, Some, None, refl, sym, ap, ◌∙◌, subst, arith, ◌⊎◌, inl, inr}
use Rattle.std.proofs.lemmas.Bool.{false≢true, and_parts, and_from, leb-true, le-leb, eqb-true}
use Rattle.std.proofs.Common.{eq-eqb}
use Rattle.pf_base.specs.Equality.{Equality, truths}
use Rattle.pf_addr.specs.Addr.{bits_of, number, width}
use Rattle.pf_addr.specs.Prefix as prefixes
use Rattle.pf_addr.specs.Range as ranges
use Rattle.pf_addr.specs.Stretch as stretches
use Rattle.pf_addr.specs.declared.addr.Addr.{Addr}
use Rattle.pf_addr.specs.declared.prefix.Prefix.{Prefix}
use Rattle.pf_addr.specs.declared.range.Range.{Range}
use Rattle.pf_addr.specs.declared.stretch.Stretch.{Stretch}
use Rattle.pf_ops.specs.Numbers as sets
use Rattle.pf_ops.specs.declared.numbers.Interval.{Interval}
use Rattle.pf_ops.specs.declared.numbers.Numbers.{Numbers}
use Rattle.pf_ops.specs.declared.numbers.Numbers.TheVariants.{Empty, One, Two}
use Rattle.pf_parts.specs.Equal.{interface_tests, tag_tests}
use Rattle.pf_parts.specs.declared.matching.IfTest.{IfTest}
use Rattle.pf_parts.specs.declared.matching.IfTest.TheVariants as interface
use Rattle.pf_parts.specs.declared.matching.TagTest.{TagTest}
use Rattle.pf_parts.specs.declared.matching.TagTest.TheVariants as tag
use Rattle.pf_rule.specs.Around.{Around}
use Rattle.pf_rule.specs.Criteria.{address_holds, if_given, if_known, in_set, is_tcp_or_udp, number_holds, on_interface, tag_passes, turned}
use Rattle.pf_rule.specs.Equal.{address_sets}
use Rattle.pf_rule.specs.declared.criteria.AddrSet.{AddrSet}
use Rattle.pf_rule.specs.declared.criteria.AddrSet.TheVariants.{Prefix as InPrefix, Range as InRange, Table, Dynamic, Auto}
use Rattle.pf_rule.specs.declared.criteria.AddrTest.{AddrTest}
use Rattle.pf_rule.specs.declared.criteria.AddrTest.TheVariants as address
use Rattle.pf_rule.specs.declared.packet.Packet.{Packet}
use Rattle.pf_cover.specs.Cover.{address_covers, equal_covers, given_covers, interface_covers, lies_inside, numbers_cover, set_covers, stretch_of, tag_covers}
use Rattle.pf_cover.proofs.Follows.{or_cases}

-- the stretch of a prefix or a range has exactly its addresses
pub record Stretched : Type 0 where
  pub prefixes : (p : Prefix) (a : Addr) → stretches.contains (stretches.prefix_stretch p) a ≡ prefixes.contains p a
  pub ranges : (r : Range) (a : Addr) → stretches.contains (stretches.range_stretch r) a ≡ ranges.contains r a

-- what may be given
pub given_joins : {A : Type 0} (test : A → A → Bool) → ((a b c : A) → test a b ≡ true → test b c ≡ true → test a c ≡ true) → (x y z : Option A) → given_covers test x y ≡ true → given_covers test y z ≡ true → given_covers test x z ≡ true
given_joins test step None y z h k = refl
given_joins test step (Some a) None z h k = absurd (false≢true h)
given_joins test step (Some a) (Some b) None h k = absurd (false≢true k)
given_joins test step (Some a) (Some b) (Some c) h k = step a b c h k

pub given_itself : {A : Type 0} (test : A → A → Bool) → ((a : A) → test a a ≡ true) → (x : Option A) → given_covers test x x ≡ true
given_itself test each None = refl
given_itself test each (Some a) = each a

pub given_holds : {A : Type 0} (test : A → A → Bool) (holds : A → Bool) → ((a b : A) → test a b ≡ true → holds b ≡ true → holds a ≡ true) → (x y : Option A) → given_covers test x y ≡ true → if_given y holds ≡ true → if_given x holds ≡ true
given_holds test holds step None y h k = refl
given_holds test holds step (Some a) None h k = absurd (false≢true h)
given_holds test holds step (Some a) (Some b) h k = step a b h k

-- what covers its equal alone
pub same_joins : {A : Type 0} (equal : Equality A) (a b c : A) → equal.same a b ≡ true → equal.same b c ≡ true → equal.same a c ≡ true
same_joins equal a b c h k = (equal.decides a c).1 ((equal.decides a b).0 h ∙ (equal.decides b c).0 k)

pub same_itself : {A : Type 0} (equal : Equality A) (a : A) → equal.same a a ≡ true
same_itself equal a = (equal.decides a a).1 refl

pub equal_joins : {A : Type 0} (equal : Equality A) (x y z : Option A) → equal_covers equal x y ≡ true → equal_covers equal y z ≡ true → equal_covers equal x z ≡ true
equal_joins equal = given_joins equal.same (same_joins equal)

pub equal_itself : {A : Type 0} (equal : Equality A) (x : Option A) → equal_covers equal x x ≡ true
equal_itself equal = given_itself equal.same (same_itself equal)

pub equal_holds : {A : Type 0} (equal : Equality A) (holds : A → Bool) (x y : Option A) → equal_covers equal x y ≡ true → if_given y holds ≡ true → if_given x holds ≡ true
equal_holds equal holds = given_holds equal.same holds (λ a b h k. ap holds ((equal.decides a b).0 h) ∙ k)

-- interfaces
pub interface_joins : (x y z : IfTest) → interface_covers x y ≡ true → interface_covers y z ≡ true → interface_covers x z ≡ true
interface_joins interface.Any y z h k = refl
interface_joins (interface.On n g) y z h k =
    let e = (interface_tests.decides (interface.On n g) y).0 h in
    subst (λ (t : IfTest). interface_covers t z ≡ true) (sym e) k

pub interface_itself : (x : IfTest) → interface_covers x x ≡ true
interface_itself interface.Any = refl
interface_itself (interface.On n g) = same_itself interface_tests (interface.On n g)

pub interface_also : (in_group : List ℕ → List ℕ → Bool) (name : List ℕ) (x y : IfTest) → interface_covers x y ≡ true → on_interface in_group y name ≡ true → on_interface in_group x name ≡ true
interface_also in_group name interface.Any y h k = refl
interface_also in_group name (interface.On n g) y h k =
    ap (λ (t : IfTest). on_interface in_group t name) ((interface_tests.decides (interface.On n g) y).0 h) ∙ k

-- tags
pub tag_joins : (x y z : TagTest) → tag_covers x y ≡ true → tag_covers y z ≡ true → tag_covers x z ≡ true
tag_joins tag.Any y z h k = refl
tag_joins (tag.Is n g) y z h k =
    let e = (tag_tests.decides (tag.Is n g) y).0 h in
    subst (λ (t : TagTest). tag_covers t z ≡ true) (sym e) k

pub tag_itself : (x : TagTest) → tag_covers x x ≡ true
tag_itself tag.Any = refl
tag_itself (tag.Is n g) = same_itself tag_tests (tag.Is n g)

pub tag_also : (present : Option (List ℕ)) (x y : TagTest) → tag_covers x y ≡ true → tag_passes y present ≡ true → tag_passes x present ≡ true
tag_also present tag.Any y h k = refl
tag_also present (tag.Is n g) y h k = ap (λ (t : TagTest). tag_passes t present) ((tag_tests.decides (tag.Is n g) y).0 h) ∙ k

-- sets of numbers
between_joins : (low mid part : ℕ) → nat_le low mid ≡ true → nat_le mid part ≡ true → nat_le low part ≡ true
between_joins low mid part h k =
    let a : low ≤ mid = leb-true _ _ h in
    let b : mid ≤ part = leb-true _ _ k in
    le-leb _ _ (omega arith)

lies_joins : (x y z : Interval) → sets.lies_in x y ≡ true → sets.lies_in y z ≡ true → sets.lies_in x z ≡ true
lies_joins x y z h k =
    let a = and_parts (nat_le x.low y.low) (nat_le y.high x.high) h in
    let b = and_parts (nat_le y.low z.low) (nat_le z.high y.high) k in
    and_from (nat_le x.low z.low) (nat_le z.high x.high) (between_joins _ _ _ a.0 b.0) (between_joins _ _ _ b.1 a.1)

lies_itself : (x : Interval) → sets.lies_in x x ≡ true
lies_itself x = and_from (nat_le x.low x.low) (nat_le x.high x.high) (le-leb _ _ (omega arith)) (le-leb _ _ (omega arith))

lies_has : (x y : Interval) (n : ℕ) → sets.lies_in x y ≡ true → sets.in_interval y n ≡ true → sets.in_interval x n ≡ true
lies_has x y n h k =
    let a = and_parts (nat_le x.low y.low) (nat_le y.high x.high) h in
    let b = and_parts (nat_le y.low n) (nat_le n y.high) k in
    and_from (nat_le x.low n) (nat_le n x.high) (between_joins _ _ _ a.0 b.0) (between_joins _ _ _ b.1 a.1)

or_left : (x y : Bool) → x ≡ true → (x || y) ≡ true
or_left x y h = ap (λ t. t || y) h

or_right : (x y : Bool) → y ≡ true → (x || y) ≡ true
or_right true y h = refl
or_right false y h = h

encloses_narrower : (set : Numbers) (y z : Interval) → sets.encloses set y ≡ true → sets.lies_in y z ≡ true → sets.encloses set z ≡ true
encloses_narrower Empty y z h k = absurd (false≢true h)
encloses_narrower (One all) y z h k = lies_joins all y z h k
encloses_narrower (Two first last) y z h k =
    elim (or_cases (sets.lies_in first y) (sets.lies_in last y) h) [
      | inl l ↦ or_left _ (sets.lies_in last z) (lies_joins first y z l k)
      | inr l ↦ or_right (sets.lies_in first z) _ (lies_joins last y z l k)
    ]

encloses_has : (set : Numbers) (y : Interval) (n : ℕ) → sets.encloses set y ≡ true → sets.in_interval y n ≡ true → sets.in_numbers set n ≡ true
encloses_has Empty y n h k = absurd (false≢true h)
encloses_has (One all) y n h k = lies_has all y n h k
encloses_has (Two first last) y n h k =
    elim (or_cases (sets.lies_in first y) (sets.lies_in last y) h) [
      | inl l ↦ or_left _ (sets.in_interval last n) (lies_has first y n l k)
      | inr l ↦ or_right (sets.in_interval first n) _ (lies_has last y n l k)
    ]

encloses_covered : (x y : Numbers) (z : Interval) → sets.covers x y ≡ true → sets.encloses y z ≡ true → sets.encloses x z ≡ true
encloses_covered x Empty z h k = absurd (false≢true k)
encloses_covered x (One all) z h k = encloses_narrower x all z h k
encloses_covered x (Two first last) z h k =
    let parts = and_parts (sets.encloses x first) (sets.encloses x last) h in
    elim (or_cases (sets.lies_in first z) (sets.lies_in last z) k) [
      | inl l ↦ encloses_narrower x first z parts.0 l
      | inr l ↦ encloses_narrower x last z parts.1 l
    ]

pub sets_join : (x y z : Numbers) → sets.covers x y ≡ true → sets.covers y z ≡ true → sets.covers x z ≡ true
sets_join x y Empty h k = refl
sets_join x y (One all) h k = encloses_covered x y all h k
sets_join x y (Two first last) h k =
    let parts = and_parts (sets.encloses y first) (sets.encloses y last) k in
    and_from (sets.encloses x first) (sets.encloses x last) (encloses_covered x y first h parts.0) (encloses_covered x y last h parts.1)

pub set_itself : (x : Numbers) → sets.covers x x ≡ true
set_itself Empty = refl
set_itself (One all) = lies_itself all
set_itself (Two first last) =
    and_from (sets.encloses (Two first last) first) (sets.encloses (Two first last) last)
    (or_left _ (sets.lies_in last first) (lies_itself first))
    (or_right (sets.lies_in first last) _ (lies_itself last))

pub set_has : (x y : Numbers) (n : ℕ) → sets.covers x y ≡ true → sets.in_numbers y n ≡ true → sets.in_numbers x n ≡ true
set_has x Empty n h k = absurd (false≢true k)
set_has x (One all) n h k = encloses_has x all n h k
set_has x (Two first last) n h k =
    let parts = and_parts (sets.encloses x first) (sets.encloses x last) h in
    elim (or_cases (sets.in_interval first n) (sets.in_interval last n) k) [
      | inl l ↦ encloses_has x first n parts.0 l
      | inr l ↦ encloses_has x last n parts.1 l
    ]

known_has : (x y : Numbers) (number : Option ℕ) → sets.covers x y ≡ true → if_known number (λ n. sets.in_numbers y n) ≡ true → if_known number (λ n. sets.in_numbers x n) ≡ true
known_has x y None h k = absurd (false≢true k)
known_has x y (Some n) h k = set_has x y n h k

pub numbers_join : (x y z : Option Numbers) → numbers_cover x y ≡ true → numbers_cover y z ≡ true → numbers_cover x z ≡ true
numbers_join = given_joins sets.covers sets_join

pub numbers_itself : (x : Option Numbers) → numbers_cover x x ≡ true
numbers_itself = given_itself sets.covers set_itself

pub numbers_hold : (packet : Packet) (number : Option ℕ) (x y : Option Numbers) → numbers_cover x y ≡ true → number_holds y packet number ≡ true → number_holds x packet number ≡ true
numbers_hold packet number =
    given_holds sets.covers (λ set. is_tcp_or_udp packet.proto && if_known number (λ n. sets.in_numbers set n))
    (λ a b h k.
    let parts = and_parts (is_tcp_or_udp packet.proto) (if_known number (λ n. sets.in_numbers b n)) k in
    and_from (is_tcp_or_udp packet.proto) (if_known number (λ n. sets.in_numbers a n)) parts.0 (known_has a b number h parts.1))

-- stretches of addresses
stretches_join : (x y z : Stretch) → stretches.encloses x y ≡ true → stretches.encloses y z ≡ true → stretches.encloses x z ≡ true
stretches_join x y z h k =
    let a = and_parts (bits_of x.family == bits_of y.family) _ h in
    let b = and_parts (bits_of y.family == bits_of z.family) _ k in
    let a' = and_parts (nat_le x.low y.low) (nat_le y.high x.high) a.1 in
    let b' = and_parts (nat_le y.low z.low) (nat_le z.high y.high) b.1 in
    and_from (bits_of x.family == bits_of z.family) (nat_le x.low z.low && nat_le z.high x.high)
    (eq-eqb _ _ (eqb-true _ _ a.0 ∙ eqb-true _ _ b.0))
    (and_from (nat_le x.low z.low) (nat_le z.high x.high) (between_joins _ _ _ a'.0 b'.0) (between_joins _ _ _ b'.1 a'.1))

stretch_has : (x y : Stretch) (a : Addr) → stretches.encloses x y ≡ true → stretches.contains y a ≡ true → stretches.contains x a ≡ true
stretch_has x y addr h k =
    let a = and_parts (bits_of x.family == bits_of y.family) _ h in
    let b = and_parts (bits_of y.family == width addr) _ k in
    let a' = and_parts (nat_le x.low y.low) (nat_le y.high x.high) a.1 in
    let b' = and_parts (nat_le y.low (number addr)) (nat_le (number addr) y.high) b.1 in
    and_from (bits_of x.family == width addr) (nat_le x.low (number addr) && nat_le (number addr) x.high)
    (eq-eqb _ _ (eqb-true _ _ a.0 ∙ eqb-true _ _ b.0))
    (and_from (nat_le x.low (number addr)) (nat_le (number addr) x.high) (between_joins _ _ _ a'.0 b'.0) (between_joins _ _ _ b'.1 a'.1))

inside_joins : (x y z : Option Stretch) → lies_inside x y ≡ true → lies_inside y z ≡ true → lies_inside x z ≡ true
inside_joins None y z h k = absurd (false≢true h)
inside_joins (Some a) None z h k = absurd (false≢true h)
inside_joins (Some a) (Some b) None h k = absurd (false≢true k)
inside_joins (Some a) (Some b) (Some c) h k = stretches_join a b c h k

-- the address is in the stretch, where it is one
abbrev in_some : Option Stretch → Addr → Bool
in_some None addr = false
in_some (Some s) addr = stretches.contains s addr

inside_has : (x y : Option Stretch) (a : Addr) → lies_inside x y ≡ true → in_some y a ≡ true → in_some x a ≡ true
inside_has None y a h k = absurd (false≢true h)
inside_has (Some s) None a h k = absurd (false≢true h)
inside_has (Some s) (Some t) a h k = stretch_has s t a h k

abbrev is_stretch : Option Stretch → Bool
is_stretch None = false
is_stretch (Some s) = true

inside_first : (x y : Option Stretch) → lies_inside x y ≡ true → is_stretch x ≡ true
inside_first None y h = h
inside_first (Some s) y h = refl

inside_second : (x y : Option Stretch) → lies_inside x y ≡ true → is_stretch y ≡ true
inside_second None y h = absurd (false≢true h)
inside_second (Some s) None h = h
inside_second (Some s) (Some t) h = refl

set_of_stretch : Stretched → (around : Around) (what : AddrSet) (a : Addr) → is_stretch (stretch_of what) ≡ true → in_set around what a ≡ in_some (stretch_of what) a
set_of_stretch facts around (InPrefix p) a h = sym (facts.prefixes p a)
set_of_stretch facts around (InRange r) a h = sym (facts.ranges r a)
set_of_stretch facts around (Table n) a h = absurd (false≢true h)
set_of_stretch facts around (Dynamic d) a h = absurd (false≢true h)
set_of_stretch facts around (Auto n) a h = absurd (false≢true h)

inside_in_set : Stretched → (around : Around) (wide narrow : AddrSet) (a : Addr) → lies_inside (stretch_of wide) (stretch_of narrow) ≡ true → in_set around narrow a ≡ true → in_set around wide a ≡ true
inside_in_set facts around wide narrow a h k =
    set_of_stretch facts around wide a (inside_first (stretch_of wide) (stretch_of narrow) h)
    ∙ inside_has (stretch_of wide) (stretch_of narrow) a h
    (sym (set_of_stretch facts around narrow a (inside_second (stretch_of wide) (stretch_of narrow) h)) ∙ k)

-- both without `!`
both_positive : (g t : Bool) → (not g && not t) ≡ true → (g ≡ false) × (t ≡ false)
both_positive false false h = (refl, refl)
both_positive false true h = absurd (false≢true h)
both_positive true t h = absurd (false≢true h)

-- one set of addresses covers another: they are equal, or the one lies inside the other
record Wider (g : Bool) (wide : AddrSet) (t : Bool) (narrow : AddrSet) : Type 0 where
  first_positive : g ≡ false
  second_positive : t ≡ false
  inside : lies_inside (stretch_of wide) (stretch_of narrow) ≡ true

record Equal (g : Bool) (wide : AddrSet) (t : Bool) (narrow : AddrSet) : Type 0 where
  signs : g ≡ t
  sets : wide ≡ narrow

set_cases : (g : Bool) (wide : AddrSet) (t : Bool) (narrow : AddrSet) → set_covers g wide t narrow ≡ true → Equal g wide t narrow ⊎ Wider g wide t narrow
set_cases g wide t narrow h =
    elim (or_cases (truths.same g t && address_sets.same wide narrow) ((not g && not t) && lies_inside (stretch_of wide) (stretch_of narrow)) h) [
      | inl e ↦
          let parts = and_parts (truths.same g t) (address_sets.same wide narrow) e in
          inl (record { signs = (truths.decides g t).0 parts.0; sets = (address_sets.decides wide narrow).0 parts.1 })
      | inr e ↦
          let parts = and_parts (not g && not t) (lies_inside (stretch_of wide) (stretch_of narrow)) e in
          let signs = both_positive g t parts.0 in
          inr (record { first_positive = signs.0; second_positive = signs.1; inside = parts.1 })
    ]

set_wider : (wide narrow : AddrSet) → lies_inside (stretch_of wide) (stretch_of narrow) ≡ true → set_covers false wide false narrow ≡ true
set_wider wide narrow h = or_right (truths.same false false && address_sets.same wide narrow) _ h

address_set_joins : (g : Bool) (x : AddrSet) (t : Bool) (y : AddrSet) (u : Bool) (z : AddrSet) → set_covers g x t y ≡ true → set_covers t y u z ≡ true → set_covers g x u z ≡ true
address_set_joins g x t y u z h k =
    elim (set_cases g x t y h) [
      | inl e ↦ ap (λ (v : Bool). set_covers v x u z) e.signs ∙ ap (λ (v : AddrSet). set_covers t v u z) e.sets ∙ k
      | inr w ↦
          elim (set_cases t y u z k) [
            | inl e ↦ ap (λ (v : Bool). set_covers g x v z) (sym e.signs) ∙ ap (λ (v : AddrSet). set_covers g x t v) (sym e.sets) ∙ h
            | inr v ↦
                ap (λ (s : Bool). set_covers s x u z) w.first_positive ∙ ap (λ (s : Bool). set_covers false x s z) v.second_positive
                ∙ set_wider x z (inside_joins (stretch_of x) (stretch_of y) (stretch_of z) w.inside v.inside)
          ]
    ]

pub address_joins : (x y z : AddrTest) → address_covers x y ≡ true → address_covers y z ≡ true → address_covers x z ≡ true
address_joins address.Any y z h k = refl
address_joins (address.Test g a) address.Any z h k = absurd (false≢true h)
address_joins (address.Test g a) (address.Test t b) address.Any h k = absurd (false≢true k)
address_joins (address.Test g a) (address.Test t b) (address.Test u c) h k = address_set_joins g a t b u c h k

pub address_itself : (x : AddrTest) → address_covers x x ≡ true
address_itself address.Any = refl
address_itself (address.Test g a) =
    or_left _ ((not g && not g) && lies_inside (stretch_of a) (stretch_of a))
    (and_from (truths.same g g) (address_sets.same a a) (same_itself truths g) (same_itself address_sets a))

address_set_also : Stretched → (around : Around) (addr : Addr) (g : Bool) (wide : AddrSet) (t : Bool) (narrow : AddrSet) → set_covers g wide t narrow ≡ true → turned t (in_set around narrow addr) ≡ true → turned g (in_set around wide addr) ≡ true
address_set_also facts around addr g wide t narrow h k =
    elim (set_cases g wide t narrow h) [
      | inl e ↦ ap (λ (v : Bool). turned v (in_set around wide addr)) e.signs ∙ ap (λ (v : AddrSet). turned t (in_set around v addr)) e.sets ∙ k
      | inr w ↦
          ap (λ (v : Bool). turned v (in_set around wide addr)) w.first_positive
          ∙ inside_in_set facts around wide narrow addr w.inside
          (sym (ap (λ (v : Bool). turned v (in_set around narrow addr)) w.second_positive) ∙ k)
    ]

pub address_also : Stretched → (around : Around) (addr : Addr) (x y : AddrTest) → address_covers x y ≡ true → address_holds around y addr ≡ true → address_holds around x addr ≡ true
address_also facts around addr address.Any y h k = refl
address_also facts around addr (address.Test g a) address.Any h k = absurd (false≢true h)
address_also facts around addr (address.Test g a) (address.Test t b) h k = address_set_also facts around addr g a t b h k
