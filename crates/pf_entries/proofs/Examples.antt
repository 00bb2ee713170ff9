-- Rows of the definitions, computed.
use Rattle.std.proofs.Common.{◌≡◌, ℕ, Bool, true, false, List, [], ◌∷◌, ◌++◌, Option, Some, None, refl}
use Rattle.std.specs.Prelude.{codes}
use Rattle.pf_base.specs.Text.{lines_of, unfinished, whole_lines}
use Rattle.pf_base.specs.declared.fault.Place.{Place}
use Rattle.pf_addr.specs.PrefixOrder.{prefix_eq}
use Rattle.pf_addr.specs.declared.prefix.Prefix.{Prefix}
use Rattle.pf_entries.specs.FileWords.{PlacedBit, a_bad_byte, a_word, bits_of, unsigned, words_in}
use Rattle.pf_entries.specs.Tables.{conflict_in, distinct}
use Rattle.pf_entries.specs.declared.gathered.Placed.{Placed}

at_line : ℕ → Place
at_line line = record { file = 3; line = line }

-- two lines of a file, the first with a comment
file_of_two : bits_of (record { number = 3; text = codes "10/8 #a" ++ (10 ∷ codes " !x y") })
    ≡ record { bit = a_word (codes "10/8"); place = at_line 1 } ∷ record { bit = a_word (codes "!x"); place = at_line 2 } ∷ record { bit = a_word (codes "y"); place = at_line 2 } ∷ []
unfolding at_line lines_of whole_lines unfinished words_in
file_of_two = refl

-- a byte that may stand in comments alone
bad_in_line : bits_of (record { number = 3; text = 1 ∷ codes " x" })
    ≡ record { bit = a_bad_byte; place = at_line 1 } ∷ record { bit = a_word (1 ∷ []); place = at_line 1 } ∷ record { bit = a_word (codes "x"); place = at_line 1 } ∷ []
unfolding at_line lines_of whole_lines unfinished words_in
bad_in_line = refl

bad_in_comment : bits_of (record { number = 3; text = codes "#" ++ (1 ∷ []) }) ≡ []
unfolding lines_of whole_lines unfinished words_in
bad_in_comment = refl

-- a lone `!` is a word
lone_sign : unsigned (codes "!") ≡ record { negated = false; word = codes "!" }
lone_sign = refl

two_signs : unsigned (codes "!!x") ≡ record { negated = true; word = codes "!x" }
two_signs = refl

placed : Prefix → Bool → Place → Placed
placed prefix negated place = record { entry = record { prefix = prefix; negated = negated }; place = place }

-- a prefix with both signs: the second stands against the first
both_signs : (p : Prefix) (a b : Place) → prefix_eq p p ≡ true → conflict_in (placed p false a ∷ placed p true b ∷ []) ≡ Some b
unfolding placed
both_signs p a b same = rw same refl

-- a prefix that stands twice is one entry
once : (p : Prefix) (a b : Place) → prefix_eq p p ≡ true → distinct (placed p false a ∷ placed p false b ∷ []) ≡ record { prefix = p; negated = false } ∷ []
unfolding placed
once p a b same = rw same refl
