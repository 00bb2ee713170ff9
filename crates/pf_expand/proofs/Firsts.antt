-- The first of several faults, asked one after the other.
use Rattle.std.proofs.Common.{◌≡◌, Option, Some, None, refl}
use Rattle.std.specs.Option.{option_or}

pub last_one : {A : Type 0} (a : Option A) → option_or a None ≡ a
last_one None = refl
last_one (Some x) = refl

two_before : {A : Type 0} (a b rest : Option A) → option_or (option_or a b) rest ≡ option_or a (option_or b rest)
two_before None b rest = refl
two_before (Some x) b rest = refl

three_before : {A : Type 0} (a b c rest : Option A) → option_or (option_or (option_or a b) c) rest ≡ option_or a (option_or b (option_or c rest))
three_before None b c rest = two_before b c rest
three_before (Some x) b c rest = refl

pub four_before : {A : Type 0} (a b c d rest : Option A) → option_or (option_or (option_or (option_or a b) c) d) rest ≡ option_or a (option_or b (option_or c (option_or d rest)))
four_before None b c d rest = three_before b c d rest
four_before (Some x) b c d rest = refl

pub five_before : {A : Type 0} (a b c d e rest : Option A) → option_or (option_or (option_or (option_or (option_or a b) c) d) e) rest ≡ option_or a (option_or b (option_or c (option_or d (option_or e rest))))
five_before None b c d e rest = four_before b c d e rest
five_before (Some x) b c d e rest = refl
