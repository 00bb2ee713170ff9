-- The rules of which a profile tells, as keys: a ruleset and a place.
use Rattle.std.specs.Prelude.{◌≡◌, ◌++◌, IsTrue, refl}
use Rattle.std.proofs.Common.{ap}
use Rattle.std.specs.Hash.{HashWrites, slice, u32, u8}
use Rattle.pf_base.specs.Equality.{Equality, lists, made_of, numbers, pairs}
use Rattle.pf_optim.specs.declared.key.Key.{Key}

abbrev pub keys : Equality Key
keys = made_of (λ key. (key.path, key.place)) (λ parts. record { path = parts.0; place = parts.1 }) (λ _. refl) (pairs (lists (lists numbers)) numbers)

-- what is hashed of one
abbrev pub key_input : Key → HashWrites
key_input key = slice (slice u8) key.path ++ u32 key.place

pub key_alike : (one other : Key) → IsTrue (keys.same one other) → key_input one ≡ key_input other
key_alike one other same = ap key_input ((keys.decides one other).0 same)
