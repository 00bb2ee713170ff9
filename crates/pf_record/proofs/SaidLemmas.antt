-- What a key says, by how it is read.
use Rattle.std.proofs.Common.{◌≡◌, ℕ, Bool, true, false, List, Option, Some, None, Ok, IsTrue, IsSome, refl}
use Rattle.std.specs.Option.{is_some, ok_or, option_or}
use Rattle.pf_record.specs.declared.field.Field.{Field}
use Rattle.pf_record.specs.declared.field.PacketFault.{PacketFault}
use Rattle.pf_record.specs.Reading.{lacks, value_read}
use Rattle.pf_record.specs.Record.{Says}

found : {A : Type 0} (o : Option A) (fault : PacketFault) (x : A) → ok_or o fault ≡ Ok x → o ≡ Some x
found None fault x h = absurd cc
found (Some y) fault x h = cc

-- a key that is read says what it is read as
pub Says-value_read : {A : Type 0} (has : Bool) (read : List ℕ → Option A) (without : A) (field : Field) (value : Option (List ℕ)) (x : A) → value_read has read without field value ≡ Ok x → Says read without value x
Says-value_read has read without field None x h = cc
Says-value_read true read without field (Some text) x h = found (read text) _ x h
Says-value_read false read without field (Some text) x h = absurd cc

-- a key that is read is one of the protocol's
pub has-value_read : {A : Type 0} (has : Bool) (read : List ℕ → Option A) (without : A) (field : Field) (value : Option (List ℕ)) (x : A) → value_read has read without field value ≡ Ok x → IsSome value → IsTrue has
has-value_read true read without field value x h some = refl
has-value_read false read without field None x h some = absurd cc
has-value_read false read without field (Some text) x h some = absurd cc

-- a key that is read and isn't missing is given exactly where the protocol has it
pub given-value_read : {A : Type 0} (has : Bool) (read : List ℕ → Option A) (without : A) (field : Field) (value : Option (List ℕ)) (x : A) → value_read has read without field value ≡ Ok x → lacks has field value ≡ None → is_some value ≡ has
given-value_read true read without field None x h full = absurd cc
given-value_read false read without field None x h full = refl
given-value_read true read without field (Some text) x h full = refl
given-value_read false read without field (Some text) x h full = absurd cc

-- what a key says is what it is read as
pub value_read-Says : {A : Type 0} (has : Bool) (read : List ℕ → Option A) (without : A) (field : Field) (value : Option (List ℕ)) (x : A) → Says read without value x → (IsSome value → IsTrue has) → value_read has read without field value ≡ Ok x
value_read-Says has read without field None x said may = cc
value_read-Says true read without field (Some text) x said may = rw said refl
value_read-Says false read without field (Some text) x said may = absurd (let no = may refl in cc)

pub lacks-given : (has : Bool) (field : Field) (value : Option (List ℕ)) → is_some value ≡ has → lacks has field value ≡ None
lacks-given true field None h = absurd cc
lacks-given false field None h = refl
lacks-given true field (Some text) h = refl
lacks-given false field (Some text) h = refl

pub both_none : {A : Type 0} (a b : Option A) → option_or a b ≡ None → (a ≡ None) × (b ≡ None)
both_none None b h = (refl, h)
both_none (Some x) b h = absurd cc
