-- The records of a generated run are packets (pfctl(8), -g).
use Rattle.std.specs.Prelude.{◌≡◌, ℕ, List, [], ◌∷◌, length, Ok}
use Rattle.pf_record.specs.Record.{IsReadAs}
use Rattle.pf_rule.specs.declared.packet.Packet.{Packet}

-- the texts are the records of these packets, in their order
abbrev pub AreRecordsOf : List (List ℕ) → List Packet → Type 0
AreRecordsOf [] [] = Unit {0}
AreRecordsOf (text ∷ texts) (packet ∷ packets) = IsReadAs text (Ok packet) × AreRecordsOf texts packets
AreRecordsOf texts packets = ⊥

-- So many texts, each of which is the record of a packet.
pub record ArePackets (texts : List (List ℕ)) (many : ℕ) : Type 0 where
  pub packets : List Packet
  pub count : length packets ≡ many
  pub are : AreRecordsOf texts packets
