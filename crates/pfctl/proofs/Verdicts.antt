-- Each record of a generated run passes or is blocked.
use Rattle.std.proofs.Common.{◌≡◌, ℕ, suc, ◌+◌, Bool, true, false, List, [], ◌∷◌, length, Result, Ok, refl, ap, subst, ◌∙◌, arith}
use Rattle.std.specs.Prelude.{map, not, ◌&&◌}
use Rattle.std.specs.List.{filter}
use Rattle.pf_base.specs.declared.kind.Level.{Level}
use Rattle.pf_engine.specs.TestLines.{asked}
use Rattle.pf_eval.specs.Answers.{answer_of}
use Rattle.pf_eval.specs.Rulesets.{Rulesets}
use Rattle.pf_gen.specs.Texts.{records_of}
use Rattle.pf_genload.specs.Records.{ArePackets, AreRecordsOf}
use Rattle.pf_host.specs.Facts.{HostFacts}
use Rattle.pf_record.specs.declared.field.PacketFault.{PacketFault}
use Rattle.pf_rule.specs.Effect.{is_deciding}
use Rattle.pf_rule.specs.declared.effect.Action.{Action}
use Rattle.pf_rule.specs.declared.effect.Action.TheVariants as actions
use Rattle.pf_rule.specs.declared.packet.Packet.{Packet}
use Rattle.pf_rule.specs.declared.rule.Rule.{Rule}
use Rattle.pf_rule.specs.declared.walk.Answer.{Answer}
use Rattle.pf_state.specs.declared.machine.Machine.{Machine}
use Rattle.pfctl.specs.Generating.{AreReadAs, Counted, Summed, blocks, is_answered, is_block, is_pass, one_if, passes}
use Rattle.pfctl.specs.declared.generating.Summary.{Summary}
use Rattle.pfctl.proofs.Counting.{ReadsOneWay, kept_one, same_reads}
use Rattle.pfctl.proofs.Generated.{AllLoad, AllStand, load_is_done, machine_with}

abbrev pub AllPackets : Type 0
AllPackets = (number : ℕ) → ArePackets (records_of number) 5000

abbrev pub AllDecided : Type 0
AllDecided = (rulesets : Rulesets) (facts : HostFacts) (skip : List (List ℕ)) (packet : Packet) → is_deciding (answer_of rulesets facts skip packet).decision.action ≡ true

abbrev pub NoneSkipped : Type 0
NoneSkipped = (rulesets : Rulesets) (facts : HostFacts) (packet : Packet) → (answer_of rulesets facts [] packet).skip ≡ false

-- ---- one packet

-- an answer that decides, to a packet that isn't skipped, passes or blocks, and not both
one_verdict : (skip : Bool) (action : Action) → skip ≡ false → is_deciding action ≡ true → one_if (not skip && is_pass action) + one_if (not skip && is_block action) ≡ 1
one_verdict true action none decides = absurd (cc)
one_verdict false actions.Pass none decides = refl
one_verdict false (actions.Block kind) none decides = refl
one_verdict false actions.Match none decides = absurd (cc)
one_verdict false (actions.Anchor call) none decides = absurd (cc)

-- so does the machine that has these rules alone
packet_verdict : AllDecided → NoneSkipped → (rules : List Rule) (level : Level) (packet : Packet)
    → one_if (passes (asked (machine_with rules level) packet)) + one_if (blocks (asked (machine_with rules level) packet)) ≡ 1
packet_verdict decided unskipped rules level packet =
    let machine = machine_with rules level in
    let answer : Answer = asked machine packet in
    one_verdict answer.skip answer.decision.action (unskipped machine.rulesets machine.facts packet) (decided machine.rulesets machine.facts machine.whole.skip packet)

-- ---- records

abbrev read_of : Packet → Result Packet PacketFault
read_of packet = Ok packet

are_read : (texts : List (List ℕ)) (packets : List Packet) → AreRecordsOf texts packets → AreReadAs texts (map read_of packets)
are_read [] [] are = tt
are_read [] (packet ∷ packets) are = absurd are
are_read (text ∷ texts) [] are = absurd are
are_read (text ∷ texts) (packet ∷ packets) are = (are.0, are_read texts packets are.1)

-- what is counted of the records of packets
counted_of : ReadsOneWay → (which : Answer → Bool) (machine : Machine) (texts : List (List ℕ)) (packets : List Packet) (n : ℕ) → AreRecordsOf texts packets
    → Counted which machine texts n → n ≡ length (filter (is_answered which machine) (map read_of packets))
counted_of one which machine texts packets n are counted =
    counted.is
    ∙ ap (λ (reads : List (Result Packet PacketFault)). length (filter (is_answered which machine) reads))
    (same_reads one texts counted.reads (map read_of packets) counted.are (are_read texts packets are))

one_more : (a b p q m n many : ℕ) → a ≡ p + m → b ≡ q + n → p + q ≡ 1 → m + n ≡ many → a + b ≡ suc many
one_more a b p q m n many first second here rest = omega arith

all_answered : (machine : Machine) → ((packet : Packet) → one_if (passes (asked machine packet)) + one_if (blocks (asked machine packet)) ≡ 1) → (packets : List Packet)
    → length (filter (is_answered passes machine) (map read_of packets)) + length (filter (is_answered blocks machine) (map read_of packets)) ≡ length packets
all_answered machine each [] = refl
all_answered machine each (packet ∷ packets) =
    let reads = map read_of packets in
    one_more
    (length (filter (is_answered passes machine) (read_of packet ∷ reads))) (length (filter (is_answered blocks machine) (read_of packet ∷ reads)))
    (one_if (passes (asked machine packet))) (one_if (blocks (asked machine packet)))
    (length (filter (is_answered passes machine) reads)) (length (filter (is_answered blocks machine) reads)) (length packets)
    (kept_one (is_answered passes machine) (read_of packet) reads) (kept_one (is_answered blocks machine) (read_of packet) reads)
    (each packet) (all_answered machine each packets)

-- ---- a run

together : (pass block passed blocked many : ℕ) → pass ≡ passed → block ≡ blocked → passed + blocked ≡ many → many ≡ 5000 → pass + block ≡ 5000
together pass block passed blocked many one other both all = omega arith

pub summed_together : AllLoad → AllStand → AllPackets → AllDecided → NoneSkipped → ReadsOneWay → (number : ℕ) (level : Level) (summary : Summary) → Summed number level summary → summary.pass + summary.block ≡ 5000
summed_together loads stand packets decided unskipped one number level summary h =
    let rules = (loads number).rules in
    let machine = machine_with rules level in
    let is : h.loaded.machine ≡ machine = (load_is_done loads stand number level h.loaded h.loads).machine in
    let all = packets number in
    together summary.pass summary.block
    (length (filter (is_answered passes machine) (map read_of all.packets))) (length (filter (is_answered blocks machine) (map read_of all.packets))) (length all.packets)
    (counted_of one passes machine (records_of number) all.packets summary.pass all.are (subst (λ (m : Machine). Counted passes m (records_of number) summary.pass) is h.passed))
    (counted_of one blocks machine (records_of number) all.packets summary.block all.are (subst (λ (m : Machine). Counted blocks m (records_of number) summary.block) is h.blocked))
    (all_answered machine (packet_verdict decided unskipped rules level) all.packets)
    all.count
