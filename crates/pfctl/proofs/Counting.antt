-- Records that are counted, and what a generated run comes to.
use Rattle.std.proofs.Common.{◌≡◌, ℕ, codes, decimal, ◌+◌, ◌<◌, ◌^◌, Bool, true, false, cond, List, [], ◌∷◌, ◌++◌, length, Some, Option, Result, refl, sym, ap, ◌∙◌, subst, suc, arith, append-nil, add_assoc, zero-add, add-zero}
use Rattle.std.specs.List.{filter}
use Rattle.std.proofs.lemmas.List.FromFn.{length-map-range_with_len}
use Rattle.std.proofs.lemmas.List.{nil_from_length}
use Rattle.pf_base.specs.declared.kind.Level.{Level}
use Rattle.pf_base.specs.declared.kind.Level.TheVariants as levels
use Rattle.pf_gen.specs.Draws.{after}
use Rattle.pf_gen.specs.Texts.{config_of, record_at, records_from, records_of}
use Rattle.pf_genload.specs.Generated.{generated_disk}
use Rattle.pf_record.specs.Record.{IsReadAs}
use Rattle.pf_record.specs.declared.field.PacketFault.{PacketFault}
use Rattle.pf_rule.specs.declared.packet.Packet.{Packet}
use Rattle.pf_rule.specs.declared.walk.Answer.{Answer}
use Rattle.pf_runs.specs.Runs.{Answers, Stepped, reply_text}
use Rattle.pf_source.specs.Disk.{Disk, without}
use Rattle.pf_source.specs.Told.{FilesTold, Held, Told, file_of}
use Rattle.pf_engine.specs.Answering.{Adds}
use Rattle.pf_engine.specs.Step.{step}
use Rattle.pf_state.specs.Machine.{empty_machine}
use Rattle.pf_state.specs.Rulesets.{count_rules}
use Rattle.pf_state.specs.declared.machine.Machine.{Machine}
use Rattle.pfctl.specs.Generating.{AreReadAs, Counted, Generates, IsJudged, Summed, blocks, is_answered, load_line, one_if, passes, summary_line}
use Rattle.pfctl.specs.declared.generating.Summary.{Summary}

pub counted_none : (which : Answer → Bool) (machine : Machine) → Counted which machine [] 0
counted_none which machine = record { reads = []; are = tt; is = refl }

one_more : (n : ℕ) → suc n ≡ 1 + n
one_more n = omega arith

-- a list with one item more that is kept or not
pub kept_one : {A : Type 0} (p : A → Bool) (x : A) (xs : List A) → length (filter p (x ∷ xs)) ≡ one_if (p x) + length (filter p xs)
kept_one p x xs =
    elim (p x) as (λ b. length (cond b (x ∷ filter p xs) (filter p xs)) ≡ one_if b + length (filter p xs)) [
      | true ↦ one_more (length (filter p xs))
      | false ↦ sym (zero-add (length (filter p xs)))
    ]

pub counted_more : (which : Answer → Bool) (machine : Machine) (text : List ℕ) (texts : List (List ℕ)) (is : Bool) (count : ℕ) → IsJudged which machine text is → Counted which machine texts count → Counted which machine (text ∷ texts) (one_if is + count)
counted_more which machine text texts is count judged counted = record {
  reads = judged.read ∷ counted.reads;
  are = (judged.reads, counted.are);
  is = ap (λ b. one_if b + count) judged.judged ∙ (ap (λ n. one_if (is_answered which machine judged.read) + n) counted.is ∙ sym (kept_one (is_answered which machine) judged.read counted.reads));
}

-- Over the same records the same is counted.

abbrev pub ReadsOneWay : Type 0
ReadsOneWay = (text : List ℕ) (a b : Result Packet PacketFault) → IsReadAs text a → IsReadAs text b → a ≡ b

pub same_reads : ReadsOneWay → (texts : List (List ℕ)) (a b : List (Result Packet PacketFault)) → AreReadAs texts a → AreReadAs texts b → a ≡ b
same_reads one [] [] [] h k = refl
same_reads one [] [] (y ∷ b) h k = absurd k
same_reads one [] (x ∷ a) b h k = absurd h
same_reads one (text ∷ texts) [] b h k = absurd h
same_reads one (text ∷ texts) (x ∷ a) [] h k = absurd k
same_reads one (text ∷ texts) (x ∷ a) (y ∷ b) h k =
    let first : x ≡ y = one text x y h.0 k.0 in
    let rest : a ≡ b = same_reads one texts a b h.1 k.1 in
    ap (λ r. r ∷ a) first ∙ ap (λ rs. y ∷ rs) rest

-- over steady files a line was executed without an outage
pub steady_step : (disk : Disk) (line : List ℕ) (before after : Machine) (files files' : FilesTold) (reply : List ℕ) (refused : Bool) → files.steady ≡ true → (h : Answers step disk line before files after files' reply refused) → step disk before line h.does
steady_step disk line before after files files' reply refused steady h =
    subst (λ (outage : Option (List ℕ)). step (without outage disk) before line h.does) (h.sure steady) h.steps

-- the files of a generated run
abbrev pub generated_files : List ℕ → FilesTold
generated_files config = record { held = Some (record { files = record { name = codes "generated"; bytes = config } ∷ []; sure = true }); steady = true; faults = 0; failed = Some [] }

-- the configuration was loaded at a level
pub record Loaded (number : ℕ) (level : Level) (after : Machine) (bytes : List ℕ) (refused : Bool) : Type 0 where
  pub does : Stepped Machine
  pub steps : step (generated_disk number) empty_machine (load_line level) does
  pub machine_is : after ≡ does.machine
  pub bytes_are : bytes ≡ reply_text does.reply
  pub refused_is : refused ≡ does.refused

pub loaded_by : (number : ℕ) (level : Level) (files files' : FilesTold) (before after : Machine) (old bytes : List ℕ) (refused : Bool) → files ≡ generated_files (config_of number) → before ≡ empty_machine → old ≡ [] → Told files.held (λ held. Adds old bytes (λ reply. Answers step (file_of held) (load_line level) before files after files' reply refused)) → Loaded number level after bytes refused
loaded_by number level files files' before after old bytes refused are empty none told =
    let held : Held = record { files = record { name = codes "generated"; bytes = config_of number } ∷ []; sure = true } in
    let added = told.at held (ap (λ (f : FilesTold). f.held) are) in
    let answers : Answers step (file_of held) (load_line level) empty_machine files after files' added.bytes refused =
    subst (λ (machine : Machine). Answers step (file_of held) (load_line level) machine files after files' added.bytes refused) empty added.is in
    record {
      does = answers.does;
      steps = steady_step (file_of held) (load_line level) empty_machine after files files' added.bytes refused (ap (λ (f : FilesTold). f.steady) are) answers;
      machine_is = answers.machine;
      bytes_are = added.added ∙ (ap (λ (text : List ℕ). text ++ added.bytes) none ∙ answers.replies);
      refused_is = answers.refuses;
    }

abbrev pub LoadsDone : Type 0
LoadsDone = (number : ℕ) (level : Level) (does : Stepped Machine) → step (generated_disk number) empty_machine (load_line level) does → does.refused ≡ false

abbrev pub RulesCounted : Type 0
RulesCounted = (number : ℕ) (level : Level) (does : Stepped Machine) → step (generated_disk number) empty_machine (load_line level) does → count_rules does.machine.rulesets ≡ 2001

pub summed_by : LoadsDone → RulesCounted → (number : ℕ) (level : Level) (after : Machine) (bytes : List ℕ) (refused : Bool) (pass block : ℕ) → Loaded number level after bytes refused
    → Counted passes after (records_of number) pass → Counted blocks after (records_of number) block → Summed number level (record { rules = 2001; pass = pass; block = block })
summed_by done rules number level after bytes refused pass block h passed blocked = record {
  loaded = h.does;
  loads = h.steps;
  done = done number level h.does h.steps;
  rules = sym (rules number level h.does h.steps);
  passed = subst (λ (machine : Machine). Counted passes machine (records_of number) pass) h.machine_is passed;
  blocked = subst (λ (machine : Machine). Counted blocks machine (records_of number) block) h.machine_is blocked;
}

many_records : (start many : ℕ) → length (records_from start many) ≡ many
unfolding records_from
many_records start many = length-map-range_with_len (record_at start) 0 many

pub few_records : (number : ℕ) → length (records_of number) < 2 ^ 32
few_records number = let many = many_records (after number 14000) 5000 in omega arith

-- pieces that were appended to a text, one after another
joined : (o a b c d e f g h k : List ℕ) → ((((((((o ++ a) ++ b) ++ c) ++ d) ++ e) ++ f) ++ g) ++ h) ++ k ≡ o ++ ((((((((a ++ b) ++ c) ++ d) ++ e) ++ f) ++ g) ++ h) ++ k)
joined [] a b c d e f g h k = refl
joined (x ∷ o) a b c d e f g h k = ap (λ rest. x ∷ rest) (joined o a b c d e f g h k)

-- the summary, piece by piece
pub summary_joined : (o : List ℕ) (number : ℕ) (summary : Summary)
    → ((((((((o ++ codes "gen ") ++ decimal number) ++ codes " rules=") ++ decimal summary.rules) ++ codes " pass=") ++ decimal summary.pass) ++ codes " block=") ++ decimal summary.block) ++ 10 ∷ []
    ≡ o ++ reply_text (summary_line number summary ∷ [])
summary_joined o number summary =
    joined o (codes "gen ") (decimal number) (codes " rules=") (decimal summary.rules) (codes " pass=") (decimal summary.pass) (codes " block=") (decimal summary.block) (10 ∷ [])
    ∙ ap (λ text. o ++ text) (sym (append-nil (summary_line number summary ++ 10 ∷ [])))

-- what a generated run comes to, by the bytes of its reply
pub record GeneratesBytes (number : ℕ) (bytes : List ℕ) : Type 0 where
  pub reply : List (List ℕ)
  pub generates : Generates number reply
  pub are : bytes ≡ reply_text reply

-- the line of a summary is the reply
pub bytes_of : (number : ℕ) (summary : Summary) (old bytes : List ℕ) → Summed number levels.Basic summary → old ≡ [] → bytes ≡ old ++ reply_text (summary_line number summary ∷ []) → GeneratesBytes number bytes
bytes_of number summary old bytes sums none are = record {
  reply = summary_line number summary ∷ [];
  generates = record { summary = summary; sums = sums; is = refl };
  are = are ∙ ap (λ (text : List ℕ). text ++ reply_text (summary_line number summary ∷ [])) none;
}

-- no record is left
pub counted_to_end : (which : Answer → Bool) (machine : Machine) (records left : List (List ℕ)) (count : ℕ) → length left ≡ 0 → ((n : ℕ) → Counted which machine left n → Counted which machine records (count + n)) → Counted which machine records count
counted_to_end which machine records left count none counts =
    let empty : left ≡ [] = nil_from_length left none in
    subst (λ n. Counted which machine records n) (add-zero count) (counts 0 (subst (λ (texts : List (List ℕ)). Counted which machine texts 0) (sym empty) (counted_none which machine)))

-- one record more was counted
pub counted_on : (which : Answer → Bool) (machine : Machine) (records left behind : List (List ℕ)) (text : List ℕ) (is : Bool) (count one : ℕ) → left ≡ text ∷ behind → IsJudged which machine text is → one ≡ one_if is → ((n : ℕ) → Counted which machine left n → Counted which machine records (count + n)) → (n : ℕ) → Counted which machine behind n → Counted which machine records ((count + one) + n)
counted_on which machine records left behind text is count one cut judged one_is counts n h =
    let more : Counted which machine left (one_if is + n) = subst (λ (texts : List (List ℕ)). Counted which machine texts (one_if is + n)) (sym cut) (counted_more which machine text behind is n judged h) in
    let same : count + (one_if is + n) ≡ (count + one) + n = ap (λ m. count + (m + n)) (sym one_is) ∙ sym (add_assoc count one n) in
    subst (λ m. Counted which machine records m) same (counts (one_if is + n) more)
