-- The load of a generated configuration is done.
use Rattle.std.proofs.Common.{◌≡◌, ℕ, ◌<◌, ◌≤◌, Bool, true, false, List, [], ◌∷◌, length, Option, Some, None, Result, Ok, Err, refl, ap, sym, subst, ◌∙◌, arith}
use Rattle.std.specs.Prelude.{codes}
use Rattle.std.specs.List.{filter, list_all}
use Rattle.pf_base.specs.Text.{words_of}
use Rattle.pf_base.specs.declared.kind.Level.{Level}
use Rattle.pf_base.specs.declared.kind.Level.TheVariants as levels
use Rattle.pf_engine.specs.LoadLines.{ComesBehind, FileComes, LoadDoes, Loading, PutsInPlace, filled_of, ready_by}
use Rattle.pf_engine.specs.Step.{LineDoes, step}
use Rattle.pf_engine.specs.Steps.{done, done_unless}
use Rattle.pf_genload.specs.Generated.{LoadsWhole, calls_no_ruleset, generated_disk, options_at, plan_with}
use Rattle.pf_engine.specs.TestLines.{asked}
use Rattle.pf_eval.specs.Answers.{answer_of}
use Rattle.pf_gen.specs.Texts.{records_of}
use Rattle.pf_host.specs.Facts.{HostFacts, no_facts}
use Rattle.pf_record.specs.declared.field.PacketFault.{PacketFault}
use Rattle.pf_rule.specs.declared.packet.Packet.{Packet}
use Rattle.pf_rule.specs.declared.rule.Rule.{Rule}
use Rattle.pf_rule.specs.declared.walk.Answer.{Answer}
use Rattle.pf_load.specs.Load.{Outcome}
use Rattle.pf_optim.specs.declared.rows.Row.{Row}
use Rattle.pf_reply.specs.declared.refusal.Refusal.{Refusal}
use Rattle.pf_reply.specs.declared.reply.Reply.TheVariants.{Loaded}
use Rattle.pf_runs.specs.Runs.{Stepped}
use Rattle.pf_script.specs.Command.{command_of, keyword_of}
use Rattle.pf_script.specs.Options.{flag_of, given_by, load_line_of}
use Rattle.pf_script.specs.Word.{level_of}
use Rattle.pf_script.specs.declared.command.Command.{Command}
use Rattle.pf_script.specs.declared.command.Command.TheVariants.{Load}
use Rattle.pf_script.specs.declared.command.LoadLine.{LoadLine}
use Rattle.pf_state.specs.Commits.{committed, loaded, ready_of}
use Rattle.pf_state.specs.Judging.{LoadJudged}
use Rattle.pf_state.specs.Machine.{empty_machine}
use Rattle.pf_state.specs.Rulesets.{count_rules}
use Rattle.pf_state.specs.declared.machine.Machine.{Machine}
use Rattle.pf_state.specs.declared.ready.Ready.{Ready}
use Rattle.pfctl.specs.Generating.{Counted, Generates, Summed, blocks, is_answered, load_line, passes, summary_line}
use Rattle.pfctl.specs.declared.generating.Summary.{Summary}
use Rattle.pfctl.proofs.Counting.{ReadsOneWay, same_reads}

abbrev pub AllLoad : Type 0
AllLoad = (number : ℕ) → LoadsWhole number

abbrev pub AllStand : Type 0
AllStand = (rules : List Rule) (level : Option Level) (refusal : Option Refusal) → 0 < length rules → length rules ≤ 131072 → list_all calls_no_ruleset rules ≡ true
    → LoadJudged empty_machine (ready_of [] (plan_with rules level)) refusal → refusal ≡ None

abbrev pub AllCounted : Type 0
AllCounted = (rules : List Rule) (level : Option Level) → 0 < length rules → count_rules (committed (ready_of [] (plan_with rules level)).parts empty_machine.rulesets) ≡ length rules

abbrev pub AllAlike : Type 0
AllAlike = (rules : List Rule) (a b : Option Level) (facts : HostFacts) (skip : List (List ℕ)) (packet : Packet) → 0 < length rules
    → answer_of (committed (ready_of [] (plan_with rules a)).parts empty_machine.rulesets) facts skip packet
    ≡ answer_of (committed (ready_of [] (plan_with rules b)).parts empty_machine.rulesets) facts skip packet

-- what the line says
abbrev line_at : Level → LoadLine
line_at level = record { level = Some level; path = []; profile = None; defines = []; file = codes "generated" }

line_says : (level : Level) → command_of (load_line level) ≡ Some (Load (line_at level))
unfolding command_of words_of keyword_of load_line_of flag_of given_by level_of
line_says levels.None = refl
line_says levels.Basic = refl
line_says levels.Profile = refl

-- the machine that has these rules alone
abbrev pub machine_with : List Rule → Level → Machine
machine_with rules level = loaded (ready_of [] (plan_with rules (Some level))) empty_machine

-- the load was done
pub record IsDone (rules : List Rule) (level : Level) (does : Stepped Machine) : Type 0 where
  pub done : does.refused ≡ false
  pub machine : does.machine ≡ machine_with rules level

module _ (loads : AllLoad) (stand : AllStand) (number : ℕ) (level : Level) where
  abbrev rules_of : List Rule
  rules_of = (loads number).rules

  puts_done : (does : Stepped Machine) → PutsInPlace empty_machine (ready_of [] (plan_with rules_of (Some level))) does → IsDone rules_of level does
  puts_done does puts =
      let count = (loads number).count in
      let none = stand rules_of (Some level) puts.refusal (omega arith) (omega arith) (loads number).calls puts.judged in
      let tells = Loaded (filled_of (ready_of [] (plan_with rules_of (Some level)))) in
      let is : does ≡ done (machine_with rules_of level) tells =
      puts.is ∙ ap (λ (refusal : Option Refusal). done_unless refusal empty_machine (machine_with rules_of level) tells) none in
      record { done = ap (λ (s : Stepped Machine). s.refused) is; machine = ap (λ (s : Stepped Machine). s.machine) is }

  file_done : (answer : Result Ready Refusal) (does : Stepped Machine) → FileComes (generated_disk number) no_facts (options_at (Some level)) (codes "generated") [] answer → Loading empty_machine answer does → IsDone rules_of level does
  file_done answer does comes loading =
      let plan = plan_with rules_of (Some level) in
      let same : comes.outcome ≡ Ok plan = (loads number).only (Some level) comes.outcome comes.loads in
      let is : ready_by [] (Ok plan) ≡ Some answer = subst (λ (outcome : Outcome). ready_by [] outcome ≡ Some answer) same comes.is in
      let ready : answer ≡ Ok (ready_of [] plan) = cc in
      puts_done does (subst (λ (one : Result Ready Refusal). Loading empty_machine one does) ready loading)

  line_done : (does : Stepped Machine) → LoadDoes (generated_disk number) empty_machine (line_at level) does → IsDone rules_of level does
  line_done does h =
      file_done h.answer does
      (subst (λ (rows : Result (List Row) Refusal). ComesBehind (generated_disk number) no_facts (line_at level) rows h.answer) h.comes.reads h.comes.comes)
      h.loading

  pub load_is_done : (does : Stepped Machine) → step (generated_disk number) empty_machine (load_line level) does → IsDone rules_of level does
  unfolding step
  load_is_done does steps = line_done does (subst (λ (command : Option Command). LineDoes (generated_disk number) empty_machine command does) (line_says level) steps)

pub rules_are_counted : (loads : AllLoad) (stand : AllStand) (counted : AllCounted) (number : ℕ) (level : Level) (does : Stepped Machine) → step (generated_disk number) empty_machine (load_line level) does → count_rules does.machine.rulesets ≡ 2001
rules_are_counted loads stand counted number level does steps =
    let count = (loads number).count in
    ap (λ (machine : Machine). count_rules machine.rulesets) (load_is_done loads stand number level does steps).machine
    ∙ counted (loads number).rules (Some level) (omega arith) ∙ count

-- two summaries of a number are one, at whatever levels
asked_alike : (alike : AllAlike) (rules : List Rule) (a b : Level) → 0 < length rules → (packet : Packet) → asked (machine_with rules a) packet ≡ asked (machine_with rules b) packet
asked_alike alike rules a b some packet = alike rules (Some a) (Some b) no_facts [] packet some

answered_alike : (alike : AllAlike) (which : Answer → Bool) (rules : List Rule) (a b : Level) → 0 < length rules → (read : Result Packet PacketFault) → is_answered which (machine_with rules a) read ≡ is_answered which (machine_with rules b) read
answered_alike alike which rules a b some (Ok packet) = ap which (asked_alike alike rules a b some packet)
answered_alike alike which rules a b some (Err fault) = refl

filtered_alike : (one other : Result Packet PacketFault → Bool) → ((read : Result Packet PacketFault) → one read ≡ other read) → (reads : List (Result Packet PacketFault)) → filter one reads ≡ filter other reads
filtered_alike one other same [] = refl
filtered_alike one other same (read ∷ reads) = rw (same read, filtered_alike one other same reads) refl

counted_alike : ReadsOneWay → (alike : AllAlike) (which : Answer → Bool) (rules : List Rule) (a b : Level) (texts : List (List ℕ)) (m n : ℕ) → 0 < length rules
    → Counted which (machine_with rules a) texts m → Counted which (machine_with rules b) texts n → m ≡ n
counted_alike one alike which rules a b texts m n some h k =
    h.is
    ∙ ap length (filtered_alike (is_answered which (machine_with rules a)) (is_answered which (machine_with rules b)) (answered_alike alike which rules a b some) h.reads)
    ∙ ap (λ (reads : List (Result Packet PacketFault)). length (filter (is_answered which (machine_with rules b)) reads)) (same_reads one texts h.reads k.reads h.are k.are)
    ∙ sym k.is

pub summed_alike : AllLoad → AllStand → AllCounted → AllAlike → ReadsOneWay → (number : ℕ) (a b : Level) (one other : Summary) → Summed number a one → Summed number b other → one ≡ other
summed_alike loads stand counted alike reads number a b one other h k =
    let count = (loads number).count in
    let rules = (loads number).rules in
    let first = (load_is_done loads stand number a h.loaded h.loads).machine in
    let second = (load_is_done loads stand number b k.loaded k.loads).machine in
    let same_rules : one.rules ≡ other.rules =
    h.rules ∙ rules_are_counted loads stand counted number a h.loaded h.loads ∙ sym (k.rules ∙ rules_are_counted loads stand counted number b k.loaded k.loads) in
    let same_pass : one.pass ≡ other.pass = counted_alike reads alike passes rules a b (records_of number) one.pass other.pass (omega arith)
    (subst (λ (machine : Machine). Counted passes machine (records_of number) one.pass) first h.passed)
    (subst (λ (machine : Machine). Counted passes machine (records_of number) other.pass) second k.passed) in
    let same_block : one.block ≡ other.block = counted_alike reads alike blocks rules a b (records_of number) one.block other.block (omega arith)
    (subst (λ (machine : Machine). Counted blocks machine (records_of number) one.block) first h.blocked)
    (subst (λ (machine : Machine). Counted blocks machine (records_of number) other.block) second k.blocked) in
    λ i. record { rules = same_rules i; pass = same_pass i; block = same_block i }

-- so is what is written of it
abbrev pub CountsAlike : Type 0
CountsAlike = (number : ℕ) (a b : Level) (one other : Summary) → Summed number a one → Summed number b other → one ≡ other

pub one_reply : CountsAlike → (number : ℕ) (a b : List (List ℕ)) → Generates number a → Generates number b → a ≡ b
one_reply alike number a b h k =
    h.is ∙ ap (λ (summary : Summary). summary_line number summary ∷ []) (alike number levels.Basic levels.Basic h.summary k.summary h.sums k.sums) ∙ sym k.is
