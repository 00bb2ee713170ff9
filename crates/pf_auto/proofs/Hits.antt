-- A rule that stands for a group matches what the rules of its group match together.
use Rattle.std.proofs.Common.{◌≡◌, ℕ, ◌+◌, Bool, true, false, ◌&&◌, ◌||◌, cond, is_some, List, [], ◌∷◌, ◌++◌, refl, sym, ap, ◌∙◌}
use Rattle.std.proofs.lemmas.Bool.{false≢true}
use Rattle.std.proofs.lemmas.List.Elements.{All-head, All-tail}
use Rattle.std.specs.List.{All, cons_option, list_any}
use Rattle.std.specs.Option.{option_map}
use Rattle.pf_addr.specs.Prefix.{contains}
use Rattle.pf_addr.specs.declared.addr.Addr.{Addr}
use Rattle.pf_auto.proofs.Leading.{has_mate, is_many, left_passes}
use Rattle.pf_auto.proofs.Mates.{mates_are, mates_at}
use Rattle.pf_auto.proofs.Tables.{table_member}
use Rattle.pf_auto.specs.Ends.{beside, prefix_of, test_at}
use Rattle.pf_auto.specs.Merged.{are_mates, entries_at, entry_of, group_of, group_table, merged_behind, merged_rule, with_group, with_item}
use Rattle.pf_auto.specs.declared.merging.AutoTable.{AutoTable}
use Rattle.pf_auto.specs.declared.place.End.{End}
use Rattle.pf_auto.specs.declared.place.End.TheVariants.{Source, Target}
use Rattle.pf_rule.specs.Around.{Around}
use Rattle.pf_rule.specs.Criteria.{address_holds, direction_holds, family_holds, interface_holds, proto_holds, source_holds, source_port_holds, target_holds, target_port_holds}
use Rattle.pf_rule.specs.Hit.{all_hold, hits, hits_at, other_tests}
use Rattle.pf_rule.specs.declared.criteria.AddrSet.TheVariants.{Prefix, Range, Table, Dynamic, Auto}
use Rattle.pf_rule.specs.declared.criteria.AddrTest.{AddrTest}
use Rattle.pf_rule.specs.declared.criteria.AddrTest.TheVariants.{Any, Test}
use Rattle.pf_rule.specs.declared.packet.Packet.{Packet}
use Rattle.pf_rule.specs.declared.rule.Rule.{Rule}
use Rattle.pf_rule.specs.declared.walk.Walk.{Walk}
use Rattle.pf_table.specs.Table.{member}
use Rattle.pf_table.specs.declared.entry.Entry.{Entry}

and_true : (b : Bool) → (b && true) ≡ b
and_true true = refl
and_true false = refl

and_false : (b : Bool) → (b && false) ≡ false
and_false true = refl
and_false false = refl

-- one of the tests taken out of those that hold together
fifth : (a b c d s r o : Bool) → ((a && (b && (c && (d && (s && r))))) && o) ≡ (((a && (b && (c && (d && r)))) && o) && s)
fifth false b c d s r o = refl
fifth true false c d s r o = refl
fifth true true false d s r o = refl
fifth true true true false s r o = refl
fifth true true true true true r o = sym (and_true (r && o))
fifth true true true true false r o = sym (and_false (r && o))

seventh : (a b c d e f s r o : Bool) → ((a && (b && (c && (d && (e && (f && (s && r))))))) && o) ≡ (((a && (b && (c && (d && (e && (f && r)))))) && o) && s)
seventh false b c d e f s r o = refl
seventh true false c d e f s r o = refl
seventh true true false d e f s r o = refl
seventh true true true false e f s r o = refl
seventh true true true true false f s r o = refl
seventh true true true true true false s r o = refl
seventh true true true true true true true r o = sym (and_true (r && o))
seventh true true true true true true false r o = sym (and_false (r && o))

-- the packet's address at this end
abbrev pub addr_at : End → Packet → Addr
addr_at Source packet = packet.source
addr_at Target packet = packet.target

-- a rule hits where what it is beside the test there hits, and that test holds
pub hit_split : (end : End) (around : Around) (rule : Rule) (walk : Walk) → hits_at around rule walk ≡ (hits_at around (beside end rule) walk && address_holds around (test_at end rule) (addr_at end walk.packet))
unfolding hits
hit_split Source around rule walk =
    let c = rule.criteria in
    let p = walk.packet in
    fifth (interface_holds around c p) (direction_holds c p) (family_holds c p) (proto_holds c p) (address_holds around c.source p.source)
    (source_port_holds c p && (target_holds around c p && (target_port_holds c p && true))) (all_hold (other_tests c p walk.tag))
hit_split Target around rule walk =
    let c = rule.criteria in
    let p = walk.packet in
    seventh (interface_holds around c p) (direction_holds c p) (family_holds c p) (proto_holds c p) (source_holds around c p) (source_port_holds c p)
    (address_holds around c.target p.target) (target_port_holds c p && true) (all_hold (other_tests c p walk.tag))

lead_beside : (end : End) (number : ℕ) (rule : Rule) → beside end (merged_rule end number rule) ≡ beside end rule
lead_beside Source number rule = refl
lead_beside Target number rule = refl

lead_test : (end : End) (number : ℕ) (rule : Rule) → test_at end (merged_rule end number rule) ≡ Test false (Auto number)
lead_test Source number rule = refl
lead_test Target number rule = refl

both_or : (h c r : Bool) → ((h && c) || (h && r)) ≡ (h && (c || r))
both_or true c r = refl
both_or false c r = refl

-- one more member of a group
one_more : (h : Bool) (around : Around) (a : Addr) (test : AddrTest) (es : List Entry) → is_some (prefix_of test) ≡ true → ((h && address_holds around test a) || (h && list_any (λ e. contains e.prefix a) es)) ≡ (h && list_any (λ e. contains e.prefix a) (cons_option (option_map entry_of (prefix_of test)) es))
one_more h around a Any es k = absurd (false≢true k)
one_more h around a (Test true what) es k = absurd (false≢true k)
one_more h around a (Test false (Prefix prefix)) es k = both_or h (contains prefix a) (list_any (λ e. contains e.prefix a) es)
one_more h around a (Test false (Range range)) es k = absurd (false≢true k)
one_more h around a (Test false (Table name)) es k = absurd (false≢true k)
one_more h around a (Test false (Dynamic what)) es k = absurd (false≢true k)
one_more h around a (Test false (Auto number)) es k = absurd (false≢true k)

-- the members of a group match together where what they are beside their prefixes hits, and one of these contains the address
group_hits : (end : End) (around : Around) (walk : Walk) (rule : Rule) (xs : List (Rule × ℕ)) → list_any (λ item. hits_at around item.0 walk) (group_of end xs rule) ≡ (hits_at around (beside end rule) walk && list_any (λ e. contains e.prefix (addr_at end walk.packet)) (entries_at end (group_of end xs rule)))
group_hits end around walk rule [] = sym (and_false (hits_at around (beside end rule) walk))
group_hits end around walk rule (x ∷ xs) =
    let rest = group_hits end around walk rule xs in
    let a = addr_at end walk.packet in
    let h = hits_at around (beside end rule) walk in
    elim (are_mates end x.0 rule) as (λ b. are_mates end x.0 rule ≡ b → list_any (λ item. hits_at around item.0 walk) (cond b (x ∷ group_of end xs rule) (group_of end xs rule)) ≡ (h && list_any (λ e. contains e.prefix a) (entries_at end (cond b (x ∷ group_of end xs rule) (group_of end xs rule))))) [
      | true ↦ λ e.
          let m = mates_are end x.0 rule e in
          ap (λ b. b || list_any (λ item. hits_at around item.0 walk) (group_of end xs rule)) (hit_split end around x.0 walk)
          ∙ ap (λ (r : Rule). (hits_at around r walk && address_holds around (test_at end x.0) a) || list_any (λ item. hits_at around item.0 walk) (group_of end xs rule)) m.alike
          ∙ ap (λ b. (h && address_holds around (test_at end x.0) a) || b) rest
          ∙ one_more h around a (test_at end x.0) (entries_at end (group_of end xs rule)) m.first
      | false ↦ λ e. rest
    ] refl

pub lead_hits : (end : End) (around : Around) (walk : Walk) (all : List (Rule × ℕ)) (number : ℕ) (rule : Rule) → ((a : Addr) → around.member (Auto number) a ≡ member (group_table end (group_of end all rule)) a) → hits_at around (merged_rule end number rule) walk ≡ list_any (λ item. hits_at around item.0 walk) (group_of end all rule)
lead_hits end around walk all number rule stands =
    let a = addr_at end walk.packet in
    hit_split end around (merged_rule end number rule) walk
    ∙ ap (λ (r : Rule). hits_at around r walk && address_holds around (test_at end (merged_rule end number rule)) a) (lead_beside end number rule)
    ∙ ap (λ (t : AddrTest). hits_at around (beside end rule) walk && address_holds around t a) (lead_test end number rule)
    ∙ ap (λ b. hits_at around (beside end rule) walk && b) (stands a ∙ table_member end (group_of end all rule) a)
    ∙ sym (group_hits end around walk rule all)

abbrev pub Stands : Around → AutoTable → Type 0
Stands around table = (a : Addr) → around.member (Auto table.number) a ≡ member table.entries a

-- what becomes of the items matches where what is left of them passes
pub behind_hits : (end : End) (around : Around) (walk : Walk) (all : List (Rule × ℕ)) (next : ℕ) (front items : List (Rule × ℕ)) → All (Stands around) (merged_behind end all next front items).tables → list_any (λ item. hits_at around item.0 walk) (merged_behind end all next front items).items ≡ left_passes (mates_at end) (λ item. hits_at around item.0 walk) all front items
behind_hits end around walk all next front [] stands = refl
behind_hits end around walk all next front (x ∷ xs) stands0 =
    let more = front ++ x ∷ [] in
    let hit : Rule × ℕ → Bool = λ item. hits_at around item.0 walk in
    let goes = merged_behind end all next more xs in
    let leads = with_group end next (group_of end all x.0) x.0 (merged_behind end all (next + 1) more xs) in
    elim (is_many (mates_at end) all x) as (λ m. All (Stands around) (cond m (cond (has_mate (mates_at end) front x) goes leads) (with_item x goes)).tables → list_any hit (cond m (cond (has_mate (mates_at end) front x) goes leads) (with_item x goes)).items ≡ (cond m (cond (has_mate (mates_at end) front x) false (list_any hit (group_of end all x.0))) (hit x) || left_passes (mates_at end) hit all more xs)) [
      | true ↦
          elim (has_mate (mates_at end) front x) as (λ m. All (Stands around) (cond m goes leads).tables → list_any hit (cond m goes leads).items ≡ (cond m false (list_any hit (group_of end all x.0)) || left_passes (mates_at end) hit all more xs)) [
            | true ↦ λ stands. behind_hits end around walk all next more xs stands
            | false ↦ λ stands.
                let tables = (merged_behind end all (next + 1) more xs).tables in
                let first : AutoTable = record { number = next; entries = group_table end (group_of end all x.0) } in
                ap (λ b. b || list_any hit (merged_behind end all (next + 1) more xs).items) (lead_hits end around walk all next x.0 (All-head (Stands around) first tables stands))
                ∙ ap (λ b. list_any hit (group_of end all x.0) || b) (behind_hits end around walk all (next + 1) more xs (All-tail (Stands around) first tables stands))
          ]
      | false ↦ λ stands. ap (λ b. hit x || b) (behind_hits end around walk all next more xs stands)
    ] stands0
