use Rattle.std.proofs.Common.{◌≡◌, ◌++◌, ◌∷◌, ◌<◌, ◌≤◌, None, length, take, sym, ap, ◌∙◌, arith}
use Rattle.std.specs.List.{flat_map}
use Rattle.std.specs.Option.{option_to_list}
use Rattle.std.proofs.lemmas.List.{append-nil, take_all}
use Rattle.pf_combine.specs.Combinations.{combined}
use Rattle.pf_combine.specs.Members.{names}
use Rattle.pf_combine.specs.Walk.{combined_with, next_family}
use Rattle.pf_combine.proofs.Combined.{added_within, combined_by_member, more_members, nothing_with, walked_with}
use Rattle.pf_combine.proofs.combine.+combine.Goals as goal

pub loop-member-preserved-in_default-next_family : goal.loop-member-preserved-in_default-next_family
loop-member-preserved-in_default-next_family t c =
    let member = c.member-item.result in
    let members = c.items-member-items.result.now in
    let low : c.loop-member.member-index < length members = omega arith in
    let give = combined_with c.args.chosen c.args.start.now c.in-Some.rest.now in
    let passed : next_family c.args.chosen (names member) c.completes-inet.result c.completes-inet6.result ≡ None =
    ap (λ n. next_family c.args.chosen n c.completes-inet.result c.completes-inet6.result) (sym c.names.ensures) ∙ sym c.next_family.ensures ∙ c.in_default-next_family.is in
    let nothing = nothing_with c.args.chosen c.args.start.now c.in-Some.rest.now member c.completes-inet.result c.completes-inet6.result c.completes-inet.ensures c.completes-inet6.ensures passed in
    let same = more_members give members c.loop-member.member-index member low c.member-item.is
    ∙ ap (λ x. flat_map give (take c.loop-member.member-index members) ++ x) nothing ∙ append-nil (flat_map give (take c.loop-member.member-index members)) in
    c.loop-member.invariant ∙ ap (λ x. take c.args.room (c.args.found.now ++ x)) (sym same)

pub loop-member-preserved : goal.loop-member-preserved
loop-member-preserved t c =
    let member = c.member-item.result in
    let members = c.items-member-items.result.now in
    let low : c.loop-member.member-index < length members = omega arith in
    let give = combined_with c.args.chosen c.args.start.now c.in-Some.rest.now in
    let given = ap (λ n. next_family c.args.chosen n c.completes-inet.result c.completes-inet6.result) (sym c.names.ensures) ∙ sym c.next_family.ensures ∙ c.in-Some-next_family.is in
    let walked = walked_with c.args.chosen c.args.start.now c.in-Some.rest.now member c.completes-inet.result c.completes-inet6.result c.in-Some-next_family.next given in
    let adds = c.in_ok-combine.ensures ∙ ap (λ x. take c.args.room (c.loop-member.found ++ x)) (ap (λ s. combined (option_to_list c.in-Some-next_family.next) s c.in-Some.rest.now) c.with_member.ensures ∙ sym walked) in
    added_within c.args.room c.args.found.now (flat_map give (take c.loop-member.member-index members)) (give member) c.loop-member.found c.combine.new.found c.loop-member.invariant adds
    ∙ ap (λ x. take c.args.room (c.args.found.now ++ x)) (sym (more_members give members c.loop-member.member-index member low c.member-item.is))

pub returns : goal.returns
returns t c =
    let members = c.items-member-items.result.now in
    let give = combined_with c.args.chosen c.args.start.now c.in-Some.rest.now in
    let few : length members ≤ c.loop-member.member-index = omega arith in
    let whole = take_all c.loop-member.member-index members few in
    let lists : c.in-Some.members.now ∷ c.in-Some.rest.now ≡ c.args.lists.now = sym c.in-Some.ensures.cases.0 in
    c.loop-member.invariant
    ∙ ap (λ x. take c.args.room (c.args.found.now ++ flat_map give x)) (whole ∙ c.items-member-items.ensures)
    ∙ ap (λ x. take c.args.room (c.args.found.now ++ x)) (sym (combined_by_member c.args.chosen c.args.start.now c.in-Some.rest.now c.in-Some.members.now))
    ∙ ap (λ x. take c.args.room (c.args.found.now ++ combined (option_to_list c.args.chosen) c.args.start.now x)) lists
