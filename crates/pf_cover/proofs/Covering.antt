-- Covering of criteria is transitive, criteria cover themselves, and where criteria hold, those that cover them hold.
use Rattle.std.proofs.Common.{◌≡◌, true, ◌&&◌, Option, List, ℕ}
use Rattle.std.proofs.lemmas.Bool.{and_parts, and_from}
use Rattle.pf_base.specs.Equality.{numbers}
use Rattle.pf_base.specs.Kinds.{families}
use Rattle.pf_ops.specs.Equal.{icmp_types, tcp_flags}
use Rattle.pf_parts.specs.Equal.{directions}
use Rattle.pf_addr.specs.Addr.{is_of_family}
use Rattle.pf_rule.specs.Around.{Around}
use Rattle.pf_rule.specs.Criteria.{is_icmp, same_direction, same_type}
use Rattle.pf_rule.specs.Hit.{all_hold, hits, other_tests, skip_tests}
use Rattle.pf_rule.specs.declared.criteria.Criteria.{Criteria}
use Rattle.pf_rule.specs.declared.packet.Packet.{Packet}
use Rattle.pf_cover.specs.Cover.{covers, other_covers, skip_covers}
use Rattle.pf_cover.proofs.Fields.{Stretched, address_also, address_itself, address_joins, equal_holds, equal_itself, equal_joins, interface_also, interface_itself, interface_joins, numbers_hold, numbers_itself, numbers_join, tag_also, tag_itself, tag_joins}
use Rattle.pf_cover.proofs.Follows.{all_follow, each_hold}

skip_joins : (a b c : Criteria) → all_hold (skip_covers a b) ≡ true → all_hold (skip_covers b c) ≡ true → all_hold (skip_covers a c) ≡ true
skip_joins a b c =
    all_follow (skip_covers a b) (skip_covers b c) (skip_covers a c) (
      interface_joins a.iface b.iface c.iface,
      (
        equal_joins directions a.direction b.direction c.direction,
        (
          equal_joins families a.family b.family c.family,
          (
            equal_joins numbers a.proto b.proto c.proto,
            (
              address_joins a.source b.source c.source,
              (
                numbers_join a.source_port b.source_port c.source_port,
                (
                  address_joins a.target b.target c.target,
                  (numbers_join a.target_port b.target_port c.target_port, tt),
                ),
              ),
            ),
          ),
        ),
      ),
    )

other_joins : (a b c : Criteria) → all_hold (other_covers a b) ≡ true → all_hold (other_covers b c) ≡ true → all_hold (other_covers a c) ≡ true
other_joins a b c =
    all_follow (other_covers a b) (other_covers b c) (other_covers a c) (
      numbers_join a.user b.user c.user,
      (
        numbers_join a.group b.group c.group,
        (
          equal_joins tcp_flags a.flags b.flags c.flags,
          (
            equal_joins icmp_types a.icmp b.icmp c.icmp,
            (
              equal_joins numbers a.tos b.tos c.tos,
              (
                equal_joins numbers a.prio b.prio c.prio,
                (tag_joins a.tagged b.tagged c.tagged, tt),
              ),
            ),
          ),
        ),
      ),
    )

pub covers_join : (a b c : Criteria) → covers a b ≡ true → covers b c ≡ true → covers a c ≡ true
unfolding covers
covers_join a b c h k =
    let first = and_parts (all_hold (skip_covers a b)) (all_hold (other_covers a b)) h in
    let second = and_parts (all_hold (skip_covers b c)) (all_hold (other_covers b c)) k in
    and_from (all_hold (skip_covers a c)) (all_hold (other_covers a c)) (skip_joins a b c first.0 second.0) (other_joins a b c first.1 second.1)

pub covers_itself : (a : Criteria) → covers a a ≡ true
unfolding covers
covers_itself a =
    and_from (all_hold (skip_covers a a)) (all_hold (other_covers a a))
    (each_hold (skip_covers a a) (
      interface_itself a.iface,
      (
        equal_itself directions a.direction,
        (
          equal_itself families a.family,
          (
            equal_itself numbers a.proto,
            (
              address_itself a.source,
              (
                numbers_itself a.source_port,
                (
                  address_itself a.target,
                  (numbers_itself a.target_port, tt),
                ),
              ),
            ),
          ),
        ),
      ),
    ))
    (each_hold (other_covers a a) (
      numbers_itself a.user,
      (
        numbers_itself a.group,
        (
          equal_itself tcp_flags a.flags,
          (
            equal_itself icmp_types a.icmp,
            (
              equal_itself numbers a.tos,
              (
                equal_itself numbers a.prio,
                (tag_itself a.tagged, tt),
              ),
            ),
          ),
        ),
      ),
    ))

skip_hold : Stretched → (around : Around) (packet : Packet) (a b : Criteria) → all_hold (skip_covers a b) ≡ true → all_hold (skip_tests around b packet) ≡ true → all_hold (skip_tests around a packet) ≡ true
skip_hold facts around packet a b =
    all_follow (skip_covers a b) (skip_tests around b packet) (skip_tests around a packet) (
      interface_also around.in_group packet.iface a.iface b.iface,
      (
        equal_holds directions (λ d. same_direction d packet.direction) a.direction b.direction,
        (
          equal_holds families (λ f. is_of_family f packet.source) a.family b.family,
          (
            equal_holds numbers _ a.proto b.proto,
            (
              address_also facts around packet.source a.source b.source,
              (
                numbers_hold packet packet.source_port a.source_port b.source_port,
                (
                  address_also facts around packet.target a.target b.target,
                  (numbers_hold packet packet.target_port a.target_port b.target_port, tt),
                ),
              ),
            ),
          ),
        ),
      ),
    )

other_hold : (packet : Packet) (present : Option (List ℕ)) (a b : Criteria) → all_hold (other_covers a b) ≡ true → all_hold (other_tests b packet present) ≡ true → all_hold (other_tests a packet present) ≡ true
other_hold packet present a b =
    all_follow (other_covers a b) (other_tests b packet present) (other_tests a packet present) (
      numbers_hold packet packet.user a.user b.user,
      (
        numbers_hold packet packet.group a.group b.group,
        (
          equal_holds tcp_flags _ a.flags b.flags,
          (
            equal_holds icmp_types (λ t. is_icmp packet.proto && same_type t packet) a.icmp b.icmp,
            (
              equal_holds numbers _ a.tos b.tos,
              (
                equal_holds numbers _ a.prio b.prio,
                (tag_also present a.tagged b.tagged, tt),
              ),
            ),
          ),
        ),
      ),
    )

pub covers_hits : Stretched → (around : Around) (packet : Packet) (present : Option (List ℕ)) (a b : Criteria) → covers a b ≡ true → hits around b packet present ≡ true → hits around a packet present ≡ true
unfolding covers hits
covers_hits facts around packet present a b h k =
    let first = and_parts (all_hold (skip_covers a b)) (all_hold (other_covers a b)) h in
    let second = and_parts (all_hold (skip_tests around b packet)) (all_hold (other_tests b packet present)) k in
    and_from (all_hold (skip_tests around a packet)) (all_hold (other_tests a packet present))
    (skip_hold facts around packet a b first.0 second.0)
    (other_hold packet present a b first.1 second.1)
