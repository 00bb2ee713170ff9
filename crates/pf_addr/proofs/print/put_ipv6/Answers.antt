use Rattle.std.proofs.Common.{◌∙◌, ap, sym, length, arith, List, ℕ, ◌++◌}
use Rattle.std.specs.Net.Text.{hex_groups_text}
use Rattle.pf_addr.proofs.Digits.{length-last_digits}
use Rattle.pf_addr.proofs.Groups.{shortened_line, whole_text}
use Rattle.pf_addr.proofs.print.put_ipv6.Goals as goal

pub returns-then-run-ge-LEAST_RUN-clause-text : goal.returns-then-run-ge-LEAST_RUN-clause-text
returns-then-run-ge-LEAST_RUN-clause-text c =
    shortened_line c.groups_of-groups.result _ _ _ _ _ _ _ c.longest_run-run.ensures.value c.if-run-ge-LEAST_RUN.true (ap length c.groups_of-groups.ensures ∙ length-last_digits 65536 8 c.args.bits) c.put_groups.ensures.text c.push.ensures c.push-then-run-ge-LEAST_RUN.ensures c.put_groups-then-run-ge-LEAST_RUN.ensures.text
    ∙ ap (λ (t : List ℕ). c.args.line.now ++ hex_groups_text t) c.groups_of-groups.ensures

pub returns-else-run-ge-LEAST_RUN-clause-text : goal.returns-else-run-ge-LEAST_RUN-clause-text
returns-else-run-ge-LEAST_RUN-clause-text c =
    c.put_groups-else-run-ge-LEAST_RUN.ensures.text
    ∙ ap (λ (t : List ℕ). c.args.line.now ++ t) (sym (whole_text _ _ _ c.longest_run-run.ensures.value (omega (arith, c.if-run-ge-LEAST_RUN.false))))
    ∙ ap (λ (t : List ℕ). c.args.line.now ++ hex_groups_text t) c.groups_of-groups.ensures
