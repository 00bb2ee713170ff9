use Rattle.std.proofs.Common.{◌≡◌, List, ap, ◌∙◌, subst}
use Rattle.pf_syntax.specs.declared.form.HostItem.{HostItem}
use Rattle.pf_word.specs.Hosts.{HostsMean}
use Rattle.pf_word.specs.Numbers.{port_tests}
use Rattle.pf_expand.proofs.readings.read_ends.Goals as goal

pub returns : goal.returns
returns c =
    let sources_mean = subst (λ (items : List HostItem). HostsMean c.args.facts.now items c.in_ok-sources.sources) c.items.ensures c.in_ok-sources.ensures in
    let source_ports_are = c.in_ok-source_ports.ensures ∙ ap (port_tests c.args.facts.now) c.items-2.ensures in
    let targets_mean = subst (λ (items : List HostItem). HostsMean c.args.facts.now items c.in_ok-targets.targets) c.items-3.ensures c.in_ok-targets.ensures in
    let target_ports_are = c.in_ok-target_ports.ensures ∙ ap (port_tests c.args.facts.now) c.items-4.ensures in
    (sources_mean, (source_ports_are, (targets_mean, target_ports_are)))
