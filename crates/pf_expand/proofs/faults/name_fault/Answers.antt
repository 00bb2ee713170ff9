use Rattle.std.proofs.Common.{◌≡◌, sym, ap, ◌∙◌}
use Rattle.std.specs.Option.{option_or}
use Rattle.pf_expand.proofs.Firsts.{five_before}
use Rattle.pf_expand.proofs.faults.name_fault.Goals as goal

pub returns : goal.returns
returns c =
    let iface = c.unknown_interface.ensures in
    let service = c.unknown_service.ensures in
    let proto = c.unknown_proto.ensures in
    let needs = c.port_needs.ensures in
    let port = c.bad_port.ensures in
    let later = c.protocol_fault.ensures in
    c.or-5.ensures ∙ ap (λ x. option_or x c.protocol_fault.result) (c.or-4.ensures ∙ ap (λ x. option_or x c.bad_port.result) (c.or-3.ensures ∙ ap (λ x. option_or x c.port_needs.result) (c.or-2.ensures ∙ ap (λ x. option_or x c.unknown_proto.result) (c.or.ensures))))
    ∙ five_before c.unknown_interface.result c.unknown_service.result c.unknown_proto.result c.port_needs.result c.bad_port.result c.protocol_fault.result
    ∙ (λ i. option_or (iface i) (option_or (service i) (option_or (proto i) (option_or (needs i) (option_or (port i) (later i))))))
