use Rattle.pf_host.specs.declared.kind.Kind.TheVariants.{Address, Group, Host, Interface, Service, User}
use Rattle.pf_host.proofs.Said.{none_about}
use Rattle.pf_host.proofs.lists.Lists.new.Goals as goal

pub returns-clause-said : goal.returns-clause-said
returns-clause-said c = record {
  interfaces = rw (none_about Interface) c.new.ensures;
  members = rw (none_about Interface) c.new-2.ensures;
  addresses = rw (none_about Address, c.new-3.ensures) tt;
  hosts = rw (none_about Host, c.new-4.ensures) tt;
  users = rw (none_about User, c.new-5.ensures) tt;
  groups = rw (none_about Group, c.new-6.ensures) tt;
  services = rw (none_about Service, c.new-7.ensures) tt;
}
