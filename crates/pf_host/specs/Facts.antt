-- What the facts of a host are: lists in the order of the lines of their file.
use Rattle.std.specs.Prelude.{ℕ, List, []}
use Rattle.pf_addr.specs.declared.addr.Addr.{Addr}
use Rattle.pf_addr.specs.declared.parse.Masked.{Masked}
use Rattle.pf_host.specs.declared.lists.Lists.{Lists}
use Rattle.pf_host.specs.declared.row.Row.{Row}

pub record HostFacts : Type 0 where
  -- the names of the interfaces
  pub interfaces : List (List ℕ)
  -- the groups of each interface
  pub members : List (Row (List ℕ))
  -- the addresses of each interface, with their networks
  pub addresses : List (Row Masked)
  -- the addresses of each host
  pub hosts : List (Row Addr)
  -- the numbers of users, of their groups, and of services
  pub users : List (Row ℕ)
  pub groups : List (Row ℕ)
  pub services : List (Row ℕ)

-- nothing is known
abbrev pub no_facts : HostFacts
no_facts = record { interfaces = []; members = []; addresses = []; hosts = []; users = []; groups = []; services = [] }

-- the facts that the code holds
abbrev pub facts_in : Lists → HostFacts
facts_in lists = record {
  interfaces = lists.interfaces;
  members = lists.members;
  addresses = lists.addresses;
  hosts = lists.hosts;
  users = lists.users;
  groups = lists.groups;
  services = lists.services;
}
