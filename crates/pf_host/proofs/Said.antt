-- The facts of some lines, and of one line more.
use Rattle.std.proofs.Common.{◌≡◌, ℕ, true, false, List, [], ◌∷◌, ◌++◌, Some, filter, map, refl, sym, ap, ◌∙◌}
use Rattle.std.specs.List.{flat_map}
use Rattle.std.proofs.lemmas.List.{append-nil, map-append}
use Rattle.std.proofs.lemmas.List.Concat.{flat_map-append}
use Rattle.std.proofs.lemmas.List.Elements.{filter-append}
use Rattle.pf_base.specs.Decimal.{decimal_of}
use Rattle.pf_addr.specs.Grammar.{IsAddrText}
use Rattle.pf_addr.specs.declared.addr.Addr.{Addr}
use Rattle.pf_host.specs.Facts.{HostFacts}
use Rattle.pf_addr.specs.declared.parse.Masked.{Masked}
use Rattle.pf_addr.specs.PrefixText.{IsMaskedText}
use Rattle.pf_host.specs.declared.kind.Kind.{Kind}
use Rattle.pf_host.specs.declared.kind.Kind.TheVariants.{Interface, Address, Host, User, Group, Service}
use Rattle.pf_host.specs.declared.row.Row.{Row}
use Rattle.pf_host.specs.Line.{Line, is_about, lines_about}
use Rattle.pf_host.specs.Meaning.{AreSaid, SaysAddress, SaysHost, SaysNumber, groups_of, groups_said, most_id, most_port}
use Rattle.pf_host.specs.Reading.{line_with}
use Rattle.pf_host.proofs.Pairs.{zip_push}

-- a line about something else
pub stays : (kind : Kind) (before : List Line) (line : Line) → is_about kind line.kind ≡ false → lines_about kind (before ++ line ∷ []) ≡ lines_about kind before
unfolding lines_about
stays kind before line e = filter-append (λ l. is_about kind l.kind) before (line ∷ []) ∙ rw e (append-nil (filter (λ l. is_about kind l.kind) before))

-- a line about this
pub grows : (kind : Kind) (before : List Line) (line : Line) → is_about kind line.kind ≡ true → lines_about kind (before ++ line ∷ []) ≡ lines_about kind before ++ line ∷ []
unfolding lines_about
grows kind before line e = filter-append (λ l. is_about kind l.kind) before (line ∷ []) ∙ rw e refl

pub none_about : (kind : Kind) → lines_about kind [] ≡ []
unfolding lines_about
none_about kind = refl

pub interface_said : (before : List Line) (old : HostFacts) (name : List ℕ) (rest : List (List ℕ)) (interfaces : List (List ℕ)) (members : List (Row (List ℕ))) → AreSaid before old → interfaces ≡ old.interfaces ++ name ∷ [] → members ≡ old.members ++ groups_of name rest → AreSaid (before ++ (record { kind = Interface; name = name; rest = rest }) ∷ []) (record old { interfaces = interfaces; members = members })
interface_said before old name rest interfaces members said named grouped =
    let line : Line = (record { kind = Interface; name = name; rest = rest }) in
    record {
      interfaces = named ∙ (ap (λ names. names ++ name ∷ []) said.interfaces ∙ (sym (map-append (λ l. l.name) (lines_about Interface before) (line ∷ [])) ∙ ap (map (λ l. l.name)) (sym (grows Interface before line refl))));
      members = grouped ∙ (ap (λ rows. rows ++ groups_of name rest) said.members ∙ (ap (λ rows. flat_map groups_said (lines_about Interface before) ++ rows) (sym (append-nil (groups_of name rest))) ∙ (sym (flat_map-append groups_said (lines_about Interface before) (line ∷ [])) ∙ ap (flat_map groups_said) (sym (grows Interface before line refl)))));
      addresses = rw (stays Address before line refl) said.addresses;
      hosts = rw (stays Host before line refl) said.hosts;
      users = rw (stays User before line refl) said.users;
      groups = rw (stays Group before line refl) said.groups;
      services = rw (stays Service before line refl) said.services;
    }

pub address_said : (before : List Line) (old : HostFacts) (name word : List ℕ) (value : Masked) (rows : List (Row Masked)) → AreSaid before old → IsMaskedText word value → rows ≡ old.addresses ++ (record { name = name; value = value }) ∷ [] → AreSaid (before ++ (line_with Address name word) ∷ []) (record old { addresses = rows })
address_said before old name word value rows said is e =
    let line : Line = (line_with Address name word) in
    record {
      interfaces = rw (stays Interface before line refl) said.interfaces;
      members = rw (stays Interface before line refl) said.members;
      addresses = rw (grows Address before line refl, e) (zip_push SaysAddress (lines_about Address before) old.addresses line (record { name = name; value = value }) said.addresses (record { name = refl; address = is }));
      hosts = rw (stays Host before line refl) said.hosts;
      users = rw (stays User before line refl) said.users;
      groups = rw (stays Group before line refl) said.groups;
      services = rw (stays Service before line refl) said.services;
    }

pub host_said : (before : List Line) (old : HostFacts) (name word : List ℕ) (value : Addr) (rows : List (Row Addr)) → AreSaid before old → IsAddrText word value → rows ≡ old.hosts ++ (record { name = name; value = value }) ∷ [] → AreSaid (before ++ (line_with Host name word) ∷ []) (record old { hosts = rows })
host_said before old name word value rows said is e =
    let line : Line = (line_with Host name word) in
    record {
      interfaces = rw (stays Interface before line refl) said.interfaces;
      members = rw (stays Interface before line refl) said.members;
      addresses = rw (stays Address before line refl) said.addresses;
      hosts = rw (grows Host before line refl, e) (zip_push SaysHost (lines_about Host before) old.hosts line (record { name = name; value = value }) said.hosts (record { name = refl; address = is }));
      users = rw (stays User before line refl) said.users;
      groups = rw (stays Group before line refl) said.groups;
      services = rw (stays Service before line refl) said.services;
    }

pub user_said : (before : List Line) (old : HostFacts) (name word : List ℕ) (value : ℕ) (rows : List (Row ℕ)) → AreSaid before old → decimal_of most_id word ≡ Some value → rows ≡ old.users ++ (record { name = name; value = value }) ∷ [] → AreSaid (before ++ (line_with User name word) ∷ []) (record old { users = rows })
user_said before old name word value rows said is e =
    let line : Line = (line_with User name word) in
    record {
      interfaces = rw (stays Interface before line refl) said.interfaces;
      members = rw (stays Interface before line refl) said.members;
      addresses = rw (stays Address before line refl) said.addresses;
      hosts = rw (stays Host before line refl) said.hosts;
      users = rw (grows User before line refl, e) (zip_push (SaysNumber most_id) (lines_about User before) old.users line (record { name = name; value = value }) said.users (record { name = refl; number = is }));
      groups = rw (stays Group before line refl) said.groups;
      services = rw (stays Service before line refl) said.services;
    }

pub group_said : (before : List Line) (old : HostFacts) (name word : List ℕ) (value : ℕ) (rows : List (Row ℕ)) → AreSaid before old → decimal_of most_id word ≡ Some value → rows ≡ old.groups ++ (record { name = name; value = value }) ∷ [] → AreSaid (before ++ (line_with Group name word) ∷ []) (record old { groups = rows })
group_said before old name word value rows said is e =
    let line : Line = (line_with Group name word) in
    record {
      interfaces = rw (stays Interface before line refl) said.interfaces;
      members = rw (stays Interface before line refl) said.members;
      addresses = rw (stays Address before line refl) said.addresses;
      hosts = rw (stays Host before line refl) said.hosts;
      users = rw (stays User before line refl) said.users;
      groups = rw (grows Group before line refl, e) (zip_push (SaysNumber most_id) (lines_about Group before) old.groups line (record { name = name; value = value }) said.groups (record { name = refl; number = is }));
      services = rw (stays Service before line refl) said.services;
    }

pub service_said : (before : List Line) (old : HostFacts) (name word : List ℕ) (value : ℕ) (rows : List (Row ℕ)) → AreSaid before old → decimal_of most_port word ≡ Some value → rows ≡ old.services ++ (record { name = name; value = value }) ∷ [] → AreSaid (before ++ (line_with Service name word) ∷ []) (record old { services = rows })
service_said before old name word value rows said is e =
    let line : Line = (line_with Service name word) in
    record {
      interfaces = rw (stays Interface before line refl) said.interfaces;
      members = rw (stays Interface before line refl) said.members;
      addresses = rw (stays Address before line refl) said.addresses;
      hosts = rw (stays Host before line refl) said.hosts;
      users = rw (stays User before line refl) said.users;
      groups = rw (stays Group before line refl) said.groups;
      services = rw (grows Service before line refl, e) (zip_push (SaysNumber most_port) (lines_about Service before) old.services line (record { name = name; value = value }) said.services (record { name = refl; number = is }));
    }
