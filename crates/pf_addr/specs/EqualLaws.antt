-- Which values the orders of addresses and prefixes don't tell apart.
use Rattle.std.proofs.Common.{◌≡◌, refl, sym, ap, ◌∙◌, arith}
use Rattle.std.specs.Prelude.{◌↔◌}
use Rattle.std.specs.Cmp.{Equal-is}
use Rattle.std.specs.declared.cmp.Ordering.{Ordering}
use Rattle.std.specs.declared.cmp.Ordering.TheVariants.{Equal}
use Rattle.std.specs.Ordering.{eq_by_cmp, is_eq}
use Rattle.pf_base.specs.Equality.{Equality}
use Rattle.pf_addr.specs.declared.addr.Addr.{Addr}
use Rattle.pf_addr.specs.declared.addr.Addr.TheVariants.{V4, V6}
use Rattle.pf_addr.specs.declared.prefix.Prefix.{Prefix}
use Rattle.pf_addr.specs.Addr.{SameFamily, family_of}
use Rattle.pf_addr.specs.AddrOrder.{addr_cmp, addr_eq-addr_cmp, addrs}
use Rattle.pf_addr.specs.PrefixOrder.{prefix_cmp, prefix_eq-prefix_cmp, prefixes}

-- an order that answers `Equal` exactly where a decided equality holds
level : {A : Type 0} (equality : Equality A) (R : A → A → Ordering) → ((a b : A) → equality.same a b ≡ eq_by_cmp R a b) → (a b : A) → (R a b ≡ Equal) ↔ (a ≡ b)
level equality R ties a b = (
  λ e. (equality.decides a b).0 (ties a b ∙ ap is_eq e),
  λ e. (Equal-is (R a b)).0 (sym (ties a b) ∙ (equality.decides a b).1 e),
)

pub addrs_level : (a b : Addr) → (addr_cmp a b ≡ Equal) ↔ (a ≡ b)
addrs_level = level addrs addr_cmp addr_eq-addr_cmp

pub prefixes_level : (p q : Prefix) → (prefix_cmp p q ≡ Equal) ↔ (p ≡ q)
prefixes_level = level prefixes prefix_cmp prefix_eq-prefix_cmp

pub families_by_width : (a b : Addr) → SameFamily a b ↔ (family_of a ≡ family_of b)
families_by_width (V4 m) (V4 n) = (λ e. refl, λ e. refl)
families_by_width (V6 m) (V6 n) = (λ e. refl, λ e. refl)
families_by_width (V4 m) (V6 n) = (λ e. absurd (omega (arith, e)), λ e. absurd cc)
families_by_width (V6 m) (V4 n) = (λ e. absurd (omega (arith, e)), λ e. absurd cc)
