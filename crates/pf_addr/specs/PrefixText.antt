-- What a text says of a prefix.
use Rattle.std.specs.Prelude.{◌≡◌, ℕ, ◌≤◌, ◌<◌, List, ◌++◌, ◌==◌, codes, decimal, if◌then◌else◌}
use Rattle.pf_addr.specs.declared.addr.Addr.{Addr}
use Rattle.pf_addr.specs.declared.parse.Masked.{Masked}
use Rattle.pf_addr.specs.declared.prefix.Prefix.{Prefix}
use Rattle.pf_addr.specs.Addr.{width, network}
use Rattle.pf_addr.specs.Grammar.{IsMasked, Writes}
use Rattle.pf_addr.specs.Text.{addr_text}

-- the prefix is this address with this many bits, its host bits cleared
pub record IsNetworkOf (a : Addr) (n : ℕ) (p : Prefix) : Type 0 where
  pub addr : p.addr ≡ network a n
  pub len : p.len ≡ n

-- the text writes this prefix
pub record IsPrefixText (text : List ℕ) (p : Prefix) : Type 0 where
  pub addr : Addr
  pub writes : Writes text addr p.len
  pub fits : p.len ≤ width addr
  pub cleared : p.addr ≡ network addr p.len

-- only the mask is too long: the text writes an address and n bits, more than its family has
pub record IsTooLong (text : List ℕ) (n : ℕ) : Type 0 where
  pub addr : Addr
  pub writes : Writes text addr n
  pub over : width addr < n

-- the text writes this address with a mask, and the network of the two
pub record IsMaskedText (text : List ℕ) (m : Masked) : Type 0 where
  pub masked : IsMasked text m.addr m.network.len
  pub fits : m.network.len ≤ width m.addr
  pub cleared : m.network.addr ≡ network m.addr m.network.len

-- only the mask is too long: the text writes an address with a mask of n bits, more than its family has
pub record IsMaskTooLong (text : List ℕ) (n : ℕ) : Type 0 where
  pub addr : Addr
  pub masked : IsMasked text addr n
  pub over : width addr < n

-- the text of a prefix: of full length it is the address alone
abbrev pub prefix_text : Prefix → List ℕ
prefix_text p = if p.len == width p.addr then addr_text p.addr
    else addr_text p.addr ++ codes "/" ++ decimal p.len
