-- A facts file says one thing.
use Rattle.std.proofs.Common.{◌≡◌, ℕ, List, [], ◌∷◌, Option, Some, refl, sym, ◌∙◌}
use Rattle.std.specs.List.{AllZip}
use Rattle.pf_base.specs.Decimal.{decimal_of}
use Rattle.pf_base.specs.Text.{lines_of}
use Rattle.pf_addr.specs.declared.addr.Addr.{Addr}
use Rattle.pf_addr.specs.declared.parse.Masked.{Masked}
use Rattle.pf_addr.specs.Grammar.{IsAddrText}
use Rattle.pf_addr.specs.PrefixText.{IsMaskedText}
use Rattle.pf_host.specs.declared.row.Row.{Row}
use Rattle.pf_host.specs.Facts.{HostFacts}
use Rattle.pf_host.specs.Line.{Line, lines_said, word_of}
use Rattle.pf_host.specs.Meaning.{AreSaid, IsFactsText, SaysAddress, SaysHost, SaysNumber, most_id, most_port}

-- what lines say one by one they say in one way
same_zip : {A B : Type 0} (R : A → B → Type 0) → ((x : A) (y z : B) → R x y → R x z → y ≡ z) → (xs : List A) (ys zs : List B) → AllZip R xs ys → AllZip R xs zs → ys ≡ zs
same_zip R one [] [] [] h k = refl
same_zip R one [] [] (z ∷ zs) h k = absurd k
same_zip R one [] (y ∷ ys) zs h k = absurd h
same_zip R one (x ∷ xs) [] zs h k = absurd h
same_zip R one (x ∷ xs) (y ∷ ys) [] h k = absurd k
same_zip R one (x ∷ xs) (y ∷ ys) (z ∷ zs) h k = λ i. one x y z h.0 k.0 i ∷ same_zip R one xs ys zs h.1 k.1 i

Row-same : {T : Type 0} (a b : Row T) → a.name ≡ b.name → a.value ≡ b.value → a ≡ b
Row-same a b e f = λ i. record { name = e i; value = f i }

same_some : {m n : ℕ} → ◌≡◌ {A = Option ℕ} (Some m) (Some n) → m ≡ n
same_some e = cc

one_number : (most : ℕ) (line : Line) (a b : Row ℕ) → SaysNumber most line a → SaysNumber most line b → a ≡ b
one_number most line a b h k = Row-same a b (h.name ∙ sym k.name) (same_some (sym h.number ∙ k.number))

module _ (one_addr : (text : List ℕ) (a b : Addr) → IsAddrText text a → IsAddrText text b → a ≡ b)
    (one_masked : (text : List ℕ) (m n : Masked) → IsMaskedText text m → IsMaskedText text n → m ≡ n) where
  one_host : (line : Line) (a b : Row Addr) → SaysHost line a → SaysHost line b → a ≡ b
  one_host line a b h k = Row-same a b (h.name ∙ sym k.name) (one_addr (word_of line.rest) a.value b.value h.address k.address)

  one_address : (line : Line) (a b : Row Masked) → SaysAddress line a → SaysAddress line b → a ≡ b
  one_address line a b h k = Row-same a b (h.name ∙ sym k.name) (one_masked (word_of line.rest) a.value b.value h.address k.address)

  AreSaid-unique : (lines : List Line) (facts other : HostFacts) → AreSaid lines facts → AreSaid lines other → facts ≡ other
  AreSaid-unique lines facts other h k =
      let interfaces = h.interfaces ∙ sym k.interfaces in
      let members = h.members ∙ sym k.members in
      let addresses = same_zip SaysAddress one_address _ facts.addresses other.addresses h.addresses k.addresses in
      let hosts = same_zip SaysHost one_host _ facts.hosts other.hosts h.hosts k.hosts in
      let users = same_zip (SaysNumber most_id) (one_number most_id) _ facts.users other.users h.users k.users in
      let groups = same_zip (SaysNumber most_id) (one_number most_id) _ facts.groups other.groups h.groups k.groups in
      let services = same_zip (SaysNumber most_port) (one_number most_port) _ facts.services other.services h.services k.services in
      λ i. record {
        interfaces = interfaces i;
        members = members i;
        addresses = addresses i;
        hosts = hosts i;
        users = users i;
        groups = groups i;
        services = services i;
      }

  pub one_meaning : (text : List ℕ) (facts other : HostFacts) → IsFactsText text facts → IsFactsText text other → facts ≡ other
  one_meaning text facts other h k = AreSaid-unique (lines_said (lines_of text)) facts other h.said k.said
