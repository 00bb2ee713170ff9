-- Computed texts.
use Rattle.std.proofs.Common.{◌≡◌, refl}
use Rattle.std.specs.Prelude.{codes}
use Rattle.std.specs.Fmt.{digits}
use Rattle.std.specs.Net.Text.{hex, hex_groups_text}
use Rattle.pf_addr.specs.declared.addr.Addr.TheVariants.{V4, V6}
use Rattle.pf_addr.specs.Addr.{network}
use Rattle.pf_addr.specs.Text.{last_digits, addr_text}

middle_run : addr_text (V6 0x2001_0db8_0000_0000_0001_0000_0000_0001) ≡ codes "2001:db8::1:0:0:1"
unfolding last_digits hex hex_groups_text
middle_run = refl

all_zero : addr_text (V6 0) ≡ codes "::"
unfolding last_digits hex hex_groups_text
all_zero = refl

one_zero_group : addr_text (V6 0x2001_0db8_0000_0001_0001_0001_0001_0abc) ≡ codes "2001:db8:0:1:1:1:1:abc"
unfolding last_digits hex hex_groups_text
one_zero_group = refl

no_dotted_part : addr_text (V6 0xffff_c000_0201) ≡ codes "::ffff:c000:201"
unfolding last_digits hex hex_groups_text
no_dotted_part = refl

dotted : addr_text (V4 0xc000_020a) ≡ codes "192.0.2.10"
unfolding last_digits digits
dotted = refl

cleared : network (V4 0x0a01_0203) 12 ≡ V4 0x0a00_0000
cleared = refl
