-- What each byte of a configuration does. pf.conf(5), its introduction and MACROS
use Rattle.std.specs.Prelude.{ℕ, Bool, true, false, ◌||◌, ◌&&◌, ◌==◌, nat_le, if◌then◌else◌, codes}
use Rattle.std.specs.List.{list_any}
use Rattle.pf_token.specs.declared.byte.ByteClass.{ByteClass}
use Rattle.pf_token.specs.declared.byte.ByteClass.TheVariants.{Blank, Newline, Sign, Quote, Hash, Dollar, Plain, Bad}

-- a space, a tab or a carriage return
abbrev pub is_blank : ℕ → Bool
is_blank byte = byte == 32 || byte == 9 || byte == 13

-- a sign is one byte
abbrev pub is_sign : ℕ → Bool
is_sign byte = list_any (λ sign. byte == sign) (codes "(){}<>!=/,")

-- `"` or `'`
abbrev pub is_quote : ℕ → Bool
is_quote byte = byte == 34 || byte == 39

-- What a byte does outside quotes. Of the bytes from 33 to 126 those that are no sign, no quote and no `#` make words;
-- among them `$` begins the use of a macro. All other bytes may stand in a comment alone.
unfoldable pub class_of : ℕ → ByteClass
class_of byte =
    if is_blank byte then Blank
    else (if byte == 10 then Newline
    else (if is_sign byte then Sign
    else (if is_quote byte then Quote
    else (if byte == 35 then Hash
    else (if byte == 36 then Dollar
    else (if nat_le 33 byte && nat_le byte 126 then Plain
    else Bad))))))

-- whether a byte of this class may stand in a word
abbrev pub makes_words : ByteClass → Bool
makes_words Plain = true
makes_words Dollar = true
makes_words Blank = false
makes_words Newline = false
makes_words Sign = false
makes_words Quote = false
makes_words Hash = false
makes_words Bad = false

abbrev pub is_word_byte : ℕ → Bool
is_word_byte byte = makes_words (class_of byte)

-- a letter, a digit or `_`: what a macro's name is made of
unfoldable pub is_name_byte : ℕ → Bool
is_name_byte byte =
    (nat_le 48 byte && nat_le byte 57) || (nat_le 65 byte && nat_le byte 90) || (nat_le 97 byte && nat_le byte 122) || byte == 95

-- whether a byte of this class may stand outside comments
abbrev pub is_known : ByteClass → Bool
is_known Blank = true
is_known Newline = true
is_known Sign = true
is_known Quote = true
is_known Hash = true
is_known Dollar = true
is_known Plain = true
is_known Bad = false
