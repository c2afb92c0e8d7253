-- What the program prints, as octets of text.
use Rattle.std.specs.Prelude.{ℕ, Bool, List, [], ◌∷◌, ◌++◌, codes, if◌then◌else◌}
use Rattle.std.specs.declared.cmp.Ordering.{Ordering}
use Rattle.std.specs.declared.cmp.Ordering.TheVariants.{Less, Equal, Greater}
use Rattle.hex.specs.Hex.{encode_lower}
use Rattle.der.specs.Prelude.{Head, is_indefinite}
use Rattle.der.specs.Text.{tag_text, length_text}

abbrev pub usage_line : List ℕ
usage_line =
    codes "usage: der_tool head [--ber] HEX | tlv [--ber] HEX | order HEX HEX | join HEX\n"

abbrev pub error_line : List ℕ → List ℕ
error_line reason = codes "error: " ++ reason ++ codes "\n"

abbrev pub yes_or_no : Bool → List ℕ
yes_or_no b = if b then codes "yes" else codes "no"

-- the text after a length that was read in the indefinite form
abbrev pub indefinite_suffix : Bool → List ℕ
indefinite_suffix b = if b then codes " indefinite" else []

-- octets in lower-case hexadecimal, or a dash if there are none
abbrev pub octets_text : List ℕ → List ℕ
octets_text [] = codes "-"
octets_text (o ∷ os) = encode_lower (o ∷ os)

-- a line of octets
abbrev pub octets_line : List ℕ → List ℕ
octets_line octets = octets_text octets ++ codes "\n"

-- an element in lower-case hexadecimal
abbrev pub element_line : List ℕ → List ℕ
element_line element = encode_lower element ++ codes "\n"

-- the order of two elements
abbrev pub order_line : Ordering → List ℕ
order_line Less = codes "less\n"
order_line Equal = codes "equal\n"
order_line Greater = codes "greater\n"

-- the four lines of a header and the octets after it
abbrev pub header_lines : Head → List ℕ → List ℕ
header_lines h rest =
    codes "tag: " ++ tag_text h.tag ++ codes "\nconstructed: " ++ yes_or_no h.constructed
    ++ codes "\nlength: " ++ length_text h.length ++ indefinite_suffix (is_indefinite h.length)
    ++ codes "\nrest: " ++ octets_text rest ++ codes "\n"
