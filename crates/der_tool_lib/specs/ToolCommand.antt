-- The commands of the program, as words.
use Rattle.std.specs.Prelude.{◌≡◌, ◌⊎◌, ℕ, ◌%◌, List, [], ◌∷◌, length, map, codes, String, string_bytes}
use Rattle.std.specs.List.{AllPass}
use Rattle.hex.specs.Hex.{is_hex_digit}
use Rattle.der.specs.Prelude.{EncodingRules, Ber, Der}
use Rattle.der_tool_lib.specs.declared.command.ToolCommand.{ToolCommand}
use Rattle.der_tool_lib.specs.declared.command.ToolCommand.TheVariants.{Head, Tlv, Order, Join}

-- the octets of each word
abbrev pub texts : {A : Type 0} → List (String A) → List (List ℕ)
texts words = map string_bytes words

-- an even number of hexadecimal digits, in either case
abbrev pub IsHex : List ℕ → Type 0
IsHex text = (length text % 2 ≡ 0) × AllPass is_hex_digit text

-- the name of a command that reads one text, under either rules
abbrev pub IsName : List ℕ → Type 0
IsName name = (name ≡ codes "head") ⊎ (name ≡ codes "tlv")

abbrev pub two : List ℕ → List ℕ → List (List ℕ)
two first second = first ∷ second ∷ []

abbrev pub three : List ℕ → List ℕ → List ℕ → List (List ℕ)
three first second third = first ∷ second ∷ third ∷ []

-- the name, `--ber` if the rules are BER, and the text of the octets
abbrev pub words_under : EncodingRules → List ℕ → List ℕ → List (List ℕ)
words_under Der name hex = two name hex
words_under Ber name hex = three name (codes "--ber") hex

-- the words of the command that compares two elements
abbrev pub order_words : List ℕ → List ℕ → List (List ℕ)
order_words first second = three (codes "order") first second

-- the words of the command that joins segments
abbrev pub join_words : List ℕ → List (List ℕ)
join_words hex = two (codes "join") hex

abbrev pub words_of : ToolCommand → List (List ℕ)
words_of (Head rules hex) = words_under rules (codes "head") hex.now
words_of (Tlv rules hex) = words_under rules (codes "tlv") hex.now
words_of (Order first second) = order_words first.now second.now
words_of (Join hex) = join_words hex.now

-- each text of a command is octets in hexadecimal
abbrev pub SpellsOctets : ToolCommand → Type 0
SpellsOctets (Head rules hex) = IsHex hex.now
SpellsOctets (Tlv rules hex) = IsHex hex.now
SpellsOctets (Order first second) = IsHex first.now × IsHex second.now
SpellsOctets (Join hex) = IsHex hex.now

-- the words are a command
abbrev pub IsCommand : List (List ℕ) → Type 0
IsCommand words =
    ((rules : EncodingRules) × (name hex : List ℕ) × IsName name × IsHex hex
    × (words ≡ words_under rules name hex))
    ⊎ ((first second : List ℕ) × IsHex first × IsHex second × (words ≡ order_words first second))
    ⊎ ((hex : List ℕ) × IsHex hex × (words ≡ join_words hex))
