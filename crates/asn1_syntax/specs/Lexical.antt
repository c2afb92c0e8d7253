-- The octets of lexical items (X.680, 12).
use Rattle.std.specs.Prelude.{◌==◌, ◌&&◌, ◌||◌, ℕ, Bool, nat_le}

abbrev pub is_upper : ℕ → Bool
is_upper x = nat_le 65 x && nat_le x 90

abbrev pub is_lower : ℕ → Bool
is_lower x = nat_le 97 x && nat_le x 122

abbrev pub is_digit : ℕ → Bool
is_digit x = nat_le 48 x && nat_le x 57

-- letters, digits and hyphens (12.2 and 12.3)
abbrev pub is_name_octet : ℕ → Bool
is_name_octet x = is_upper x || is_lower x || is_digit x || x == 45

-- letters, digits and `_`, as in words of Rust
abbrev pub is_word_octet : ℕ → Bool
is_word_octet x = is_upper x || is_lower x || is_digit x || x == 95

-- the white space of 12.1.6: tab, the four line ends, space
abbrev pub is_space : ℕ → Bool
is_space x = (nat_le 9 x && nat_le x 13) || x == 32
