-- Octets fixed by X.690: `long_form` and `indefinite_octet` are first length octets,
-- `end_of_contents` closes indefinite-length contents, `high_number` and `segments_octet` occur in
-- identifiers.
use Rattle.std.specs.Prelude.{ℕ, ◌+◌, List, [], ◌∷◌}

-- the first octet of a length in the long form: bit 8 is set, and k more octets follow (8.1.3.5)
abbrev pub long_form : ℕ → ℕ
long_form k = 128 + k

-- `0x80`, the length octet of the indefinite form (8.1.3.6.1)
abbrev pub indefinite_octet : ℕ
indefinite_octet = 128

-- the end-of-contents octets, which close indefinite-length contents (8.1.5)
abbrev pub end_of_contents : List ℕ
end_of_contents = 0 ∷ 0 ∷ []

-- `0x1F`, the low five bits of a first identifier octet after which the tag number follows
-- (8.1.2.4.1)
abbrev pub high_number : ℕ
high_number = 31

-- `0x24`, the identifier octet of a constructed OCTET STRING (8.7.1)
abbrev pub segments_octet : ℕ
segments_octet = 36
