-- The content of a header (`head_of`), and octets that begin with one (`HeaderNext`).
use Rattle.der_base.specs.Arithmetic.{sans_eoc}
use Rattle.std.specs.Prelude.{ℕ, List}
use Rattle.der_base.specs.HeaderGrammar.{Head, HeadNext}
use Rattle.der_base.specs.declared.encoding_rules.EncodingRules.{EncodingRules}
use Rattle.der_core.specs.declared.header.Header.{Header}

-- the tag, the length and the constructed bit of a header
abbrev pub head_of : Header → Head
head_of h = record { tag = h.tag; length = h.length; constructed = h.constructed }

-- the first m octets of a list are this header
abbrev pub HeaderNext : Header → EncodingRules → List ℕ → ℕ → Type 0
HeaderNext h = HeadNext (head_of h)

-- the header with the length of the contents alone, without the end-of-contents octets
abbrev pub header_sans_eoc : Header → Header
header_sans_eoc h = record { tag = h.tag; length = sans_eoc h.length; constructed = h.constructed }
