-- Elements of the input.
use Rattle.der_base.specs.declared.encoding_rules.EncodingRules.TheVariants.{Ber}
use Rattle.schema_read.specs.Enclosed.{IsEnclosed}
use Rattle.schema_write.specs.declared.piece.Piece.{Piece}

-- a piece is an element under BER
abbrev pub IsPiece : Piece → Type 0
IsPiece p = IsEnclosed Ber p.header p.contents.now p.octets.now
