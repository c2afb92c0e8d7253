-- The names that callers' contracts use most. Each is documented in its own module.
pub use Rattle.der_base.specs.declared.tag.Tag.{Tag}
pub use Rattle.der_base.specs.declared.tag.Tag.TheVariants.{Boolean, Integer, BitString}
pub use Rattle.der_base.specs.declared.tag.Tag.TheVariants.{OctetString, Null, ObjectIdentifier}
pub use Rattle.der_base.specs.declared.tag.Tag.TheVariants.{Real, Enumerated, Utf8String}
pub use Rattle.der_base.specs.declared.tag.Tag.TheVariants.{RelativeOid, Sequence, Set}
pub use Rattle.der_base.specs.declared.tag.Tag.TheVariants.{NumericString, PrintableString}
pub use Rattle.der_base.specs.declared.tag.Tag.TheVariants.{TeletexString, VideotexString}
pub use Rattle.der_base.specs.declared.tag.Tag.TheVariants.{Ia5String, UtcTime, GeneralizedTime}
pub use Rattle.der_base.specs.declared.tag.Tag.TheVariants.{VisibleString, GeneralString, BmpString}
pub use Rattle.der_base.specs.declared.tag.Tag.TheVariants.{Application, ContextSpecific, Private}
pub use Rattle.der_base.specs.declared.encoding_rules.EncodingRules.{EncodingRules}
pub use Rattle.der_base.specs.declared.encoding_rules.EncodingRules.TheVariants.{Ber, Der}
pub use Rattle.der_base.specs.declared.length.Length.{Length}
pub use Rattle.der_base.specs.declared.error.Error.{Error}
pub use Rattle.der_base.specs.declared.tag.number.TagNumber.{TagNumber}
pub use Rattle.der_core.specs.declared.header.Header.{Header}
pub use Rattle.der_core.specs.declared.reader.slice.SliceReader.{SliceReader}
pub use Rattle.der_core.specs.declared.writer.slice.SliceWriter.{SliceWriter}
pub use Rattle.der_core.specs.declared.reader.position.Position.{Position}
pub use Rattle.der_base.specs.Length.{number, is_indefinite, definite_length, indefinite_length}
pub use Rattle.der_base.specs.Length.{length_octets}
pub use Rattle.der_base.specs.Tag.{tag_octets}
pub use Rattle.der_base.specs.Error.{error_at, error_of_kind, kind_of, position_of}
pub use Rattle.der_base.specs.Arithmetic.{checked_length}
pub use Rattle.der_base.specs.HeaderGrammar.{Head, HeadNext, header_octets}
pub use Rattle.der_base.specs.Order.{IsBefore, byte_order}
pub use Rattle.der_core.specs.Header.{head_of, HeaderNext}
pub use Rattle.der_core.specs.ReaderState.{ReaderState, Reads, Same, reader_position, rest_of}
pub use Rattle.der_core.specs.SliceReader.{slice_state}
pub use Rattle.der_core.specs.Outcome.{Gives, map_ok}
pub use Rattle.der_core.specs.Reader.{read_slice_outcome}
pub use Rattle.der_core.specs.Element.{ElementNext, ElementRead, element_levels}
pub use Rattle.der_core.specs.Fields.{FieldsNext, FieldsRead, FieldsWritten, TakesWhole}
pub use Rattle.der_core.specs.Fields.{fields_levels, fields_size}
pub use Rattle.der_core.specs.Encode.{ElementWritten, WriterAnswer, element_octets, element_size}
pub use Rattle.der_core.specs.Writer.{Appends, Keeps, Writes, write_outcome}
pub use Rattle.der_core.specs.SliceWriter.{slice_writer_state}
pub use Rattle.der_core.specs.Lawful.{IsLawful}
pub use Rattle.der_core.specs.DerOrd.{Compared}
