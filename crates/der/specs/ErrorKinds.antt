-- Kinds of errors.
pub use Rattle.der_base.specs.declared.error.ErrorKind.{ErrorKind}
pub use Rattle.der_base.specs.declared.error.ErrorKind.TheVariants.{DateTime, EncodingRules, Failed}
pub use Rattle.der_base.specs.declared.error.ErrorKind.TheVariants.{Incomplete, IndefiniteLength}
pub use Rattle.der_base.specs.declared.error.ErrorKind.TheVariants.{Length, NestingDepth}
pub use Rattle.der_base.specs.declared.error.ErrorKind.TheVariants.{Noncanonical, OidMalformed}
pub use Rattle.der_base.specs.declared.error.ErrorKind.TheVariants.{SetDuplicate, SetOrdering}
pub use Rattle.der_base.specs.declared.error.ErrorKind.TheVariants.{Overflow, Overlength, Reader}
pub use Rattle.der_base.specs.declared.error.ErrorKind.TheVariants.{TagModeUnknown}
pub use Rattle.der_base.specs.declared.error.ErrorKind.TheVariants.{TagNumberInvalid, TagUnexpected}
pub use Rattle.der_base.specs.declared.error.ErrorKind.TheVariants.{TagUnknown, TrailingData, Utf8}
pub use Rattle.der_base.specs.declared.error.ErrorKind.TheVariants.{Value, OutOfMemory}
