-- How a type is tagged (X.680 31.2).
pub use Rattle.der_base.specs.declared.tag.mode.TagMode.{TagMode}
pub use Rattle.der_base.specs.declared.tag.mode.TagMode.TheVariants.{Explicit, Implicit}
