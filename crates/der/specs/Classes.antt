-- Classes of tags (X.690 8.1.2.2, table 1).
pub use Rattle.der_base.specs.declared.tag.class.Class.{Class}
pub use Rattle.der_base.specs.declared.tag.class.Class.TheVariants.{Universal, Application}
pub use Rattle.der_base.specs.declared.tag.class.Class.TheVariants.{ContextSpecific, Private}
