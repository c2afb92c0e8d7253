-- Tag classes (X.690 8.1.2.2, table 1) and their `class_number`.
use Rattle.std.specs.Prelude.{ℕ}
use Rattle.der_base.specs.declared.tag.class.Class.{Class}
use Rattle.der_base.specs.declared.tag.class.Class.TheVariants.{Universal, Application, ContextSpecific, Private}

-- the class as a number, as in bits 8 and 7 of the identifier
abbrev pub class_number : Class → ℕ
class_number Universal = 0
class_number Application = 1
class_number ContextSpecific = 2
class_number Private = 3
