-- Forms of encodings (X.690 8.1.2.5).
use Rattle.std.specs.Prelude.{Bool, true, not}
use Rattle.ber.specs.declared.form.Form.{Form}
use Rattle.ber.specs.declared.form.Form.TheVariants.{Primitive, Constructed, Either}

-- whether an encoding of this form may have this constructed bit
abbrev pub allows : Form → Bool → Bool
allows Primitive constructed = not constructed
allows Constructed constructed = constructed
allows Either constructed = true
