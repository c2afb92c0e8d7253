use Rattle.std.proofs.Common.{rules, ap, ◌∙◌, w64}
use Rattle.std.proofs.lemmas.Int.{to_z-of_z}
use Rattle.der_asn1.specs.Integer.{signed_octets}
use Rattle.der_c_values.proofs.write_value.der_write_int64.Goals as goal

pub returns-clause-writes : goal.returns-clause-writes
returns-clause-writes c = rw (c.as_slice.ensures ∙ c.to_contents.ensures.octets ∙ ap signed_octets (to_z-of_z w64 c.args.value (search rules))) at c.der_write_element.ensures.writes
