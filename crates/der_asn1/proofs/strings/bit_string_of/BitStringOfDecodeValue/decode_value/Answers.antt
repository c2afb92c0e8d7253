use Rattle.std.proofs.Common.{Ok, Result}
use Rattle.std.proofs.lemmas.Result.{err_from_is_err_and}
use Rattle.der.specs.Prelude.{FieldsRead, ReaderState}
use Rattle.der_asn1.specs.declared.strings.no_unused_bits.NoUnusedBits.{NoUnusedBits}
use Rattle.der_asn1.specs.declared.strings.no_unused_bits.NoUnusedBits.TheVariants.{Zero}
use Rattle.der_asn1.proofs.strings.bit_string_of.BitStringOfDecodeValue.decode_value.Goals as goal

-- the number of unused bits can only be zero
zero_read : {B E : Type 0} {first : ReaderState → Result NoUnusedBits E → ReaderState → Type 0} {second : ReaderState → Result B E → ReaderState → Type 0} {s t : ReaderState} {b : B} (n : NoUnusedBits)
    → FieldsRead first second s (Ok (n, b)) t → FieldsRead first second s (Ok (Zero, b)) t
zero_read Zero h = h

pub returns-in_err-value-clause-complete : goal.returns-in_err-value-clause-complete
returns-in_err-value-clause-complete g c v =
    let p = err_from_is_err_and c.from_residual.result c.from_residual.ensures.1 in
    rw (p.1, p.2) (c.in_err-value.ensures.complete (Zero, v.0))

pub returns-in_err-value-clause-exact : goal.returns-in_err-value-clause-exact
returns-in_err-value-clause-exact g c =
    let p = err_from_is_err_and c.from_residual.result c.from_residual.ensures.1 in
    rw (p.1, p.2) c.in_err-value.ensures.exact

pub returns-clause-complete : goal.returns-clause-complete
returns-clause-complete g c v = c.in_ok-value.ensures.complete (Zero, v.0)

pub returns-clause-exact : goal.returns-clause-exact
returns-clause-exact g c reliable = zero_read c.in_ok-value.field-0-0 (c.in_ok-value.ensures.exact reliable)
