use Rattle.std.proofs.Common.{ap, ◌∙◌}
use Rattle.std.proofs.lemmas.Str.{is_utf8-from_IsUtf8}
use Rattle.der_base.specs.Error.{error_of_kind}
use Rattle.der_base.specs.declared.error.ErrorKind.TheVariants.{Utf8 as NotUtf8}
use Rattle.der.proofs.OctetLemmas.{is_utf8_false, utf8_fault_is}
use Rattle.der.proofs.string.text_of.Goals as goal

pub returns-in-Ok-clause-ok : goal.returns-in-Ok-clause-ok
returns-in-Ok-clause-ok c =
    (c.in-Ok.ensures.cases.0, is_utf8-from_IsUtf8 c.args.bytes.now c.in-Ok.ensures.cases.1)

pub returns-in-Err-clause-refused : goal.returns-in-Err-clause-refused
returns-in-Err-clause-refused c = (
  is_utf8_false c.args.bytes.now c.in-Err.ensures.cases.0,
  c.from.ensures ∙ ap (λ fault. error_of_kind (NotUtf8 fault))
      (utf8_fault_is c.args.bytes.now c.in-Err.fault c.in-Err.ensures.valid_len c.in-Err.ensures.fault),
)
