use Rattle.std.proofs.Common.{refl}
use Rattle.std.proofs.lemmas.Str.{is_utf8-from_IsUtf8}
use Rattle.der.proofs.OctetLemmas.{is_utf8_false}
use Rattle.schema_rules.proofs.codes.Codes.of.Goals as goal

pub returns-in-Ok : goal.returns-in-Ok
returns-in-Ok c = rw (c.in-Utf8String.is, is_utf8-from_IsUtf8 c.args.contents.now c.in-Ok.ensures.cases.1, ← c.in-Ok.ensures.cases.0) refl

pub returns-in-Err : goal.returns-in-Err
returns-in-Err c = rw (c.in-Utf8String.is, is_utf8_false c.args.contents.now c.in-Err.ensures.cases.0) refl
