use Rattle.std.proofs.lemmas.Str.{is_utf8-from_IsUtf8}
use Rattle.der_asn1.proofs.strings.utf8_string.Checked+Utf8StringGrammar.from_text.Goals as goal

pub formed-requires : goal.formed-requires
formed-requires c = is_utf8-from_IsUtf8 c.as_bytes.result.now c.as_bytes.ensures.utf8
