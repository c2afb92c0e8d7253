use Rattle.std.proofs.lemmas.Str.{is_utf8-from_IsUtf8}
use Rattle.der.proofs.string.reference.StringRef.counted.Goals as goal

pub invariant_of-result : goal.invariant_of-result
invariant_of-result c =
    record { utf8 = is_utf8-from_IsUtf8 c.args.text.now c.utf8.text; counted = c.requires }
