use Rattle.std.proofs.Common.{◌≡◌, length, refl, rules}
use Rattle.std.proofs.lemmas.Str.{chars_from_encodes, is_utf8-from_IsUtf8}
use Rattle.std.specs.Str.{chars}
use Rattle.der.proofs.OctetLemmas.{is_utf8_false}
use Rattle.schema_rules.proofs.size.character_count.Goals as goal

pub returns-in-Ok : goal.returns-in-Ok
returns-in-Ok c =
    let counted : c.count.result ≡ length (chars c.args.contents.now) = search (rules, chars_from_encodes) in
    rw (is_utf8-from_IsUtf8 c.args.contents.now c.in-Ok.ensures.cases.1) counted

pub returns-in-Err : goal.returns-in-Err
returns-in-Err c = rw (is_utf8_false c.args.contents.now c.in-Err.ensures.cases.0) refl
