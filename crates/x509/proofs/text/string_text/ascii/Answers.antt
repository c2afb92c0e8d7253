use Rattle.std.proofs.Common.{sym, ◌∙◌}
use Rattle.std.proofs.lemmas.Str.{IsUtf8-from_ascii, encodes-IsAscii}
use Rattle.x509.proofs.text.string_text.ascii.Goals as goal

pub unreachable-requires : goal.unreachable-requires
unreachable-requires c = c.in-Err.ensures.cases.0 (IsUtf8-from_ascii c.args.octets.now c.if-not-is_ascii.ensures.cases)

pub returns-clause-some : goal.returns-clause-some
returns-clause-some c = c.in-Ok.ensures.cases.0 ∙ sym (encodes-IsAscii c.args.octets.now c.if-not-is_ascii.ensures.cases)
