use Rattle.std.proofs.Common.{List, ℕ, subst, sym}
use Rattle.std.specs.Str.{IsUtf8}
use Rattle.std.proofs.lemmas.Str.{IsUtf8-from_is_utf8}
use Rattle.schema_types.specs.Pool.{octets_of}
use Rattle.schema_types.proofs.pool.text_of.Goals as goal

pub from_utf8_unchecked-requires : goal.from_utf8_unchecked-requires
from_utf8_unchecked-requires c =
    subst (λ (s : List ℕ). IsUtf8 s) (sym c.octets_of.ensures) (IsUtf8-from_is_utf8 (octets_of c.args.pool.now c.args.span) c.requires.1)
