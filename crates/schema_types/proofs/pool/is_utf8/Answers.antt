use Rattle.std.proofs.Common.{◌≡◌, ◌∙◌, ℕ, List, Result, Ok, Err, MatchResult, is_ok, sym}
use Rattle.std.specs.Str.{is_utf8, IsUtf8}
use Rattle.std.proofs.lemmas.Str.{is_utf8-from_IsUtf8}
use Rattle.schema_types.proofs.TestLemmas.{is_utf8_false}
use Rattle.schema_types.proofs.pool.is_utf8.Goals as goal

tells : {T E : Type 0} (S : T → Type 0) (F : E → Type 0) (octets : List ℕ) (r : Result T E)
    → MatchResult r (λ s. S s × IsUtf8 octets) (λ e. (IsUtf8 octets → ⊥) × F e)
    → is_ok r ≡ is_utf8 octets
tells S F octets (Ok s) (_, is) = sym (is_utf8-from_IsUtf8 octets is)
tells S F octets (Err e) (isnt, _) = sym (is_utf8_false octets isnt)

pub returns : goal.returns
returns c = c.is_ok.ensures.value ∙ tells _ _ c.args.octets.now c.from_utf8.result c.from_utf8.ensures.cases
