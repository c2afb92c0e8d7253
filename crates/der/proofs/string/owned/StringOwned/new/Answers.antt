use Rattle.std.proofs.Common.{◌≡◌, true, subst, rules}
use Rattle.std.specs.Str.{is_utf8}
use Rattle.std.proofs.lemmas.Str.{is_utf8-from_IsUtf8}
use Rattle.der.proofs.string.owned.StringOwned.new.Goals as goal

pub invariant_of-result : goal.invariant_of-result
invariant_of-result c =
    record {
      utf8 = subst (λ octets. is_utf8 octets ≡ true) c.as_str.ensures.value
          (is_utf8-from_IsUtf8 c.as_str.result.now c.as_str.utf8);
      counted = search rules;
    }
