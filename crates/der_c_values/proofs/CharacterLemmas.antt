-- The first character of a text.
use Rattle.std.proofs.Common.{◌≡◌, ℕ, ◌+◌, arith, Option, Some, None, List, ◌++◌, drop, sym, ap, ◌∙◌, IfSome}
use Rattle.std.proofs.lemmas.Str.{drop_past_char}
use Rattle.std.specs.Prelude.{encode_utf8}
use Rattle.std.specs.Char.{len_utf8}
use Rattle.std.specs.Option.{MatchOption}

-- octets that begin with a character are its octets and those after them
pub first_spelled : (A : Type 0) (r : Option ℕ) (text octets rest : List ℕ) → text ≡ octets → MatchOption r A (λ c. text ≡ encode_utf8 c ++ rest)
    → IfSome r (λ c. octets ≡ encode_utf8 c ++ drop (len_utf8 c) octets)
first_spelled A None text octets rest same is = tt
first_spelled A (Some c) text octets rest same is =
    let begins : octets ≡ encode_utf8 c ++ rest = sym same ∙ is in
    let after : drop (len_utf8 c) octets ≡ rest = (let e : 0 + len_utf8 c ≡ len_utf8 c = omega arith in ap (λ n. drop n octets) (sym e) ∙ drop_past_char octets rest 0 c begins) in
    begins ∙ ap (λ x. encode_utf8 c ++ x) (sym after)
