use Rattle.std.proofs.Common.{rules, ◌≡◌, ℕ, ◌<◌, ◌+◌, List, [], ◌∷◌, ◌++◌, length, get_or, take, sym, ap, ◌∙◌, append-nil}
use Rattle.std.proofs.Output.{has_written_append, has_written_of_eq}
use Rattle.std.proofs.lemmas.List.{take_more}
use Rattle.std.proofs.lemmas.Str.{encodes-append}
use Rattle.std.specs.Char.{encode_utf8}
use Rattle.std.specs.Str.{encode_utf8_all}
use Rattle.x509.proofs.text.latin1.Latin1Display.fmt.Goals as goal

-- one more character
encodes-more : (s : List ℕ) (i : ℕ) → i < length s → encode_utf8_all (take i s) ++ encode_utf8 (get_or s i 0) ≡ encode_utf8_all (take (i + 1) s)
encodes-more s i below =
    ap (λ x. encode_utf8_all (take i s) ++ x) (sym (append-nil (encode_utf8 (get_or s i 0)))) ∙ sym (encodes-append (take i s) (get_or s i 0 ∷ [])) ∙ ap encode_utf8_all (sym (take_more s i 0 below))

pub loop-octet-preserved : goal.loop-octet-preserved
loop-octet-preserved g c =
    λ plain.
    has_written_of_eq _ _ _ _ _ (encodes-more c.args.self.now.octets.now c.loop-octet.octet-index c.loop-octet-test.true)
    (has_written_append _ _ _ _ _ _ (c.loop-octet.invariant plain) (search rules))
