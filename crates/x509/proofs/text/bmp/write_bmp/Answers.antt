use Rattle.std.proofs.Common.{rules, ◌≡◌, ◌+◌, ◌*◌, true, false, ℕ, Bool, List, [], ◌∷◌, ◌++◌, sym, ap, subst, ◌∙◌, append-nil, append_assoc}
use Rattle.std.proofs.Output.{has_written_append, has_written_of_eq}
use Rattle.std.proofs.lemmas.Str.{encodes-append}
use Rattle.std.specs.Char.{encode_utf8}
use Rattle.std.specs.Prelude.{if◌then◌else◌}
use Rattle.std.specs.Str.{encode_utf8_all}
use Rattle.der_asn1.specs.Alphabets.{bmp_form, is_surrogate, ends_codes}
use Rattle.x509.specs.Text.{bmp_characters}
use Rattle.x509.proofs.text.bmp.write_bmp.Goals as goal

-- the codes after the first
other_codes : (h l : ℕ) (os : List ℕ) → bmp_form (h ∷ l ∷ os) ≡ true → bmp_form os ≡ true
other_codes h l os e = go (is_surrogate h) e
  where
    go : (b : Bool) → (if b then false else ends_codes true os) ≡ true → bmp_form os ≡ true
    go true f = absurd (let no : false ≡ true = f in cc)
    go false f = f

-- one more character
one_more : (w : List ℕ) (c : ℕ) → encode_utf8_all w ++ encode_utf8 c ≡ encode_utf8_all (w ++ c ∷ [])
one_more w c = ap (λ x. encode_utf8_all w ++ x) (sym (append-nil (encode_utf8 c))) ∙ sym (encodes-append w (c ∷ []))

moved : (w : List ℕ) (c h l : ℕ) (rest os all : List ℕ) → rest ≡ h ∷ l ∷ os → c ≡ 256 * h + l → w ++ bmp_characters rest ≡ all → (w ++ c ∷ []) ++ bmp_characters os ≡ all
moved w c h l rest os all e code i =
    append_assoc w (c ∷ []) (bmp_characters os) ∙ ap (λ x. w ++ (x ∷ bmp_characters os)) code ∙ ap (λ x. w ++ bmp_characters x) (sym e) ∙ i

pub codes-preserved : goal.codes-preserved
codes-preserved g c =
    let e = c.in-Some.ensures.some in
    let i = c.codes.invariant in
    let ch = c.bmp_character.result in (
      other_codes c.in-Some.high c.in-Some.low c.in-Some.after.now (subst (λ x. bmp_form x ≡ true) e i.0),
      (
        i.1.0 ++ ch ∷ [],
        moved i.1.0 ch c.in-Some.high c.in-Some.low c.codes.rest.now c.in-Some.after.now (bmp_characters c.args.string.now.octets.now) e c.bmp_character.ensures i.1.1,
        λ plain. has_written_of_eq _ _ _ _ _ (one_more i.1.0 ch) (has_written_append _ _ _ _ _ _ (i.1.2 plain) (search rules)),
      ),
    )
