use Rattle.std.proofs.Common.{◌≡◌, [], ◌∷◌, ◌++◌, refl, sym, ap, ◌∙◌, length, length-append, arith}
use Rattle.der_asn1.specs.Arcs.{arcs_left, oid_arcs, oid_octets}
use Rattle.der.proofs.DigitLemmas.{same_length_front}
use Rattle.der_c_values.specs.Dotted.{oid_text}
use Rattle.der_c_values.proofs.OidTextLemmas.{arcs_large, whole_text}
use Rattle.der_c_values.proofs.ValueLemmas.{not_true}
use Rattle.der_c_values.proofs.oid_is.der_oid_is.Goals as goal

pub returns-in-Some : goal.returns-in-Some
returns-in-Some c =
    let arcs = c.arcs.result in
    let form = c.in-Some.ensures.some.0 refl in
    let same : arcs_left arcs ≡ oid_arcs c.args.oid.now = c.arcs.ensures.arcs ∙ ap oid_arcs c.in-Some.ensures.same in
    let back : oid_octets (arcs_left arcs) ≡ c.args.oid.now = c.arcs.ensures.octets ∙ c.in-Some.ensures.same in
    record {
      is = λ yes.
          let both = c.are_arcs.ensures.is yes in
          let whole : c.args.text.now ++ 46 ∷ [] ≡ oid_text c.args.oid.now ++ 46 ∷ [] = sym both.1 ∙ whole_text arcs c.args.oid.now form same back both.0 in
          let size : length c.args.text.now ≡ length (oid_text c.args.oid.now) =
          omega (arith, ap length whole, length-append c.args.text.now (46 ∷ []), length-append (oid_text c.args.oid.now) (46 ∷ [])) in
          (form, (same_length_front c.args.text.now (oid_text c.args.oid.now) (46 ∷ []) (46 ∷ []) size whole).0);
      is_not = λ no known text.
          arcs_large arcs c.args.oid.now same (not_true (λ fit.
          absurd (c.are_arcs.ensures.is_not no fit (whole_text arcs c.args.oid.now form same back fit ∙ ap (λ x. x ++ 46 ∷ []) (sym text)))));
    }
