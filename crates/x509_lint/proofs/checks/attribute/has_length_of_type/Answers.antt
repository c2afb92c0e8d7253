use Rattle.std.proofs.Common.{◌≡◌, length, slice_index_or, sym, ap, subst, ◌∙◌, arith}
use Rattle.der_asn1.specs.AnyRef.{any_contents}
use Rattle.x509_lint.proofs.AttributeLemmas.{id_at_octets}
use Rattle.x509_lint.specs.AttributeChecks.{IsWithin, bounds_of, character_count, id_at}
use Rattle.x509_lint.proofs.checks.attribute.has_length_of_type.Goals as goal

pub returns-in-Some : goal.returns-in-Some
returns-in-Some c =
    let v = c.args.attribute.now in
    let small = c.in-Some.ensures.some.0 in
    let id : v.oid.octets.now ≡ id_at c.in-Some.arc = sym c.octets-id.ensures.value ∙ c.in-Some.ensures.some.1 in
    let octets = id ∙ id_at_octets c.in-Some.arc small in
    let count = c.character_count-count.ensures in (
      λ e. (
        λ n h is. (
            let third : c.in-Some.arc ≡ n = ap (λ l. slice_index_or l 2 0) (sym octets ∙ is ∙ id_at_octets n h) in
            subst (λ k. IsWithin (bounds_of k) (character_count v.value.tag (any_contents v.value))) third
            (subst (λ k. IsWithin (bounds_of c.in-Some.arc) k) count (subst (λ b. IsWithin b c.character_count-count.result) c.bounds_of.ensures (c.is_within.ensures.0 e)))),
        λ is. absurd (let long : 3 ≡ 9 = ap length (sym octets ∙ is) in omega (arith, long)),
      ),
      λ held. c.is_within.ensures.1 (subst (λ b. IsWithin b c.character_count-count.result) (sym c.bounds_of.ensures)
          (subst (λ k. IsWithin (bounds_of c.in-Some.arc) k) (sym count) (held.0 c.in-Some.arc small id))),
    )
