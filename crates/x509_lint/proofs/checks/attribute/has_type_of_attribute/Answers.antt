use Rattle.std.proofs.Common.{◌≡◌, true, inl, inr, length, slice_index_or, sym, ap, subst, ◌∙◌, arith}
use Rattle.x509_lint.proofs.AttributeLemmas.{id_at_octets}
use Rattle.x509_lint.specs.AttributeChecks.{allows_tag, id_at}
use Rattle.x509_lint.proofs.checks.attribute.has_type_of_attribute.Goals as goal

pub returns-in-Some : goal.returns-in-Some
returns-in-Some c =
    let v = c.args.attribute.now in
    let small = c.in-Some.ensures.some.0 in
    let id : v.oid.octets.now ≡ id_at c.in-Some.arc = sym c.octets-id.ensures.value ∙ c.in-Some.ensures.some.1 in
    let octets = id ∙ id_at_octets c.in-Some.arc small in (
      λ e. (
        λ n h is. (
            let third : c.in-Some.arc ≡ n = ap (λ l. slice_index_or l 2 0) (sym octets ∙ is ∙ id_at_octets n h) in
            subst (λ k. allows_tag k v.value.tag ≡ true) third (sym c.allows_tag.ensures ∙ e)),
        λ other. absurd (elim other [
          | inl is ↦ (let long : 3 ≡ 9 = ap length (sym octets ∙ is) in omega (arith, long))
          | inr is ↦ (let long : 3 ≡ 10 = ap length (sym octets ∙ is) in omega (arith, long))
        ]),
      ),
      λ held. c.allows_tag.ensures ∙ held.0 c.in-Some.arc small id,
    )
