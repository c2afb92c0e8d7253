use Rattle.std.proofs.Common.{Ok, Err, List, ℕ, ◌<◌, ◌^◌, length, refl, sym, ap, subst, ◌∙◌, inl}
use Rattle.std.proofs.lemmas.Result.{err_from_is_err_and}
use Rattle.der.specs.Outcome.{Gives}
use Rattle.der.specs.Reader.{read_slice_outcome}
use Rattle.der_asn1.specs.Additions.{AreAdditions, any_octets}
use Rattle.der_asn1.specs.AnyRef.{IsAny}
use Rattle.der_asn1.specs.UnknownWalk.{IsUnknownFront, additions_failed, additions_refused, additions_read}
use Rattle.der_asn1.proofs.AdditionsLemmas.{counted_in, front_refused, slice_is_front, slice_passed, slice_short, slice_there}
use Rattle.der_asn1.proofs.UnknownLemmas.{lacks}
use Rattle.der_asn1.proofs.fields.additions.AdditionsDecode.decode.Goals as goal

pub returns-in_err-part-clause-exact : goal.returns-in_err-part-clause-exact
returns-in_err-part-clause-exact g c reliable =
    let p = err_from_is_err_and c.from_residual.result c.from_residual.ensures.1 in
    rw (p.1, p.2) (additions_failed c.in_err-part.field-0.0 (c.in_err-part.ensures.exact reliable) refl refl)

pub returns-in_err-len-clause-complete : goal.returns-in_err-len-clause-complete
returns-in_err-len-clause-complete g c v m reliable working next deep =
    absurd (front_refused g.K.KnownTags.known (λ w. w.octets.now) v (g.R.Reader.state c.args.reader.now) lacks {e = c.in_err-len.field-0.0} next
    (λ front f. c.in_err-len.ensures.complete front reliable (subst (λ x. IsUnknownFront g.K.KnownTags.known IsAny any_octets x front) (sym c.in_ok-part.ensures.ok.rest) f)))

pub returns-in_err-len-clause-exact : goal.returns-in_err-len-clause-exact
returns-in_err-len-clause-exact g c reliable =
    let p = err_from_is_err_and c.from_residual-in_err-len.result c.from_residual-in_err-len.ensures.1 in
    rw (p.1, p.2) (additions_refused c.in_err-len.field-0.0 (counted_in g.K.KnownTags.known (Err c.in_err-len.field-0.0) c.in_ok-part.ensures.ok (c.in_err-len.ensures.exact reliable)) refl refl)

pub invariant_of-result : goal.invariant_of-result
invariant_of-result g c =
    let n = c.in_ok-len.ensures.ok in
    let f = subst (λ x. IsUnknownFront g.K.KnownTags.known IsAny any_octets x n.0) c.in_ok-part.ensures.ok.rest n.1 in
    record {
      short = slice_short g.K.KnownTags.known (λ (w : List ℕ). w) c.in_ok-len.len n.0 f n.2 c.in_ok-octets.ensures.exact (subst (λ x. length x < 2 ^ 32) c.in_ok-part.ensures.ok.rest c.in_ok-part.ensures.ok.short);
      checked = ∣ subst (AreAdditions g.K.KnownTags.known) (sym (slice_is_front g.K.KnownTags.known (λ (w : List ℕ). w) c.in_ok-len.len n.0 f n.2 c.in_ok-octets.ensures.exact)) f.are ∣₁;
    }

pub returns-clause-ok : goal.returns-clause-ok
returns-clause-ok g c working still =
    let n = c.in_ok-len.ensures.ok in
    let f = subst (λ x. IsUnknownFront g.K.KnownTags.known IsAny any_octets x n.0) c.in_ok-part.ensures.ok.rest n.1 in
    slice_passed g.K.KnownTags.known (λ w. w.octets.now) c.in_ok-len.len n.0 f n.2 c.in_ok-octets.ensures.exact _ refl
    (slice_short g.K.KnownTags.known (λ (w : List ℕ). w) c.in_ok-len.len n.0 f n.2 c.in_ok-octets.ensures.exact (subst (λ x. length x < 2 ^ 32) c.in_ok-part.ensures.ok.rest c.in_ok-part.ensures.ok.short))

pub returns-clause-complete : goal.returns-clause-complete
returns-clause-complete g c v m reliable working next deep =
    let n = c.in_ok-len.ensures.ok in
    let f = subst (λ x. IsUnknownFront g.K.KnownTags.known IsAny any_octets x n.0) c.in_ok-part.ensures.ok.rest n.1 in
    inl (refl, slice_there g.K.KnownTags.known (λ w. w.octets.now) c.in_ok-len.len n.0 f n.2 c.in_ok-octets.ensures.exact v next)

pub returns-clause-exact : goal.returns-clause-exact
returns-clause-exact g c reliable =
    let n = c.in_ok-len.ensures.ok in
    let f = subst (λ x. IsUnknownFront g.K.KnownTags.known IsAny any_octets x n.0) c.in_ok-part.ensures.ok.rest n.1 in
    additions_read _ (counted_in g.K.KnownTags.known (Ok tt) c.in_ok-part.ensures.ok (c.in_ok-len.ensures.exact reliable))
    (subst (λ k. Gives (read_slice_outcome k) (g.R.Reader.state c.args.reader.now) (Ok c.in_ok-octets.octets.now) (g.R.Reader.state c.read_slice.new.self)) (n.2 ∙ ap length (sym (slice_is_front g.K.KnownTags.known (λ (w : List ℕ). w) c.in_ok-len.len n.0 f n.2 c.in_ok-octets.ensures.exact))) c.in_ok-octets.ensures.exact) refl
