use Rattle.std.proofs.Common.{◌≡◌, true, false, refl, sym, ◌∙◌, arith}
use Rattle.der_c_values.specs.OidFromText.{too_large, no_text}
use Rattle.der_c_values.proofs.OidFromTextLemmas.{arcs_continue, no_arc, no_push, too_few, whole_dotted, whole_encoded}
use Rattle.der_c_values.proofs.oid_from_text.contents_of.Goals as goal

pub returns-in_default-clause-refused : goal.returns-in_default-clause-refused
returns-in_default-clause-refused c = no_text (no_arc c.arcs.invariant (omega (arith, c.arcs-test.true)) c.in_default.ensures) refl

pub returns-then-not-push-clause-refused : goal.returns-then-not-push-clause-refused
returns-then-not-push-clause-refused c =
    let arc = c.in-Some.ensures in
    let r = c.arcs.invariant in
    no_text (no_push r arc.0 c.in-Some.arc.end (omega (arith, c.arcs-test.true)) arc.3 (c.if-not-push.ensures r.arcs arc.0 r.holds arc.1)) refl

pub arcs-preserved : goal.arcs-preserved
arcs-preserved c =
    let arc = c.in-Some.ensures in
    let r = c.arcs.invariant in
    arcs_continue r arc.0 c.in-Some.arc.end arc.2 arc.3 (c.if-not-push.ensures r.arcs arc.0 r.holds arc.1)

pub returns-then-not-is_whole-clause-refused : goal.returns-then-not-is_whole-clause-refused
returns-then-not-is_whole-clause-refused c =
    let r = c.arcs.invariant in
    no_text (too_few r (omega (arith, c.arcs-test.false)) (λ are. absurd (let no : true ≡ false = sym ((c.is_whole.ensures r.arcs r.holds).1 are) ∙ c.if-not-is_whole.true in cc))) refl

pub returns-then-not-fits-clause-refused : goal.returns-then-not-fits-clause-refused
returns-then-not-fits-clause-refused c =
    let r = c.arcs.invariant in
    too_large r.arcs (whole_dotted r (omega (arith, c.arcs-test.false)) ((c.is_whole.ensures r.arcs r.holds).0 c.if-not-is_whole.false)) (r.holds.large (sym c.fits.ensures ∙ c.if-not-fits.true)) refl

pub returns-clause-ok : goal.returns-clause-ok
returns-clause-ok c =
    let r = c.arcs.invariant in
    whole_encoded r (omega (arith, c.arcs-test.false)) ((c.is_whole.ensures r.arcs r.holds).0 c.if-not-is_whole.false) _ (r.holds.fit (sym c.fits.ensures ∙ c.if-not-fits.false))
