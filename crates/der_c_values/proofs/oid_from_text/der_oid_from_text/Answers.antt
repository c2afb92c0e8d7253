use Rattle.std.proofs.Common.{◌++◌, length, drop, refl, sym, ap, subst}
use Rattle.der_c_values.specs.OidFromText.{IsEncoded, encoded, no_space, refused}
use Rattle.der_c_values.proofs.oid_from_text.der_oid_from_text.Goals as goal

pub returns-then-octets-oid : goal.returns-then-octets-oid
returns-then-octets-oid c =
    let is = c.as_slice-octets.ensures in
    no_space c.as_slice-octets.result.now (subst (IsEncoded c.args.text.now) (sym is) c.in-Ok.ensures.ok) c.if-octets-oid.true refl refl refl

pub returns : goal.returns
returns c =
    let is = c.as_slice-octets.ensures in
    encoded c.as_slice-octets.result.now (subst (IsEncoded c.args.text.now) (sym is) c.in-Ok.ensures.ok) refl refl
    (ap (λ x. x ++ drop (length c.as_slice-octets.result.now) c.args.oid.now) c.copy_from_slice.ensures.after)

pub returns-in-Err : goal.returns-in-Err
returns-in-Err c = refused c.in-Err.ensures.refused refl refl
