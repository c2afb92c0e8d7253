use Rattle.std.proofs.Common.{inl, subst, rules}
use Rattle.std.proofs.lemmas.Result.{err_from_is_err_and}
use Rattle.der_base.specs.declared.length.Length.{Length}
use Rattle.der.specs.BytesOwned.{owned_octets}
use Rattle.der.specs.Joining.{RefusesJoining}
use Rattle.der.specs.Parts.{no_segments}
use Rattle.der.proofs.PartsLemmas.{joined_made, not_refused}
use Rattle.der.proofs.bytes.owned.BytesOwned.decode_value_parts.Goals as goal

pub returns-in_err-octets-clause-exact : goal.returns-in_err-octets-clause-exact
returns-in_err-octets-clause-exact g c =
    let p = err_from_is_err_and c.from_residual.result c.from_residual.ensures.1 in
    rw (p.1, p.2) (λ reliable. no_segments (record { bit = search rules; ber = search rules })
    (subst (λ (l : Length). RefusesJoining l c.args.inner_tag (g.R.Reader.state c.args.reader.now)
    c.in_err-octets.field-0.0 (g.R.Reader.state c.read_constructed_vec.new.reader))
    c.length-then-is_ber.ensures (c.in_err-octets.ensures.exact reliable)))

pub returns-then-is_ber-clause-complete : goal.returns-then-is_ber-clause-complete
returns-then-is_ber-clause-complete g c out reliable working segments joined =
    inl (joined_made owned_octets c.from_vec.result c.from_vec.ensures.exact c.in_ok-octets.ensures.ok (g.met.R.Reader.sound_state c.args.reader.now))

pub returns-then-is_ber-clause-exact : goal.returns-then-is_ber-clause-exact
returns-then-is_ber-clause-exact g c reliable =
    not_refused _ c.from_vec.result (joined_made owned_octets c.from_vec.result c.from_vec.ensures.exact c.in_ok-octets.ensures.ok (g.met.R.Reader.sound_state c.args.reader.now))
