use Rattle.std.proofs.Common.{◌∙◌, true, ap, subst}
use Rattle.der_base.specs.Length.{number}
use Rattle.der_core.specs.Scan.{ScansNext}
use Rattle.der_core.specs.Walk.{walked_state}
use Rattle.der_core.proofs.DecodeLemmas.{remaining_ok}
use Rattle.der_core.proofs.WalkLemmas.{scans_rest}
use Rattle.der_core.proofs.length.indefinite.scan_next_body.Goals as goal

pub returns-in-Ok-clause-scans : goal.returns-in-Ok-clause-scans
returns-in-Ok-clause-scans g c =
    let s = g.R.Reader.state c.args.reader.now in
    let borrowed = remaining_ok s (g.R.Borrowed.Octets.octets c.in-Ok.borrowed) c.in-Ok.ensures.ok in
    scans_rest s g.R.Reader.reliable c.scan.result (g.met.R.Reader.sound_state c.args.reader.now) borrowed.0 c.requires.ber
    (subst (λ q. ScansNext true (walked_state q s.position 0) c.scan.result) (c.as_slice.ensures ∙ borrowed.1)
    (subst (λ p. ScansNext true (walked_state c.as_slice.result.now p 0) c.scan.result) (ap number c.position.ensures) c.scan.ensures.scans))
