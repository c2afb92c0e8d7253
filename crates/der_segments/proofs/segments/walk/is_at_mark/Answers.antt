use Rattle.std.proofs.Common.{◌≡◌, ◌∷◌, ap, ◌∙◌, arith}
use Rattle.std.proofs.lemmas.Bool.Decides.{nat_tests}
use Rattle.der.specs.Prelude.{slice_state}
use Rattle.der_segments.specs.Walk.{before_piece}
use Rattle.der_segments.proofs.WalkLemmas.{octet_seen}
use Rattle.der_segments.proofs.segments.walk.is_at_mark.Goals as goal

pub returns-in-Some-clause-piece : goal.returns-in-Some-clause-piece
returns-in-Some-clause-piece c test =
    let seen = octet_seen (slice_state c.args.reader.now) c.requires c.in-Some.ensures in
    let same : c.in-Some.octet ≡ 4 = grind (arith, nat_tests, test) in
    before_piece seen.0 (seen.1 ∙ ap (λ x. x ∷ seen.0) same)
