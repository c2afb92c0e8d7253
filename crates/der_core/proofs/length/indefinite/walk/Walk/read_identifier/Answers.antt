use Rattle.std.proofs.Common.{arith, refl, sym, ◌≡◌, true, false, ◌∙◌}
use Rattle.der_core.specs.AfterFirstOctet.{RefusesIdentifier}
use Rattle.der_core.specs.Walk.{walk_state}
use Rattle.der_core.proofs.StateLemmas.{reads_none}
use Rattle.der_core.proofs.TagReadLemmas.{found_low, found_high, found_longer, refused_low}
use Rattle.der_core.proofs.WalkLemmas.{error_at_walk}
use Rattle.der_core.proofs.length.indefinite.walk.Walk.read_identifier.Goals as goal

pub returns-then-not-is_ber_identifier-clause-exact : goal.returns-then-not-is_ber_identifier-clause-exact
returns-then-not-is_ber_identifier-clause-exact c =
    let reported = c.error.ensures in
    let kind = c.unknown.ensures in
    error_at_walk (RefusesIdentifier c.args.first) c.args.self.now (reads_none (walk_state c.args.self.now))
    (refused_low c.if-first-lt64.true (λ known. (let no : false ≡ true = sym c.if-not-is_ber_identifier.true ∙ c.is_ber_identifier.ensures.1 known in cc)) (cc) refl)

pub returns-then-first-lt64-clause-ok : goal.returns-then-first-lt64-clause-ok
returns-then-first-lt64-clause-ok c = found_low (walk_state c.args.self.now) c.args.first 0 refl c.if-first-lt64.true (c.is_ber_identifier.ensures.0 c.if-not-is_ber_identifier.false)

pub returns-then-low-lt31-clause-ok : goal.returns-then-low-lt31-clause-ok
returns-then-low-lt31-clause-ok c = found_high (walk_state c.args.self.now) c.args.first c.if-first-lt64.false (omega arith) c.if-low-lt31.true

pub returns-clause-ok : goal.returns-clause-ok
returns-clause-ok c = found_longer (walk_state c.args.self.now) (walk_state c.read_long_number.new.self) c.args.first c.read_long_number.result c.if-first-lt64.false (omega arith) (omega arith) c.read_long_number.ensures.ok
