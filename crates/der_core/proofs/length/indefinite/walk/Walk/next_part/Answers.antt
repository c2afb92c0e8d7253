use Rattle.std.proofs.Common.{arith, Err, refl, subst, [], ◌∷◌}
use Rattle.std.proofs.lemmas.Result.{err_from_is_err_and}
use Rattle.der_base.specs.Length.{definite_length}
use Rattle.der_base.specs.declared.error.ErrorKind.TheVariants.{IndefiniteLength, Length as IncorrectLength}
use Rattle.der_core.specs.ReaderState.{Reads, stopped_state}
use Rattle.der_core.specs.Outcome.{Gives}
use Rattle.der_core.specs.Reader.{drain_outcome}
use Rattle.der_core.specs.Turn.{RefusesPart}
use Rattle.der_core.specs.AfterFirstOctet.{RefusesIdentifier, RefusesLongLength}
use Rattle.der_core.specs.Identifier.{identifier_tag}
use Rattle.der_core.specs.Walk.{walk_state}
use Rattle.der_core.proofs.StateLemmas.{ByteRefused, reads_none, reads_on, error_stops}
use Rattle.der_core.proofs.EocLemmas.{zero_read, zero_cut, other_read}
use Rattle.der_core.proofs.TurnLemmas.{identifier_passed, length_passed, part_nothing, token_eoc, token_invalid_eoc, part_refused, part_no_length, part_primitive, part_too_deep, part_opens, part_wrong_length, part_short, part_passes}
use Rattle.der_core.proofs.WalkLemmas.{walk_sound, missing_octet_error, truncated_contents_error, error_after_read, error_at_walk}
use Rattle.der_core.proofs.length.indefinite.walk.Walk.next_part.Goals as goal

pub returns-in_err-first-clause-exact : goal.returns-in_err-first-clause-exact
returns-in_err-first-clause-exact c =
    let p = err_from_is_err_and c.from_residual.result c.from_residual.ensures.1 in
    let cut = missing_octet_error c.args.self.now c.in_err-first.ensures.none c.in_err-first.ensures.exact in
    rw (p.1, p.2) (error_after_read ByteRefused (RefusesPart c.args.level) c.args.self.now (reads_none (walk_state c.args.self.now)) cut (λ t refused. part_nothing c.args.level refused))

pub returns-in_err-second-clause-exact : goal.returns-in_err-second-clause-exact
returns-in_err-second-clause-exact c =
    let p = err_from_is_err_and c.from_residual-in_err-second.result c.from_residual-in_err-second.ensures.1 in
    let first = c.in_ok-first.ensures.ok in
    let cut = missing_octet_error c.read_byte.new.self c.in_err-second.ensures.none c.in_err-second.ensures.exact in
    rw (p.1, p.2) (error_after_read ByteRefused (RefusesPart c.args.level) c.read_byte.new.self first cut (λ t refused. token_invalid_eoc c.args.level refl first c.if-first-eq0.true (zero_cut refused)))

pub returns-then-second-ne0-clause-exact : goal.returns-then-second-ne0-clause-exact
returns-then-second-ne0-clause-exact c =
    let first = c.in_ok-first.ensures.ok in
    let second = c.in_ok-second.ensures.ok in
    let s = walk_state c.read_byte-then-first-eq0.new.self in
    let stops = error_stops s (stopped_state s s.position) IndefiniteLength c.error.result c.error.ensures refl in
    error_at_walk (RefusesPart c.args.level) c.read_byte-then-first-eq0.new.self (reads_on first second) (token_invalid_eoc c.args.level refl first c.if-first-eq0.true (other_read c.in_ok-second.second refl second c.if-second-ne0.true stops))

pub returns-then-first-eq0-clause-ok : goal.returns-then-first-eq0-clause-ok
returns-then-first-eq0-clause-ok c =
    let second = subst (λ o. Reads (walk_state c.read_byte.new.self) (walk_state c.read_byte-then-first-eq0.new.self) (o ∷ [])) c.if-second-ne0.false c.in_ok-second.ensures.ok in
    token_eoc c.args.level refl c.in_ok-first.ensures.ok c.if-first-eq0.true (zero_read refl second)

pub returns-in_err-number-clause-exact : goal.returns-in_err-number-clause-exact
returns-in_err-number-clause-exact c =
    let p = err_from_is_err_and c.from_residual-in_err-number.result c.from_residual-in_err-number.ensures.1 in
    let first = c.in_ok-first.ensures.ok in
    rw (p.1, p.2) (error_after_read (RefusesIdentifier c.in_ok-first.first) (RefusesPart c.args.level) c.read_byte.new.self first c.in_err-number.ensures.exact
    (λ t refused. part_refused c.args.level refl first refl c.if-first-eq0.false refused))

pub returns-in_err-octet-clause-exact : goal.returns-in_err-octet-clause-exact
returns-in_err-octet-clause-exact c =
    let p = err_from_is_err_and c.from_residual-in_err-octet.result c.from_residual-in_err-octet.ensures.1 in
    let found = c.in_ok-number.ensures.ok in
    let id = identifier_passed refl refl c.in_ok-first.ensures.ok found.1 found.2 in
    let cut = missing_octet_error c.read_identifier.new.self c.in_err-octet.ensures.none c.in_err-octet.ensures.exact in
    rw (p.1, p.2) (error_after_read ByteRefused (RefusesPart c.args.level) c.read_identifier.new.self id.read cut (λ t refused. part_no_length c.args.level id refused))

pub returns-then-not-has_constructed_bit-clause-exact : goal.returns-then-not-has_constructed_bit-clause-exact
returns-then-not-has_constructed_bit-clause-exact c =
    let found = c.in_ok-number.ensures.ok in
    let id = identifier_passed refl refl c.in_ok-first.ensures.ok found.1 found.2 in
    let octet = c.in_ok-octet.ensures.ok in
    let plain = c.has_constructed_bit.ensures in
    let is = c.if-not-has_constructed_bit.true in
    error_at_walk (RefusesPart c.args.level) c.read_byte-2.new.self (reads_on id.read octet) (part_primitive c.args.level id octet c.if-octet.true (cc) c.error-then-not-has_constructed_bit.ensures refl)

pub returns-then-level-eq-MAX_LEVEL-clause-exact : goal.returns-then-level-eq-MAX_LEVEL-clause-exact
returns-then-level-eq-MAX_LEVEL-clause-exact c =
    let found = c.in_ok-number.ensures.ok in
    let id = identifier_passed refl refl c.in_ok-first.ensures.ok found.1 found.2 in
    let octet = c.in_ok-octet.ensures.ok in
    let bit = c.has_constructed_bit.ensures in
    let is = c.if-not-has_constructed_bit.false in
    error_at_walk (RefusesPart c.args.level) c.read_byte-2.new.self (reads_on id.read octet)
    (part_too_deep c.args.level id octet c.if-octet.true (cc) c.if-level-eq-MAX_LEVEL.true c.error-then-level-eq-MAX_LEVEL.ensures refl)

pub returns-then-octet-clause-ok : goal.returns-then-octet-clause-ok
returns-then-octet-clause-ok c =
    let found = c.in_ok-number.ensures.ok in
    let id = identifier_passed refl refl c.in_ok-first.ensures.ok found.1 found.2 in
    let bit = c.has_constructed_bit.ensures in
    let is = c.if-not-has_constructed_bit.false in
    part_opens c.args.level id c.in_ok-octet.ensures.ok c.if-octet.true (cc) (omega (arith, c.requires.levels))

pub returns-in_err-count-clause-exact : goal.returns-in_err-count-clause-exact
returns-in_err-count-clause-exact c =
    let p = err_from_is_err_and c.from_residual-in_err-count.result c.from_residual-in_err-count.ensures.1 in
    let found = c.in_ok-number.ensures.ok in
    let id = identifier_passed refl refl c.in_ok-first.ensures.ok found.1 found.2 in
    let octet = c.in_ok-octet.ensures.ok in
    rw (p.1, p.2) (error_after_read (RefusesLongLength (IncorrectLength (identifier_tag c.in_ok-first.first c.in_ok-number.number)) c.in_ok-octet.octet) (RefusesPart c.args.level) c.read_byte-2.new.self (reads_on id.read octet) c.in_err-count.ensures.exact
    (λ t refused. part_wrong_length c.args.level id octet refused))

pub returns-in_err-pass-clause-exact : goal.returns-in_err-pass-clause-exact
returns-in_err-pass-clause-exact c =
    let p = err_from_is_err_and c.from_residual-in_err-pass.result c.from_residual-in_err-pass.ensures.1 in
    let found = c.in_ok-number.ensures.ok in
    let id = identifier_passed refl refl c.in_ok-first.ensures.ok found.1 found.2 in
    let count = c.in_ok-count.ensures.ok in
    let following = length_passed id c.in_ok-octet.ensures.ok count.1 count.2 count.3 in
    let walk = c.read_definite.new.self in
    rw (p.1, p.2) (error_after_read (λ s e t. Gives (drain_outcome (definite_length c.in_ok-count.count)) s (Err e) t) (RefusesPart c.args.level) walk following.read (truncated_contents_error walk c.in_ok-count.count c.in_err-pass.ensures.exact)
    (λ t refused. part_short c.args.level following refl (walk_sound walk) refused))

pub returns-clause-ok : goal.returns-clause-ok
returns-clause-ok c =
    let found = c.in_ok-number.ensures.ok in
    let id = identifier_passed refl refl c.in_ok-first.ensures.ok found.1 found.2 in
    let count = c.in_ok-count.ensures.ok in
    let following = length_passed id c.in_ok-octet.ensures.ok count.1 count.2 count.3 in
    part_passes c.args.level following refl c.requires.levels (walk_sound c.read_definite.new.self) c.in_ok-pass.ensures.ok
