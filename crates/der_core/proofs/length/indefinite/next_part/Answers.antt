use Rattle.std.proofs.Common.{arith, sym, ◌∙◌}
use Rattle.std.proofs.lemmas.Result.{err_from_is_err_and}
use Rattle.der_core.proofs.StateLemmas.{byte_working, byte_read, byte_refused}
use Rattle.der_core.proofs.EocLemmas.{zero_octet}
use Rattle.der_core.proofs.TurnLemmas.{identifier_passed, length_passed, part_nothing, token_eoc, token_invalid_eoc, part_refused, part_no_length, part_primitive, part_too_deep, part_opens, part_wrong_length, part_short, part_passes}
use Rattle.der_core.proofs.length.indefinite.next_part.Goals as goal

pub returns-in_err-first-clause-exact : goal.returns-in_err-first-clause-exact
returns-in_err-first-clause-exact g c reliable =
    let p = err_from_is_err_and c.from_residual.result c.from_residual.ensures.1 in
    rw (p.1, p.2) (part_nothing c.args.level (byte_refused (g.met.R.Reader.sound_state c.args.reader.now) (c.in_err-first.ensures.exact reliable)))

pub returns-in_err-read_zero_octet-clause-exact : goal.returns-in_err-read_zero_octet-clause-exact
returns-in_err-read_zero_octet-clause-exact g c reliable =
    let p = err_from_is_err_and c.from_residual-in_err-read_zero_octet.result c.from_residual-in_err-read_zero_octet.ensures.1 in
    let first = c.in_ok-first.ensures.exact in
    rw (p.1, p.2) (token_invalid_eoc c.args.level (byte_working _ _ _ first) (byte_read first) c.if-first-eq0.true (zero_octet _ (g.met.R.Reader.sound_state c.read_byte.new.self) (c.in_err-read_zero_octet.ensures.exact reliable)))

pub returns-then-first-eq0-clause-ok : goal.returns-then-first-eq0-clause-ok
returns-then-first-eq0-clause-ok g c =
    let first = c.in_ok-first.ensures.exact in
    token_eoc c.args.level (byte_working _ _ _ first) (byte_read first) c.if-first-eq0.true (zero_octet _ (g.met.R.Reader.sound_state c.read_byte.new.self) c.in_ok-read_zero_octet.ensures.exact)

pub returns-in_err-number-clause-exact : goal.returns-in_err-number-clause-exact
returns-in_err-number-clause-exact g c reliable =
    let p = err_from_is_err_and c.from_residual-in_err-number.result c.from_residual-in_err-number.ensures.1 in
    let first = c.in_ok-first.ensures.exact in
    rw (p.1, p.2) (part_refused c.args.level (byte_working _ _ _ first) (byte_read first) c.requires.ber c.if-first-eq0.false (c.in_err-number.ensures.exact reliable))

pub returns-in_err-octet-clause-exact : goal.returns-in_err-octet-clause-exact
returns-in_err-octet-clause-exact g c reliable =
    let p = err_from_is_err_and c.from_residual-in_err-octet.result c.from_residual-in_err-octet.ensures.1 in
    let first = c.in_ok-first.ensures.exact in
    let found = c.in_ok-number.ensures.ok in
    let id = identifier_passed c.requires.ber (byte_working _ _ _ first) (byte_read first) found.1 found.2 in
    rw (p.1, p.2) (part_no_length c.args.level id (byte_refused (g.met.R.Reader.sound_state c.decode_number_after.new.reader) (c.in_err-octet.ensures.exact reliable)))

pub returns-then-not-has_constructed_bit-clause-exact : goal.returns-then-not-has_constructed_bit-clause-exact
returns-then-not-has_constructed_bit-clause-exact g c reliable =
    let first = c.in_ok-first.ensures.exact in
    let found = c.in_ok-number.ensures.ok in
    let id = identifier_passed c.requires.ber (byte_working _ _ _ first) (byte_read first) found.1 found.2 in
    part_primitive c.args.level id (byte_read c.in_ok-octet.ensures.exact) c.if-octet.true (sym c.has_constructed_bit.ensures ∙ c.if-not-has_constructed_bit.true) c.error.ensures.at_position
    c.error.ensures.failed

pub returns-then-level-eq-MAX_LEVEL-clause-exact : goal.returns-then-level-eq-MAX_LEVEL-clause-exact
returns-then-level-eq-MAX_LEVEL-clause-exact g c reliable =
    let first = c.in_ok-first.ensures.exact in
    let found = c.in_ok-number.ensures.ok in
    let id = identifier_passed c.requires.ber (byte_working _ _ _ first) (byte_read first) found.1 found.2 in
    part_too_deep c.args.level id (byte_read c.in_ok-octet.ensures.exact) c.if-octet.true (sym c.has_constructed_bit.ensures ∙ c.if-not-has_constructed_bit.false) c.if-level-eq-MAX_LEVEL.true
    c.error-then-level-eq-MAX_LEVEL.ensures.at_position c.error-then-level-eq-MAX_LEVEL.ensures.failed

pub returns-then-octet-clause-ok : goal.returns-then-octet-clause-ok
returns-then-octet-clause-ok g c =
    let first = c.in_ok-first.ensures.exact in
    let found = c.in_ok-number.ensures.ok in
    let id = identifier_passed c.requires.ber (byte_working _ _ _ first) (byte_read first) found.1 found.2 in
    part_opens c.args.level id (byte_read c.in_ok-octet.ensures.exact) c.if-octet.true (sym c.has_constructed_bit.ensures ∙ c.if-not-has_constructed_bit.false) (omega (arith, c.requires.levels))

pub returns-in_err-count-clause-exact : goal.returns-in_err-count-clause-exact
returns-in_err-count-clause-exact g c reliable =
    let p = err_from_is_err_and c.from_residual-in_err-count.result c.from_residual-in_err-count.ensures.1 in
    let first = c.in_ok-first.ensures.exact in
    let found = c.in_ok-number.ensures.ok in
    let id = identifier_passed c.requires.ber (byte_working _ _ _ first) (byte_read first) found.1 found.2 in
    rw (p.1, p.2) (part_wrong_length c.args.level id (byte_read c.in_ok-octet.ensures.exact) (c.in_err-count.ensures.exact reliable))

pub returns-in_err-drain-clause-exact : goal.returns-in_err-drain-clause-exact
returns-in_err-drain-clause-exact g c reliable =
    let p = err_from_is_err_and c.from_residual-in_err-drain.result c.from_residual-in_err-drain.ensures.1 in
    let first = c.in_ok-first.ensures.exact in
    let found = c.in_ok-number.ensures.ok in
    let id = identifier_passed c.requires.ber (byte_working _ _ _ first) (byte_read first) found.1 found.2 in
    let count = c.in_ok-count.ensures.ok in
    let following = length_passed id (byte_read c.in_ok-octet.ensures.exact) count.1 count.2 count.3 in
    rw (p.1, p.2) (part_short c.args.level following c.new.ensures (g.met.R.Reader.sound_state c.decode_definite.new.reader) (c.in_err-drain.ensures.exact reliable))

pub returns-clause-ok : goal.returns-clause-ok
returns-clause-ok g c =
    let first = c.in_ok-first.ensures.exact in
    let found = c.in_ok-number.ensures.ok in
    let id = identifier_passed c.requires.ber (byte_working _ _ _ first) (byte_read first) found.1 found.2 in
    let count = c.in_ok-count.ensures.ok in
    let following = length_passed id (byte_read c.in_ok-octet.ensures.exact) count.1 count.2 count.3 in
    part_passes c.args.level following c.new.ensures c.requires.levels (g.met.R.Reader.sound_state c.decode_definite.new.reader) c.in_ok-drain.ensures.exact
