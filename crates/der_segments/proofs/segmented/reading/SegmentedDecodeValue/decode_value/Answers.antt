use Rattle.std.proofs.Common.{ap, ◌∙◌, arith, rules, ◌≡◌, length, false}
use Rattle.der.proofs.DecodeLemmas.{remaining_ok}
use Rattle.der.proofs.StateLemmas.{length-rest}
use Rattle.der.proofs.PartsLemmas.{parts_taken}
use Rattle.der.specs.Parts.{HasSegments}
use Rattle.der.specs.Prelude.{head_of}
use Rattle.der_segments.proofs.SegmentedLemmas.{measured_contents, octets_counted, primitive_read, segments_read, segments_accepted}
use Rattle.der_segments.proofs.segmented.reading.SegmentedDecodeValue.decode_value.Goals as goal

pub returns-then-not-is_constructed-clause-sound : goal.returns-then-not-is_constructed-clause-sound
returns-then-not-is_constructed-clause-sound g c is_next ended =
    let s = g.R.Reader.state c.args.reader.now in
    let sound = c.reader_is_sound.ensures in
    let bit : c.args.header.constructed ≡ false = search rules in
    let read = primitive_read {h = head_of c.args.header} c.primitive.result c.primitive.ensures.form c.primitive.ensures.octets bit sound c.length.result c.length.ensures c.in_ok-octets.ensures.exact in
    (omega (arith, octets_counted c.primitive.result.formed), parts_taken s is_next _ _ sound read.reads)

pub returns-then-not-is_constructed-clause-exact : goal.returns-then-not-is_constructed-clause-exact
returns-then-not-is_constructed-clause-exact g c reliable =
    let bit : c.args.header.constructed ≡ false = search rules in
    primitive_read c.primitive.result c.primitive.ensures.form c.primitive.ensures.octets bit c.reader_is_sound.ensures c.length.result c.length.ensures c.in_ok-octets.ensures.exact

pub returns-in_err-count-clause-complete : goal.returns-in_err-count-clause-complete
returns-in_err-count-clause-complete g c v reliable contents few =
    let s = g.R.Reader.state c.args.reader.now in
    let has : HasSegments (head_of c.args.header) s.rules = record { bit = search rules; ber = search rules } in
    absurd (segments_accepted contents.is_next c.reader_is_sound.ensures few contents.taken.1 has (c.in_err-count.ensures.exact reliable) (c.in_err-count.ensures.no_memory reliable))

pub in_segments-requires-clause-short : goal.in_segments-requires-clause-short
in_segments-requires-clause-short g c =
    let s = g.R.Reader.state c.args.reader.now in
    let rest = remaining_ok s c.in_ok-octets-2.octets.now c.in_ok-octets-2.ensures.ok in
    let sound = c.reader_is_sound.ensures in
    omega (arith, ap length rest.1, length-rest s sound, sound.in_input, sound.addressable)

pub in_segments-requires-clause-formed : goal.in_segments-requires-clause-formed
in_segments-requires-clause-formed g c =
    let rest = remaining_ok (g.R.Reader.state c.args.reader.now) c.in_ok-octets-2.octets.now c.in_ok-octets-2.ensures.ok in
    ∣ measured_contents c.in_ok-count.ensures.ok c.in_ok-count.ensures.to_the_end rest.1 ∣₁

pub returns-clause-sound : goal.returns-clause-sound
returns-clause-sound g c is_next ended =
    let s = g.R.Reader.state c.args.reader.now in
    let has : HasSegments (head_of c.args.header) s.rules = record { bit = search rules; ber = search rules } in
    let rest = remaining_ok s c.in_ok-octets-2.octets.now c.in_ok-octets-2.ensures.ok in
    let read = segments_read c.in_segments.result c.in_segments.ensures.form (c.in_segments.ensures.octets ∙ rest.1) has c.in_ok-count.ensures.ok c.in_ok-count.ensures.to_the_end in
    (omega (arith, octets_counted c.in_segments.result.formed), parts_taken s is_next _ _ c.reader_is_sound.ensures read.reads)

pub returns-clause-exact : goal.returns-clause-exact
returns-clause-exact g c reliable =
    let s = g.R.Reader.state c.args.reader.now in
    let has : HasSegments (head_of c.args.header) s.rules = record { bit = search rules; ber = search rules } in
    let rest = remaining_ok s c.in_ok-octets-2.octets.now c.in_ok-octets-2.ensures.ok in
    segments_read c.in_segments.result c.in_segments.ensures.form (c.in_segments.ensures.octets ∙ rest.1) has c.in_ok-count.ensures.ok c.in_ok-count.ensures.to_the_end
