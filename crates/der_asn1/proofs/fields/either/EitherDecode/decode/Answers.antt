use Rattle.std.proofs.Common.{◌||◌, Ok, Err, refl, subst}
use Rattle.std.proofs.lemmas.Result.{err_from_is_err_and}
use Rattle.der.proofs.DecodeLemmas.{decodes_reliably}
use Rattle.der_asn1.specs.Either.{either_no_tag, either_first, either_second, either_neither}
use Rattle.der_asn1.specs.declared.fields.either.Either.{Either}
use Rattle.der_asn1.specs.declared.fields.either.Either.TheVariants.{First, Second}
use Rattle.der_asn1.proofs.EitherReadLemmas.{no_tag_neither, other_tag_neither, first_next, second_next, first_lacks, second_lacks, either_reads, first_deep, second_deep, second_passes}
use Rattle.der_asn1.proofs.fields.either.EitherDecode.decode.Goals as goal

pub returns-in_err-tag-clause-complete : goal.returns-in_err-tag-clause-complete
returns-in_err-tag-clause-complete g c v m reliable working h deep =
    absurd (no_tag_neither g.A.Choice.chooses g.B.Choice.chooses g.A.Decode.is_next g.B.Decode.is_next g.met.A.DecodeChoice.begins g.met.B.DecodeChoice.begins (g.R.Reader.state c.args.reader.now) v m h reliable working c.in_err-tag.ensures)

pub returns-in_err-tag-clause-exact : goal.returns-in_err-tag-clause-exact
returns-in_err-tag-clause-exact g c =
    let p = err_from_is_err_and c.from_residual.result c.from_residual.ensures.1 in
    rw (p.1) (λ reliable. either_no_tag _ _ (c.in_err-tag.ensures.0, decodes_reliably reliable c.in_err-tag.ensures.1) p.2 refl refl)

pub returns-in_err-first-clause-complete : goal.returns-in_err-first-clause-complete
returns-in_err-first-clause-complete g c v m reliable working h deep =
    let p = err_from_is_err_and c.from_residual-in_err-first.result c.from_residual-in_err-first.ensures.1 in
    let there = first_next g.A.Choice.chooses g.B.Choice.chooses g.A.Decode.is_next g.B.Decode.is_next g.met.A.DecodeChoice.begins g.met.B.DecodeChoice.begins (g.R.Reader.state c.args.reader.now) v m h c.in_ok-tag.ensures (c.can_decode.ensures.0 c.if-can_decode.true) in
    rw (p.1, p.2) (first_lacks g.row.A.Denot g.row.A.Denot g.A.Error.DecodeError.out_of_memory g.A.Decode.allocates g.B.Decode.allocates (g.R.Reader.state c.args.reader.now) (g.R.Reader.state c.decode.new.reader) m (c.in_err-first.ensures.complete there.0 m reliable working there.1 (first_deep g.A.Decode.decode_levels g.B.Decode.decode_levels (g.R.Reader.state c.args.reader.now) deep)))

pub returns-in_err-first-clause-exact : goal.returns-in_err-first-clause-exact
returns-in_err-first-clause-exact g c =
    let p = err_from_is_err_and c.from_residual-in_err-first.result c.from_residual-in_err-first.ensures.1 in
    rw (p.1, p.2) (λ reliable. either_first c.in_ok-tag.tag (Err c.in_err-first.field-0.0) (c.in_ok-tag.ensures.0, decodes_reliably reliable c.in_ok-tag.ensures.1) (c.can_decode.ensures.0 c.if-can_decode.true) (c.in_err-first.ensures.exact reliable) refl)

pub returns-then-can_decode-clause-complete : goal.returns-then-can_decode-clause-complete
returns-then-can_decode-clause-complete g c v m reliable working h deep =
    let there = first_next g.A.Choice.chooses g.B.Choice.chooses g.A.Decode.is_next g.B.Decode.is_next g.met.A.DecodeChoice.begins g.met.B.DecodeChoice.begins (g.R.Reader.state c.args.reader.now) v m h c.in_ok-tag.ensures (c.can_decode.ensures.0 c.if-can_decode.true) in
    either_reads {C = Either g.row.A.Denot g.row.B.Denot} g.A.Error.DecodeError.out_of_memory g.A.Decode.allocates (g.A.Decode.allocates || g.B.Decode.allocates) (g.R.Reader.state c.args.reader.now) (g.R.Reader.state c.decode.new.reader) m c.in_ok-first.first (First c.in_ok-first.first) (c.in_ok-first.ensures.complete there.0 m reliable working there.1 (first_deep g.A.Decode.decode_levels g.B.Decode.decode_levels (g.R.Reader.state c.args.reader.now) deep))

pub returns-then-can_decode-clause-exact : goal.returns-then-can_decode-clause-exact
returns-then-can_decode-clause-exact g c reliable =
    either_first c.in_ok-tag.tag (Ok c.in_ok-first.first) (c.in_ok-tag.ensures.0, decodes_reliably reliable c.in_ok-tag.ensures.1) (c.can_decode.ensures.0 c.if-can_decode.true) (c.in_ok-first.ensures.exact reliable) refl

pub returns-then-not-can_decode-clause-complete : goal.returns-then-not-can_decode-clause-complete
returns-then-not-can_decode-clause-complete g c v m reliable working h deep =
    absurd (other_tag_neither g.A.Choice.chooses g.B.Choice.chooses g.A.Decode.is_next g.B.Decode.is_next g.met.A.DecodeChoice.begins g.met.B.DecodeChoice.begins (g.R.Reader.state c.args.reader.now) v m h c.in_ok-tag.ensures (λ is. (let yes = c.can_decode.ensures.1 is in let no = c.if-can_decode.false in cc)) (λ is. (let yes = c.can_decode-2.ensures.1 is in let no = c.if-not-can_decode.true in cc)))

pub returns-then-not-can_decode-clause-exact : goal.returns-then-not-can_decode-clause-exact
returns-then-not-can_decode-clause-exact g c reliable =
    either_neither c.in_ok-tag.tag c.into.result (c.in_ok-tag.ensures.0, decodes_reliably reliable c.in_ok-tag.ensures.1) (λ is. (let yes = c.can_decode.ensures.1 is in let no = c.if-can_decode.false in cc)) (λ is. (let yes = c.can_decode-2.ensures.1 is in let no = c.if-not-can_decode.true in cc))
    (subst (λ e. g.A.Error.From.from_gives e c.into.result) c.error.ensures.at_position c.into.ensures) refl c.error.ensures.failed

pub returns-in_err-second-clause-complete : goal.returns-in_err-second-clause-complete
returns-in_err-second-clause-complete g c v m reliable working h deep =
    let p = err_from_is_err_and c.from_residual-in_err-second.result c.from_residual-in_err-second.ensures.1 in
    let there = second_next g.A.Choice.chooses g.B.Choice.chooses g.A.Decode.is_next g.B.Decode.is_next g.met.A.DecodeChoice.begins g.met.B.DecodeChoice.begins (g.R.Reader.state c.args.reader.now) v m h c.in_ok-tag.ensures (λ is. (let yes = c.can_decode.ensures.1 is in let no = c.if-can_decode.false in cc)) in
    rw (p.1, p.2) (second_lacks g.row.B.Denot g.row.B.Denot g.A.Error.DecodeError.out_of_memory g.A.Decode.allocates g.B.Decode.allocates (g.R.Reader.state c.args.reader.now) (g.R.Reader.state c.decode-2.new.reader) m (c.in_err-second.ensures.complete there.0 m reliable working there.1 (second_deep g.A.Decode.decode_levels g.B.Decode.decode_levels (g.R.Reader.state c.args.reader.now) deep)))

pub returns-in_err-second-clause-exact : goal.returns-in_err-second-clause-exact
returns-in_err-second-clause-exact g c =
    let p = err_from_is_err_and c.from_residual-in_err-second.result c.from_residual-in_err-second.ensures.1 in
    rw (p.1, p.2) (λ reliable. either_second c.in_ok-tag.tag (Err c.in_err-second.field-0.0) (c.in_ok-tag.ensures.0, decodes_reliably reliable c.in_ok-tag.ensures.1) (λ is. (let yes = c.can_decode.ensures.1 is in let no = c.if-can_decode.false in cc)) (c.can_decode-2.ensures.0 c.if-not-can_decode.false) (c.in_err-second.ensures.exact reliable) refl)

pub returns-clause-ok : goal.returns-clause-ok
returns-clause-ok g c working still =
    second_passes g.A.Choice.chooses g.A.Decode.is_next g.B.Decode.is_next (g.R.Reader.state c.args.reader.now) (g.R.Reader.state c.decode-2.new.reader) c.in_ok-second.second c.in_ok-tag.ensures (λ is. (let yes = c.can_decode.ensures.1 is in let no = c.if-can_decode.false in cc)) (c.in_ok-second.ensures.ok working still)

pub returns-clause-complete : goal.returns-clause-complete
returns-clause-complete g c v m reliable working h deep =
    let there = second_next g.A.Choice.chooses g.B.Choice.chooses g.A.Decode.is_next g.B.Decode.is_next g.met.A.DecodeChoice.begins g.met.B.DecodeChoice.begins (g.R.Reader.state c.args.reader.now) v m h c.in_ok-tag.ensures (λ is. (let yes = c.can_decode.ensures.1 is in let no = c.if-can_decode.false in cc)) in
    either_reads {C = Either g.row.A.Denot g.row.B.Denot} g.A.Error.DecodeError.out_of_memory g.B.Decode.allocates (g.A.Decode.allocates || g.B.Decode.allocates) (g.R.Reader.state c.args.reader.now) (g.R.Reader.state c.decode-2.new.reader) m c.in_ok-second.second (Second c.in_ok-second.second) (c.in_ok-second.ensures.complete there.0 m reliable working there.1 (second_deep g.A.Decode.decode_levels g.B.Decode.decode_levels (g.R.Reader.state c.args.reader.now) deep))

pub returns-clause-exact : goal.returns-clause-exact
returns-clause-exact g c reliable =
    either_second c.in_ok-tag.tag (Ok c.in_ok-second.second) (c.in_ok-tag.ensures.0, decodes_reliably reliable c.in_ok-tag.ensures.1) (λ is. (let yes = c.can_decode.ensures.1 is in let no = c.if-can_decode.false in cc)) (c.can_decode-2.ensures.0 c.if-not-can_decode.false) (c.in_ok-second.ensures.exact reliable) refl
