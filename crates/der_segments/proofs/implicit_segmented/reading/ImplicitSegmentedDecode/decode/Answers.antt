use Rattle.std.proofs.Common.{false, Ok, Err, inl, refl, ap}
use Rattle.der.specs.Decode.{is_out_of_memory_kind}
use Rattle.der.specs.Error.{kind_of}
use Rattle.der.specs.Prelude.{Error}
use Rattle.der.proofs.DecodeLemmas.{read_on}
use Rattle.der_asn1.proofs.EitherReadLemmas.{first_lacks}
use Rattle.der_segments.specs.ImplicitSegmented.{ReadsAs, string_of_form}
use Rattle.der_segments.specs.declared.implicit_segmented.ImplicitSegmented.{ImplicitSegmented}
use Rattle.der_segments.proofs.ImplicitSegmentedLemmas.{Form, form_levels, next_form}
use Rattle.der_segments.proofs.implicit_segmented.reading.ImplicitSegmentedDecode.decode.Goals as goal

pub returns-in-Ok-First-clause-complete : goal.returns-in-Ok-First-clause-complete
returns-in-Ok-First-clause-complete g c v m reliable working h deep =
    let s = g.R.Reader.state c.args.reader.now in
    let form = next_form h in
    inl (refl, read_on {A = Form g.row.N} Error (λ e. is_out_of_memory_kind (kind_of e)) s m c.in-Ok-First.field-0 (c.in-Ok-First.ensures.complete form.0 m reliable working form.1 (form_levels s deep)))

pub returns-in-Ok-First-clause-exact : goal.returns-in-Ok-First-clause-exact
returns-in-Ok-First-clause-exact g c reliable =
    record { answer = Ok c.in-Ok-First.field-0; answered = c.in-Ok-First.ensures.exact reliable; same = ap (λ x. Ok (string_of_form x)) c.in-Ok-First.field-0-is }

pub returns-in-Ok-Second-clause-complete : goal.returns-in-Ok-Second-clause-complete
returns-in-Ok-Second-clause-complete g c v m reliable working h deep =
    let s = g.R.Reader.state c.args.reader.now in
    let form = next_form h in
    inl (refl, read_on {A = Form g.row.N} Error (λ e. is_out_of_memory_kind (kind_of e)) s m c.in-Ok-Second.field-0 (c.in-Ok-Second.ensures.complete form.0 m reliable working form.1 (form_levels s deep)))

pub returns-in-Ok-Second-clause-exact : goal.returns-in-Ok-Second-clause-exact
returns-in-Ok-Second-clause-exact g c reliable =
    record { answer = Ok c.in-Ok-Second.field-0; answered = c.in-Ok-Second.ensures.exact reliable; same = ap (λ x. Ok (string_of_form x)) c.in-Ok-Second.field-0-is }

pub returns-in-Err-clause-complete : goal.returns-in-Err-clause-complete
returns-in-Err-clause-complete g c v m reliable working h deep =
    let s = g.R.Reader.state c.args.reader.now in
    let form = next_form h in
    first_lacks (Form g.row.N) (ImplicitSegmented g.row.N) (λ e. is_out_of_memory_kind (kind_of e)) false false s (g.R.Reader.state c.decode.new.reader) m {e = c.in-Err.error} (c.in-Err.ensures.complete form.0 m reliable working form.1 (form_levels s deep))

pub returns-in-Err-clause-exact : goal.returns-in-Err-clause-exact
returns-in-Err-clause-exact g c reliable =
    record { answer = Err c.in-Err.error; answered = c.in-Err.ensures.exact reliable; same = refl }
