use Rattle.std.proofs.Common.{refl, sym, ap, ◌∙◌}
use Rattle.der_asn1.specs.UnixTime.{unix_seconds}
use Rattle.der_c_values.specs.TimeValues.{is_time_of, time_contents}
use Rattle.der_c_values.specs.ValueCalls.{no_value, value, of_type}
use Rattle.der_c_values.proofs.TimeLemmas.{time_exists}
use Rattle.der_c_values.proofs.ValueLemmas.{not_true}
use Rattle.der_c_values.proofs.time.der_read_time.Goals as goal

pub returns-in_default-clause-reads : goal.returns-in_default-clause-reads
returns-in_default-clause-reads c =
    of_type (sym c.is_time_type.ensures ∙ c.if-not-is_time_type.false)
    (no_value c.in-Ok.octets.now _ c.in-Ok.ensures.ok (not_true c.in_default.ensures.some.1) c.refuse_value.ensures.reported c.refuse_value.ensures.stopped refl)

pub c_time-requires : goal.c_time-requires
c_time-requires c = time_exists c.args.time_type c.in-Some.date c.in-Some.ensures.same.0

pub returns-clause-reads : goal.returns-clause-reads
returns-clause-reads c =
    of_type (sym c.is_time_type.ensures ∙ c.if-not-is_time_type.false)
    (value c.in-Ok.octets.now c.in-Ok.ensures.ok (c.in-Some.ensures.some.0 refl) refl (record {
      is_time = ap (is_time_of c.args.time_type) c.c_time.ensures.date ∙ c.in-Some.ensures.same.0;
      contents = ap (time_contents c.args.time_type) c.c_time.ensures.date ∙ c.in-Some.ensures.same.1;
      seconds = c.c_time.ensures.seconds ∙ sym (ap unix_seconds c.c_time.ensures.date);
    }))
