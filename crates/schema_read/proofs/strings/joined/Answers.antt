use Rattle.std.proofs.Common.{◌≡◌, ◌∙◌, ap, subst, ℕ, List}
use Rattle.der_base.specs.declared.encoding_rules.EncodingRules.TheVariants.{Ber}
use Rattle.schema_read.specs.Text.{text_of}
use Rattle.schema_read.specs.declared.verdict.Verdict.TheVariants as verdict
use Rattle.schema_read.specs.Verdict.{worst}
use Rattle.schema_read.specs.Reading.{IsWithin, Body, Finds}
use Rattle.schema_read.specs.Strings.{AreJoined, IsSegment}
use Rattle.schema_read.proofs.VerdictLemmas.{logs_is, logs_then}
use Rattle.schema_read.proofs.FindsLemmas.{finds_is}
use Rattle.schema_read.proofs.SegmentLemmas.{string_finds, string_only}
use Rattle.schema_read.proofs.strings.joined.Goals as goal

pub returns-clause-finds : goal.returns-clause-finds
returns-clause-finds c =
    let m = c.args.opened.marked in
    let b = c.args.opened.beyond.now in
    let octets = c.args.opened.inside.octets.now in
    let bits = c.is_bit_string-bits.result in
    finds_is (c.and.ensures ∙ ap (λ v. worst v c.in_ok-outcome.outcome.verdict) c.in_ok-whole.ensures.verdict)
    (subst (λ k. Finds (λ rules. Body m b (λ inner. (rules ≡ Ber) × ((text : List ℕ) × AreJoined k (IsSegment c.args.depth k) inner text)) octets) (worst verdict.Ber c.in_ok-outcome.outcome.verdict) c.in_ok-outcome.outcome.rest.now) c.is_bit_string-bits.ensures
    (string_finds bits m (IsSegment c.args.depth bits) b (text_of c.in_ok-text.text) octets c.in_ok-text.ensures c.in_ok-outcome.ensures.reads))

pub returns-clause-only : goal.returns-clause-only
returns-clause-only c =
    let m = c.args.opened.marked in
    let b = c.args.opened.beyond.now in
    let octets = c.args.opened.inside.octets.now in
    let bits = c.is_bit_string-bits.result in
    subst (λ k. (inner r text : List ℕ) → IsWithin m b octets inner r → AreJoined k (IsSegment c.args.depth k) inner text → text ≡ (text_of c.segments.new.text)) c.is_bit_string-bits.ensures
    (string_only bits m (IsSegment c.args.depth bits) b (text_of c.in_ok-text.text) octets c.in_ok-text.ensures c.in_ok-outcome.ensures.reads)

pub returns-clause-log : goal.returns-clause-log
returns-clause-log c =
    logs_is c.and.ensures (logs_then c.in_ok-whole.ensures.log c.in_ok-outcome.ensures.log)
