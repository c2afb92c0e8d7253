use Rattle.std.proofs.Common.{arith, refl}
use Rattle.std.proofs.lemmas.Result.{err_from_is_err_and}
use Rattle.der.specs.ScanGrammar.{BodyFault}
use Rattle.der.proofs.HeaderLemmas.{header_grammar}
use Rattle.der.proofs.ScanLemmas.{body_fault_laws}
use Rattle.der.specs.Prelude.{head_of}
use Rattle.der.proofs.DecodeLemmas.{decodes_reliably, not_refused}
use Rattle.der.proofs.ElementLemmas.{at_contents, OkIsAccepted, Vows, element_ok, element_complete, header_tagged, reliable_owes, value_result_of_type}
use Rattle.der_asn1.specs.AnyElement.{no_header, in_contents}
use Rattle.der_asn1.specs.AnyElementLemmas.{element_passes}
use Rattle.der_asn1.proofs.elements.element.decode_element.Goals as goal

pub returns-in_err-header-clause-exact : goal.returns-in_err-header-clause-exact
returns-in_err-header-clause-exact g c =
    let p = err_from_is_err_and c.from_residual.result c.from_residual.ensures.1 in
    rw (p.1) (λ reliable. no_header _ _ (decodes_reliably reliable c.in_err-header.ensures) p.2 refl)

pub returns-in_err-header-clause-complete : goal.returns-in_err-header-clause-complete
returns-in_err-header-clause-complete g c v m reliable working e deep =
    absurd (not_refused (header_grammar BodyFault body_fault_laws) (c.in_err-header.ensures.refused reliable) working e.element.next)

pub returns-clause-ok : goal.returns-clause-ok
returns-clause-ok g c =
    element_passes g.T.ReadValue.takes (g.R.Reader.state c.args.reader.now) (g.R.Reader.state c.read_value.new.reader) (head_of c.in_ok-header.header).tag c.read_value.result _ (element_ok (head_of c.in_ok-header.header).tag g.T.ReadValue.takes (g.R.Reader.state c.args.reader.now) (g.R.Reader.state c.decode_header.new.reader) (g.R.Reader.state c.read_value.new.reader) c.in_ok-header.header g.R.Reader.reliable
    c.read_value.result (g.met.R.Reader.sound_state c.decode_header.new.reader) c.in_ok-header.ensures.ok refl (λ p a q r. r.2.1.0)
    (λ p v q r. at_contents c.in_ok-header.header (OkIsAccepted g.T.ReadValue.takes (g.R.Reader.state p.now) v (g.R.Reader.state q.now)) r.1 r.2.1.1.0) c.read_value.ensures.exact)

pub returns-clause-complete : goal.returns-clause-complete
returns-clause-complete g c v m reliable working e deep =
    element_complete e.tag g.T.ReadValue.takes g.T.Error.DecodeError.out_of_memory g.T.ReadValue.allocates g.T.ReadValue.value_levels (g.R.Reader.state c.args.reader.now) (g.R.Reader.state c.decode_header.new.reader) (g.R.Reader.state c.read_value.new.reader) c.in_ok-header.header
    g.T.Error.From.from_gives c.read_value.result v m (g.met.R.Reader.sound_state c.decode_header.new.reader) c.in_ok-header.ensures.ok (header_tagged c.in_ok-header.ensures.ok e.element) (λ p a q r. r.2.1.0)
    (λ p v q r. at_contents c.in_ok-header.header (OkIsAccepted g.T.ReadValue.takes (g.R.Reader.state p.now) v (g.R.Reader.state q.now)) r.1 r.2.1.1.0)
    (λ p a q r. at_contents c.in_ok-header.header (Vows g.T.ReadValue.takes g.T.Error.DecodeError.out_of_memory g.T.ReadValue.allocates g.T.ReadValue.value_levels (g.R.Reader.state p.now) a (g.R.Reader.state q.now)) r.1 (λ w. r.2.1.1.1.0 w reliable))
    e.element (let d = deep in omega arith) (c.read_value.ensures.exact (reliable_owes g.R.Reader.reliable c.read_value.result reliable))

pub returns-clause-exact : goal.returns-clause-exact
returns-clause-exact g c reliable =
    in_contents c.in_ok-header.header _ c.in_ok-header.ensures.ok
    (value_result_of_type (λ p a q r. at_contents c.in_ok-header.header (λ h. g.T.DecodeValue.decode_value_answers h (g.R.Reader.state p.now) a (g.R.Reader.state q.now)) r.1 (r.2.1.1.1.1 reliable)) (c.read_value.ensures.exact (reliable_owes g.R.Reader.reliable c.read_value.result reliable)))
