-- Why octets are not exactly one element, from what a reader of them returns.
use Rattle.std.proofs.Common.{◌≡◌, List, ℕ, Result, Ok, Err, IfErr, subst, sym, inr}
use Rattle.der_base.specs.Length.{number}
use Rattle.der_base.specs.HeaderGrammar.{HeaderFault}
use Rattle.der_base.specs.ScanGrammar.{BodyFault}
use Rattle.der_base.specs.declared.length.Length.{Length}
use Rattle.der_base.specs.declared.error.Error.{Error}
use Rattle.der_base.specs.declared.encoding_rules.EncodingRules.TheVariants.{Der}
use Rattle.der_core.specs.ReaderState.{ReaderState, initial_state}
use Rattle.der_core.specs.Outcome.{Gives}
use Rattle.der_core.specs.Reader.{read_slice_outcome, finish_answer}
use Rattle.der_core.specs.Decode.{Passes, IsRefusedBy}
use Rattle.der_core.specs.Header.{head_of, HeaderNext}
use Rattle.der_core.specs.declared.header.Header.{Header}
use Rattle.der_c_core.specs.CompareCall.{IsOneElement, RefusesWhole, RefusesEither, no_header, cut, left_over}

pub header_refused : {octets : List ℕ} {s t : ReaderState} {e : Error} → s ≡ initial_state Der octets
    → IsRefusedBy (HeaderFault BodyFault) s e t → RefusesWhole octets e
header_refused {t = t} {e = e} new h = no_header t (subst (λ s. IsRefusedBy (HeaderFault BodyFault) s e t) new h)

pub contents_refused : {octets : List ℕ} {s u t : ReaderState} {h : Header} {l : Length} {e : Error} → s ≡ initial_state Der octets
    → Passes (HeaderNext h) s u → l ≡ (head_of h).length → Gives (read_slice_outcome (number l)) u (Err e) t → RefusesWhole octets e
contents_refused {u = u} {t = t} {h = h} {e = e} new passed same g =
    cut h u t (subst (λ s. Passes (HeaderNext h) s u) new passed) (subst (λ l. Gives (read_slice_outcome (number l)) u (Err e) t) same g)

pub octets_left : {octets contents : List ℕ} {s u t : ReaderState} {h : Header} {l : Length} (r : Result (Unit {0}) Error) → s ≡ initial_state Der octets
    → Passes (HeaderNext h) s u → l ≡ (head_of h).length → Gives (read_slice_outcome (number l)) u (Ok contents) t → r ≡ finish_answer t → IfErr r (RefusesWhole octets)
octets_left (Ok _) new passed same g is = tt
octets_left {contents = contents} {u = u} {t = t} {h = h} (Err e) new passed same g is =
    left_over h u t contents (subst (λ s. Passes (HeaderNext h) s u) new passed) (subst (λ l. Gives (read_slice_outcome (number l)) u (Ok contents) t) same g) (sym is)

-- the first is exactly one element, so only the second may be an error
pub second_refused : {first : List ℕ} (second : List ℕ) (r : Result (Unit {0}) Error) → IsOneElement first → IfErr r (RefusesWhole second) → IfErr r (RefusesEither first second)
second_refused second (Ok _) whole h = tt
second_refused second (Err e) whole h = inr (whole, h)
