-- What reading a header, or failing to, implies about the input.
use Rattle.std.proofs.Common.{◌≡◌, ℕ, ◌+◌, ◌-◌, ◌^◌, ◌<◌, true, false, Ok, List, length, take, drop, ap, ◌∙◌, subst, inr, length-drop, arith}
use Rattle.std.proofs.lemmas.List.{take_all}
use Rattle.der.specs.ScanGrammar.{BodyFault}
use Rattle.der.specs.Prelude.{HeadNext, Error, EncodingRules, ReaderState, rest_of, head_of, HeaderNext, Header}
use Rattle.der.specs.HeaderGrammar.{HeaderFault}
use Rattle.der.specs.ReaderState.{initial_state, advanced_state}
use Rattle.der.specs.Reader.{remaining_answer}
use Rattle.der.specs.Decode.{Passes, IsRefusedBy}
use Rattle.der.proofs.DecodeLemmas.{rest-beginning, remaining_ok}
use Rattle.der_tool_lib.specs.Answer.{IsHeaderRead, IsRefusedFor}

module _ (rules : EncodingRules) (octets : List ℕ) where
  -- a reader of the octets fails
  pub fault_refused : (e : Error) {t : ReaderState} → length octets < 2 ^ 32 → IsRefusedBy (HeaderFault BodyFault) (initial_state rules octets) e t → IsRefusedFor rules octets e
  fault_refused e small (IsRefusedBy.has_failed h reported same) = absurd (let no : false ≡ true = h in cc)
  fault_refused e small (IsRefusedBy.at_fault r working fault reported leaves) = inr (r, small, subst (λ o. HeaderFault BodyFault rules 0 o r) (rest-beginning rules octets) fault, reported)

  rest-advanced : (m : ℕ) → rest_of (advanced_state (initial_state rules octets) m) ≡ drop m octets
  rest-advanced m =
      let passed : 0 + m ≡ m = omega arith in
      ap (λ k. take (length octets - k) (drop k octets)) passed ∙ take_all (length octets - m) (drop m octets) (omega (arith, length-drop m octets))

  module _ (s t : ReaderState) (begun : s ≡ initial_state rules octets) (small : length octets < 2 ^ 32) where
    pub refused_header : (e : Error) → IsRefusedBy (HeaderFault BodyFault) s e t → IsRefusedFor rules octets e
    refused_header e refused = fault_refused e small (subst (λ x. IsRefusedBy (HeaderFault BodyFault) x e t) begun refused)

    -- the octets after the header are those that are left
    pub read_header : (h : Header) (left : List ℕ) → Passes (HeaderNext h) s t → Ok left ≡ remaining_answer t → IsHeaderRead rules octets (head_of h) left
    read_header h left passes is =
        let passed : Passes (HeaderNext h) (initial_state rules octets) t = subst (λ x. Passes (HeaderNext h) x t) begun passes in
        record {
          countable = small;
          count = passed.octets;
          next = subst (λ o. HeadNext (head_of h) rules o passed.octets) (rest-beginning rules octets) passed.next;
          following = (remaining_ok t left is).1 ∙ ap rest_of passed.leaves ∙ rest-advanced passed.octets;
        }
