-- Elements at the front of octets.
use Rattle.std.proofs.Common.{◌≡◌, ◌≢◌, ◌∙◌, ◌-◌, ◌+◌, ℕ, Bool, true, List, ◌++◌, length, take, drop, refl, sym, ap, subst, append_assoc, append-nil, length-append, arith}
use Rattle.std.proofs.Math.Seq.{drop-append_seam}
use Rattle.ber.specs.Der.{HasReservedTag}
use Rattle.ber.specs.Header.{IsNext, end_header, label_of_header}
use Rattle.ber.specs.declared.header.Header.{Header}
use Rattle.der_base.specs.declared.encoding_rules.EncodingRules.TheVariants.{Ber}
use Rattle.ber.specs.declared.length.Length.TheVariants.{Definite, Indefinite}
use Rattle.der_base.proofs.DigitLemmas.{same_length_front}
use Rattle.schema_read.specs.Enclosed.{IsCounted, IsEnclosed, ending}
use Rattle.schema_read.proofs.EnclosedLemmas.{taken}
use Rattle.schema_write.specs.Same.{IsElementOf}

-- what follows a header
after_header : (h : Header) (octets after : List ℕ) (next : IsNext h octets) → after ≡ drop h.header_len octets → after ≡ next.rest
after_header h octets after next e =
    e ∙ ap (λ n. drop n octets) next.is.whole ∙ ap (drop (length next.front)) next.split ∙ drop-append_seam next.front next.rest

-- a header, contents and their end are an element
pub enclosed_ber : {h : Header} (octets after contents rest : List ℕ) → IsNext h octets → h ≢ end_header → (HasReservedTag (label_of_header h) → ⊥)
    → IsCounted h.length contents → after ≡ drop h.header_len octets → after ≡ (contents ++ ending h.length) ++ rest
    → IsEnclosed Ber h contents (take (length octets - length rest) octets) × (octets ≡ take (length octets - length rest) octets ++ rest)
enclosed_ber {h} octets after contents rest next real known counted e split =
    let inner = contents ++ ending h.length in
    let all : octets ≡ (next.front ++ inner) ++ rest = next.split ∙ ap (λ q. next.front ++ q) (sym (after_header h octets after next e) ∙ split) ∙ sym (append_assoc next.front inner rest) in
    let it : take (length octets - length rest) octets ≡ next.front ++ inner = taken octets (next.front ++ inner) rest all in (
      record {
        front = next.front;
        is = next.is;
        counted = counted;
        spelled = it;
        real = real;
        known = known;
        allowed = tt;
      },
      all ∙ ap (λ q. q ++ rest) (sym it),
    )

-- octets that begin with such a header, and end in the contents, are an element of DER
pub element_of : (h g : Header) (constructed : Bool) (head contents octets : List ℕ) → IsNext g octets → g ≢ end_header → (HasReservedTag (label_of_header g) → ⊥)
    → g.class ≡ h.class → g.number ≡ h.number → g.constructed ≡ constructed → g.minimal ≡ true → g.length ≡ Definite (length contents)
    → octets ≡ head ++ contents → length octets ≡ g.header_len + length contents → IsElementOf h constructed contents octets
element_of h g constructed head contents octets next real known class number form minimal len split all =
    let size : length next.front ≡ length head = omega (arith, next.is.whole, all, ap length split, length-append head contents) in
    let both = same_length_front next.front head next.rest contents size (sym next.split ∙ split) in
    record {
      header = g;
      class = class;
      number = number;
      form = form;
      is = record {
        front = next.front;
        is = next.is;
        counted = subst (λ l. IsCounted l contents) (sym len) refl;
        spelled = subst (λ l. octets ≡ next.front ++ (contents ++ ending l)) (sym len)
            (next.split ∙ ap (λ q. next.front ++ q) (both.1 ∙ sym (append-nil contents)));
        real = real;
        known = known;
        allowed = (λ e. never len e, minimal);
      };
    }
  where
    never : {n : ℕ} → g.length ≡ Definite n → g.length ≡ Indefinite → ⊥
    never a b =
        let both : Definite _ ≡ Indefinite = sym a ∙ b in
        absurd (cc)
