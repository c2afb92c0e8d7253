-- Joined segments are printed, and so is each error of joining.
use Rattle.std.proofs.Common.{◌≡◌, ℕ, zero, suc, ◌+◌, ◌^◌, ◌<◌, nat_lt, nat_le, not, List, [], ◌∷◌, length, Result, Ok, Err, IfOk, IfErr, inl, inr, refl, sym, ◌∙◌, subst}
use Rattle.std.proofs.lemmas.Bool.{cases_Bool}
use Rattle.der.specs.HeaderGrammar.{HeaderFault}
use Rattle.der.specs.ScanGrammar.{BodyFault}
use Rattle.der.specs.Text.{error_text}
use Rattle.der.specs.Prelude.{Error, Ber, Length, Tag, OctetString, head_of, ElementNext, ElementRead, read_slice_outcome, ReaderState, rest_of}
use Rattle.der.specs.Decode.{IsRefusedBy, has_failed, at_fault, Whole, WholeAnswer, too_long, decoded}
use Rattle.der.specs.Element.{head_sans_eoc, no_header, other_tag, in_contents}
use Rattle.der.specs.Nested.{Closes, forwarded, left_over, whole, ClosesValue, part_refused, without_eoc, with_eoc, eoc_failed, not_opened, opened}
use Rattle.der.specs.Outcome.{Outcome}
use Rattle.der.specs.Reader.{enter_nested_outcome, read_eoc_outcome, eoc_outcome, finish_answer, VecRefused}
use Rattle.der.specs.JoinedOctets.{joined_octets, TakesJoined, JoinedRead}
use Rattle.der.specs.Joining as joining
use Rattle.der.specs.Parts as parts
use Rattle.der.specs.declared.example.joined_octets.JoinedOctets.{JoinedOctets}
use Rattle.der_tool_lib.specs.Answer.{IsJoined, NotJoined, ForwardsError, PrintsError, AnswersJoin}
use Rattle.der_tool_lib.specs.PrintedText.{octets_line}
use Rattle.der_tool_lib.proofs.TextLemmas.{HasText, missing_printed, header_text}

-- the error of a result has a text
abbrev Prints : {A : Type 0} → Result A Error → Type 0
Prints (Ok v) = Unit {0}
Prints (Err e) = HasText (error_text e)

printed : {A : Type 0} {e : Error} {r : Result A Error} → Err e ≡ r → Prints r → HasText (error_text e)
printed {A} {e} {r} reported prints = subst (λ (x : Result A Error). Prints x) (sym reported) prints

-- the methods of a reader
module _ (s : ReaderState) where
  slice_prints : (n : ℕ) → Prints (read_slice_outcome n s).answer
  slice_prints n =
      elim (cases_Bool s.failed) [
        | inl failed ↦ rw failed (_, refl)
        | inr working ↦
            rw working (elim (cases_Bool (nat_le (s.position + n) s.end)) [
              | inl there ↦ rw there tt
              | inr short ↦ rw short (missing_printed (s.position + n) s.end s.position)
            ])
      ]

  enter_prints : (n : ℕ) → Prints (enter_nested_outcome n s).answer
  enter_prints n =
      elim (cases_Bool (nat_lt (s.position + n) (2 ^ 32))) [
        | inr far ↦ rw far (_, refl)
        | inl near ↦
            rw near (elim (cases_Bool (nat_lt s.end (s.position + n))) [
              | inl past ↦ rw past (missing_printed (s.end + 1) s.end s.end)
              | inr there ↦
                  rw there (elim (cases_Bool (nat_lt s.depth 64)) [
                    | inl shallow ↦ rw shallow tt
                    | inr deep ↦ rw deep (_, refl)
                  ])
            ])
      ]

  eoc_octets_print : (left : List ℕ) → Prints (eoc_outcome s left).answer
  eoc_octets_print [] = missing_printed (s.position + 1) s.end s.position
  eoc_octets_print (zero ∷ []) = missing_printed (s.position + 1 + 1) s.end (s.position + 1)
  eoc_octets_print (zero ∷ zero ∷ more) = tt
  eoc_octets_print (zero ∷ suc o ∷ more) = (_, refl)
  eoc_octets_print (suc o ∷ more) = (_, refl)

  eoc_prints : Prints (read_eoc_outcome s).answer
  eoc_prints =
      elim (cases_Bool s.failed) [
        | inl failed ↦ rw failed (_, refl)
        | inr working ↦
            let table : read_eoc_outcome s ≡ eoc_outcome s (rest_of s) = rw working refl in
            subst (λ (o : Outcome (Unit {0})). Prints o.answer) (sym table) (eoc_octets_print (rest_of s))
      ]

  finish_prints : Prints (finish_answer s)
  finish_prints =
      elim (cases_Bool s.failed) [
        | inl failed ↦ rw failed (_, refl)
        | inr working ↦
            rw working (elim (cases_Bool (nat_lt s.position s.end)) [
              | inl left ↦ rw left (_, refl)
              | inr none ↦ rw none tt
            ])
      ]

header_printed : {s t : ReaderState} {e : Error} → IsRefusedBy (HeaderFault BodyFault) s e t → HasText (error_text e)
header_printed (has_failed failed reported same) = rw reported (_, refl)
header_printed (at_fault r working fault reported leaves) = rw reported (header_text fault)

octets_printed : (n : ℕ) {s t : ReaderState} {e : Error} → VecRefused n s e t → HasText (error_text e)
octets_printed n {s} (inl g) = printed g.answered (slice_prints s n)
octets_printed n (inr m) = rw m.0 (_, refl)

-- segments
segment_header_printed : {tag : Tag} {s t : ReaderState} {e : Error} → joining.RefusesSegmentHeader tag s e t → HasText (error_text e)
segment_header_printed (joining.RefusesSegmentHeader.no_header r) = header_printed r
segment_header_printed (joining.RefusesSegmentHeader.other_tag h p not reported) = rw reported (_, refl)
segment_header_printed (joining.RefusesSegmentHeader.constructed_segment h u p r) = rw r.reported (_, refl)

mutual
  segment_printed : {tag : Tag} {s t : ReaderState} {e : Error} → joining.RefusesSegment tag s e t → HasText (error_text e)
  segment_printed (joining.RefusesSegment.no_segment r) = segment_header_printed r
  segment_printed (joining.RefusesSegment.no_octets h u p bit r) = octets_printed _ r
  segment_printed (joining.RefusesSegment.not_entered h u p bit g) = printed g.answered (enter_prints u (joining.contents_number h))
  segment_printed (joining.RefusesSegment.refused_inside h u v p bit can r back) = segments_printed r

  segments_printed : {tag : Tag} {s t : ReaderState} {e : Error} → joining.RefusesSegments tag s e t → HasText (error_text e)
  segments_printed (joining.RefusesSegments.after_segments u octets out reads joined less r) = segment_printed r

joining_printed : {l : Length} {tag : Tag} {s t : ReaderState} {e : Error} → joining.RefusesJoining l tag s e t → HasText (error_text e)
joining_printed (joining.RefusesJoining.definite_form der form reported leaves) = rw reported (_, refl)
joining_printed (joining.RefusesJoining.no_memory may reported same) = rw reported (_, refl)
joining_printed (joining.RefusesJoining.no_segments may r) = segments_printed r

contents_printed : {s t : ReaderState} {e : Error} {h : _} → JoinedRead h s (Err e) t → HasText (error_text e)
contents_printed (parts.RefusesParts.no_octets bit r) = octets_printed _ r
contents_printed (parts.RefusesParts.no_segments has r) = joining_printed r
contents_printed (parts.RefusesParts.not_in_segments bit der reported same) = rw reported (_, refl)

-- an element
module _ {A : Type 0} {answer : Result A Error} {q : ReaderState} {end depth : ℕ} where
  closed_printed : {t : ReaderState} {e : Error} → ((x : Error) → answer ≡ Err x → HasText (error_text x)) → Closes ForwardsError answer q end depth (Err e) t → HasText (error_text e)
  closed_printed inside (forwarded x is reported back) = inside _ (is ∙ sym reported)
  closed_printed inside (left_over v x is less given reported back) = printed reported (rw given (_, refl))
  closed_printed inside (whole v is at reported back) = absurd (cc)

  value_printed : {t : ReaderState} {e : Error} {has_eoc : _} → ((x : Error) → answer ≡ Err x → HasText (error_text x)) → ClosesValue ForwardsError answer q end depth has_eoc (Err e) t → HasText (error_text e)
  value_printed inside (part_refused x closes reported) = printed reported (closed_printed inside closes)
  value_printed inside (without_eoc v closes has_eoc reported) = absurd (cc)
  value_printed inside (with_eoc v u closes has_eoc eoc reported) = absurd (cc)
  value_printed inside (eoc_failed v u x f closes has_eoc eoc given reported) = printed reported (rw given (printed eoc.answered (eoc_prints u)))

element_printed : {s t : ReaderState} {e : Error} → ElementRead OctetString ForwardsError JoinedRead s (Err e) t → HasText (error_text e)
element_printed (no_header x f decodes given reported) = printed reported (rw given (header_printed (decodes.refused refl)))
element_printed (other_tag h f passes other given reported) = printed reported (rw given (_, refl))
element_printed (in_contents h u passes tagged (not_opened x f enters given reported)) = printed reported (rw given (printed enters.answered (enter_prints u _)))
element_printed (in_contents h u passes tagged (opened p answer q can there ran closes)) =
    value_printed (λ x is. contents_printed (subst (λ r. JoinedRead (head_sans_eoc (head_of h)) p r q) is ran)) closes

refused_printed : (octets : List ℕ) (e : Error) → NotJoined octets e → HasText (error_text e)
refused_printed octets e (too_long far reported) = rw reported (_, refl)
refused_printed octets e (decoded (Err x) t small read is) = printed is (element_printed read)
refused_printed octets e (decoded (Ok v) t small read (inl finished)) = absurd (let no : Err e ≡ Ok v = finished.1 in cc)
refused_printed octets e (decoded (Ok v) t small read (inr (x, left, reported))) = rw reported (printed (sym left) (finish_prints t))

pub join_reports : (octets text out : List ℕ) → IsJoined octets out → text ≡ octets_line out → AnswersJoin octets 0 text
join_reports octets text out read line = AnswersJoin.reported record { out = out; read = read; line = line }

pub join_refused : (octets text : List ℕ) (e : Error) → NotJoined octets e → PrintsError e text → AnswersJoin octets 1 text
join_refused octets text e refused reports =
    let prints = refused_printed octets e refused in
    AnswersJoin.refused record { error = e; reason = prints.0; refused = refused; says = prints.1; line = reports prints.0 prints.1 }

-- what was read is joined
module _ (octets : List ℕ) where
  counted : (v : JoinedOctets) → WholeAnswer Ber (ElementRead OctetString ForwardsError JoinedRead) ForwardsError octets (Ok v) → length octets < 2 ^ 32
  counted v (too_long far none) = absurd none
  counted v (decoded answer t small read follows) = small

  element_joined : (v : JoinedOctets) → Whole (ElementNext OctetString TakesJoined v) Ber octets → Whole (ElementNext OctetString (parts.TakesParts OctetString) (joined_octets v)) Ber octets
  element_joined v e =
      record {
        says = e.says;
        header = e.header;
        contents = e.contents;
        eoc = e.eoc;
        following = e.following;
        next = e.next;
        tagged = e.tagged;
        split = e.split;
        sized = e.sized;
        has_eoc = e.has_eoc;
        whole = e.whole;
        taken = e.taken.1;
      }

  pub read_joined : (r : Result JoinedOctets Error) → IfOk r (λ v. Whole (ElementNext OctetString TakesJoined v) Ber octets) → WholeAnswer Ber (ElementRead OctetString ForwardsError JoinedRead) ForwardsError octets r
      → IfOk r (λ v. IsJoined octets (joined_octets v))
  read_joined (Err e) ok exact = tt
  read_joined (Ok v) ok exact = record { countable = counted v exact; whole = element_joined v ok }

  pub refused_joined : (r : Result JoinedOctets Error) → WholeAnswer Ber (ElementRead OctetString ForwardsError JoinedRead) ForwardsError octets r → IfErr r (NotJoined octets)
  refused_joined (Ok v) exact = tt
  refused_joined (Err e) exact = exact
