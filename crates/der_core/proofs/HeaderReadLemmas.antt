-- Headers, by their tag and their length.
use Rattle.std.proofs.Common.{◌≡◌, ℕ, ◌+◌, ◌%◌, ◌≤◌, Bool, true, false, Option, Some, Ok, Err, List, [], ◌∷◌, ◌++◌, length, take, refl, sym, ap, ◌∙◌, subst, length-append, arith}
use Rattle.der_base.specs.Error.{error_at, refusal}
use Rattle.der_base.specs.Length.{definite_length, is_indefinite}
use Rattle.der_base.specs.Tag.{IsIdentifier, IdentifierFault}
use Rattle.der_base.specs.ScanGrammar.{BodyFault}
use Rattle.der_base.specs.HeaderGrammar.{Head, head, IdentifierNext, LengthNext, HeadNext, header, LengthFault, HeaderFault, no_identifier, no_length, primitive}
use Rattle.der_base.specs.Laws.{IsGrammar}
use Rattle.der_base.specs.declared.length.Length.{Length}
use Rattle.der_base.specs.declared.tag.Tag.{Tag}
use Rattle.der_base.specs.declared.error.Error.{Error}
use Rattle.der_base.specs.declared.error.ErrorKind.{ErrorKind}
use Rattle.der_base.specs.declared.error.ErrorKind.TheVariants.{IndefiniteLength, Length as IncorrectLength}
use Rattle.der_base.proofs.HeaderLemmas.{IdentifierView, identifier_view_of, identifier_view, header_grammar}
use Rattle.der_base.proofs.ScanLemmas.{body_fault_laws}
use Rattle.der_core.specs.ReaderState.{ReaderState, rest_of, reader_position, advanced_state, stopped_state, IsSound, Reads}
use Rattle.der_core.specs.AfterFirstOctet.{Stops, AreNext, RawHeadNext}
use Rattle.der_core.specs.Identifier.{tag_of, is_constructed_identifier}
use Rattle.der_core.specs.declared.identifier.Identifier.{Identifier}
use Rattle.der_core.specs.Outcome.{Outcome, Gives, outcome_of}
use Rattle.der_core.specs.Reader.{read_slice_outcome}
use Rattle.der_core.specs.Decode.{Passes, IsRefusedBy, at_fault, has_failed}
use Rattle.der_core.specs.Header.{head_of, HeaderNext}
use Rattle.der_core.specs.declared.header.Header.{Header}
use Rattle.der_core.proofs.StateLemmas.{reads_front, rest_after, length-rest, position_on, failed_on, rules_on, stops_on}
use Rattle.der_core.proofs.TagReadLemmas.{found_alone, tag_found}
use Rattle.der_core.proofs.LengthReadLemmas.{passed_short}

-- the identifier of a tag that was read
pub record IdentifierRead (a b : ReaderState) (x : Tag × Bool) : Type 0 where
  pub octets : List ℕ
  pub is_identifier : IsIdentifier a.rules octets x.0 x.1
  pub reads : Reads a b octets

pub identifier_read : {a b : ReaderState} {x : Tag × Bool} → Passes (IdentifierNext x) a b → IdentifierRead a b x
identifier_read {a} {b} {x} h = go (identifier_view h.next)
  where
    go : IdentifierView x a.rules (rest_of a) h.octets → IdentifierRead a b x
    go (identifier_view_of id more d q c) =
        let there : advanced_state a (length id) ≡ b = ap (advanced_state a) (sym c) ∙ sym h.leaves in
        record { octets = id; is_identifier = d; reads = subst (λ t. Reads a t id) there (reads_front a id more q) }

-- a header was read
pub passed_header : {a b t : ReaderState} {x : Tag} {bit : Bool} {l : Length} → Passes (IdentifierNext (x, bit)) a b
    → Passes (LengthNext l) b t → (is_indefinite l ≡ true → bit ≡ true) → Passes (HeadNext (head x l bit)) a t
passed_header {a} {b} {t} {x} {bit} {l} h g ok =
    let id = identifier_read h in
    let following : LengthNext l a.rules (rest_of b) g.octets = subst (λ rules. LengthNext l rules (rest_of b) g.octets) (rules_on id.reads) g.next in
    let next : HeadNext (head x l bit) a.rules (id.octets ++ rest_of b) (length id.octets + g.octets) = header id.is_identifier following ok in
    let sum : a.position + length id.octets + g.octets ≡ a.position + (length id.octets + g.octets) = omega arith in
    record {
      octets = length id.octets + g.octets;
      working = h.working;
      next = subst (λ s. HeadNext (head x l bit) a.rules s (length id.octets + g.octets)) (sym id.reads.split) next;
      there = omega (arith, ap length id.reads.split, length-append id.octets (rest_of b), g.there);
      leaves = g.leaves ∙ ap (λ s. advanced_state s g.octets) id.reads.state ∙ ap (λ p. record a { position = p }) sum;
    }

-- an error in a header
pub header_tag_refused : {a t : ReaderState} {e : Error} → IsRefusedBy IdentifierFault a e t → IsRefusedBy (HeaderFault BodyFault) a e t
header_tag_refused (has_failed f reported leaves) = has_failed f reported leaves
header_tag_refused (at_fault r w fault reported leaves) = at_fault r w (no_identifier fault) reported leaves

pub header_length_refused : {a b t : ReaderState} {x : Tag} {bit : Bool} {e : Error} {wrong : ErrorKind} → Passes (IdentifierNext (x, bit)) a b → wrong ≡ IncorrectLength x
    → IsRefusedBy (LengthFault BodyFault wrong) b e t → IsRefusedBy (HeaderFault BodyFault) a e t
header_length_refused h same (has_failed f p q) =
    let id = identifier_read h in
    absurd (let no : true ≡ false = sym f ∙ failed_on id.reads ∙ h.working in cc)
header_length_refused {a} {b} {t} {x} {e = e} {wrong} h same (at_fault r w fault reported leaves) =
    let id = identifier_read h in
    let here : b.position ≡ a.position + length id.octets = position_on id.reads in
    let moved : LengthFault BodyFault (IncorrectLength x) a.rules (a.position + length id.octets) (rest_of b) r =
    subst (λ n. LengthFault BodyFault (IncorrectLength x) a.rules n (rest_of b) r) here
    (subst (λ rules. LengthFault BodyFault (IncorrectLength x) rules b.position (rest_of b) r) (rules_on id.reads)
    (subst (λ k. LengthFault BodyFault k b.rules b.position (rest_of b) r) same fault)) in
    let stops : Stops b r e t = record { reported = reported; leaves = leaves } in
    at_fault r h.working (subst (λ s. HeaderFault BodyFault a.rules a.position s r) (sym id.reads.split) (no_length id.is_identifier moved))
    reported (stops_on id.reads stops).leaves

-- a header of two octets is available, and was read at once
slice_fits : (s : ReaderState) (n : ℕ) → s.failed ≡ false → s.position + n ≤ s.end → read_slice_outcome n s ≡ outcome_of (Ok (take n (rest_of s))) (advanced_state s n)
slice_fits s n working fits = grind arith

fits_two : {s : ReaderState} {o p : ℕ} {more : List ℕ} → IsSound s → rest_of s ≡ o ∷ p ∷ more → s.position + 2 ≤ s.end
fits_two {s} sound split = omega (arith, length-rest s sound, ap length split, sound.ordered)

pub short_passed : {s t : ReaderState} {x : Option (ℕ × ℕ)} {o p n : ℕ} {l : List ℕ} {count : Length} → IsSound s → AreNext s x → x ≡ Some (o, p) → n ≡ 2 → count ≡ definite_length p
    → Gives (read_slice_outcome n) s (Ok l) t → Passes (RawHeadNext (record { first = o; number = o % 32 }, count)) s t
short_passed {s} {t} {x} {o} {p} {count = count} sound there is two counted h =
    let a : AreNext s (Some (o, p)) = subst (AreNext s) is there in
    let more = a.3.0 in
    let split : rest_of s ≡ o ∷ p ∷ more = a.3.1 in
    let b = advanced_state s 1 in
    let first : Reads s b (o ∷ []) = reads_front s (o ∷ []) (p ∷ more) split in
    let second : Reads b (advanced_state b 1) (p ∷ []) = reads_front b (p ∷ []) more (rest_after s (o ∷ []) (p ∷ more) split) in
    let found = found_alone b o a.1 in
    let tag = tag_found a.0 first found in
    let length_read = passed_short {l = definite_length p} a.0 second a.2 refl in
    let sum : s.position + 1 + 1 ≡ s.position + 2 = omega arith in
    let after : t ≡ advanced_state b 1 = h.leaves ∙ ap (λ n. (read_slice_outcome n s).after) two ∙ ap (λ (q : Outcome (List ℕ)). q.after) (slice_fits s 2 a.0 (fits_two sound split)) ∙ ap (λ n. record s { position = n }) (sym sum) in
    subst (λ c. Passes (RawHeadNext (record { first = o; number = o % 32 }, c)) s t) (sym counted)
    (subst (Passes (RawHeadNext (record { first = o; number = o % 32 }, definite_length p)) s) (sym after) (passed_header tag length_read (λ flagged. absurd (let no : false ≡ true = flagged in cc))))

pub short_granted : {s t : ReaderState} {x : Option (ℕ × ℕ)} {o p n : ℕ} {e : Error} → IsSound s → AreNext s x → x ≡ Some (o, p) → n ≡ 2 → Gives (read_slice_outcome n) s (Err e) t → ⊥
short_granted {s} {x = x} {o} {p} {e = e} sound there is two h =
    let a : AreNext s (Some (o, p)) = subst (AreNext s) is there in
    let fits = fits_two sound a.3.1 in
    let no : Err e ≡ Ok (take 2 (rest_of s)) = h.answered ∙ ap (λ n. (read_slice_outcome n s).answer) two ∙ ap (λ (q : Outcome (List ℕ)). q.answer) (slice_fits s 2 a.0 fits) in
    cc

-- a header whose identifier was returned
pub raw_header_consumed : {s t : ReaderState} {l : Length} {h : Header} (i : Identifier) → head_of h ≡ head (tag_of i) l (is_constructed_identifier i)
    → Passes (RawHeadNext (i, l)) s t → Passes (HeaderNext h) s t
raw_header_consumed {s} {t} i reported h = subst (λ x. Passes (HeadNext x) s t) (sym reported) h

-- an indefinite length after a primitive identifier
pub header_primitive : {a b c t : ReaderState} {x : Tag} {bit : Bool} {l : Length} {e : Error} → Passes (IdentifierNext (x, bit)) a b → bit ≡ false
    → Passes (LengthNext l) b c → is_indefinite l ≡ true → e ≡ error_at IndefiniteLength (reader_position c) → t ≡ stopped_state c c.position → IsRefusedBy (HeaderFault BodyFault) a e t
header_primitive {a} {b} {c} {t} {x} {bit} {l} {e} h primitive_bit g flag reported leaves =
    let id = identifier_read h in
    let m = g.octets in
    let is : IsIdentifier a.rules id.octets x false = subst (IsIdentifier a.rules id.octets x) primitive_bit id.is_identifier in
    let following : LengthNext l a.rules (rest_of b) m = subst (λ rules. LengthNext l rules (rest_of b) m) (rules_on id.reads) g.next in
    let here : c.position ≡ a.position + length id.octets + m = omega (arith, ap (λ (s : ReaderState). s.position) g.leaves, position_on id.reads) in
    let there : c ≡ record a { position = a.position + length id.octets + m } = g.leaves ∙ ap (λ s. advanced_state s m) id.reads.state in
    at_fault (refusal IndefiniteLength (a.position + length id.octets + m)) h.working
    (subst (λ s. HeaderFault BodyFault a.rules a.position s (refusal IndefiniteLength (a.position + length id.octets + m))) (sym id.reads.split) (primitive is following flag))
    (reported ∙ ap (λ n. error_at IndefiniteLength (definite_length n)) here) (leaves ∙ ap (λ s. stopped_state s s.position) there)

-- two headers with the same content are the same
header_saying : Head → Header
header_saying x = record { tag = x.tag; length = x.length; constructed = x.constructed }

pub same_header : (h g : Header) → head_of h ≡ head_of g → h ≡ g
unfolding header_saying
same_header h g e = ap header_saying e

-- the grammar of headers, as a decoder returns them
pub decoded_header_grammar : IsGrammar HeaderNext (HeaderFault BodyFault)
decoded_header_grammar =
    let laws = header_grammar BodyFault body_fault_laws in
    record {
      one = λ rules octets v w m n h g. (let one = laws.one rules octets (head_of v) (head_of w) m n h g in (same_header v w one.0, one.1));
      one_fault = laws.one_fault;
      never_both = λ rules at octets v m r h f. laws.never_both rules at octets (head_of v) m r h f;
    }
