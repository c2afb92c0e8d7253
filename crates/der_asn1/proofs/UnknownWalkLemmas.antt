-- Lemmas on passing values that begin with unknown tags.
use Rattle.std.proofs.Common.{◌≡◌, ℕ, ◌+◌, ◌-◌, arith, ◌^◌, ◌<◌, Bool, true, false, Ok, Err, Result, List, [], ◌∷◌, ◌++◌, length, refl, sym, ap, subst, ◌∙◌, append_assoc}
use Rattle.der.specs.Prelude.{Der, EncodingRules, Error, Length, ReaderState, Reads, Tag, definite_length, length_octets, number, rest_of, tag_octets}
use Rattle.der.specs.HeaderGrammar.{TagNext}
use Rattle.der.specs.Tag.{label, IsIdentifier, of_tag, of_segments}
use Rattle.der.specs.Decode.{SucceedsOrLacks}
use Rattle.der.specs.ReaderState.{IsSound}
use Rattle.der.proofs.DecodeLemmas.{not_refused}
use Rattle.der.proofs.StateLemmas.{reads_none, reads_on}
use Rattle.der.proofs.HeaderLemmas.{IdentifierView, identifier_view_of, identifier_view, one_tag, tag_grammar}
use Rattle.der_base.proofs.TagLemmas.{tag_front}
use Rattle.der_asn1.specs.Additions.{AreUnknown, EndsUnknown, IsUnknown, start_next}
use Rattle.der_asn1.specs.Follow.{StartsIn, nothing, other}
use Rattle.der_asn1.specs.FollowLemmas.{starts_append}
use Rattle.der_asn1.specs.Item.{IsElement}
use Rattle.der_asn1.specs.ListAnswers.{ItemAnswer}
use Rattle.der_asn1.specs.SequenceOf.{AllValid, IsAtItem, joined_encodings}
use Rattle.der_asn1.specs.TagSets.{all_but, IsOf, is_among}
use Rattle.der_asn1.specs.UnknownWalk.{IsUnknownCount, IsUnknownFront, Looks, PassesUnknown, UnknownWalk, at_end, at_known, at_unknown, no_tag, walk_continues}
use Rattle.der_asn1.proofs.OptionalReadLemmas.{no_tag_in_nothing, peeked, rest_at_end, rest_before_end}
use Rattle.der_asn1.proofs.SequenceOfLemmas.{cons, same_front, still_at_item}

is_tag : {rules : EncodingRules} {id : List ℕ} {t : Tag} {b : Bool} → rules ≡ Der → IsIdentifier rules id t b → (id ≡ tag_octets t) × ((label t).number < 2 ^ 32)
is_tag der (of_tag h) = (refl, h)
is_tag der of_segments = absurd (cc)

-- an element with which octets begin has the tag with which they begin
starts_with : {tags : Tag → Type 0} {t : Tag} {octets element : List ℕ} (others : List ℕ) {n : ℕ} → TagNext t Der octets n → tags t → IsElement element → octets ≡ element ++ others → StartsIn tags element
starts_with {tags} {t} {octets} {element} others {n} next among is split = go (identifier_view next.1)
  where
    go : IdentifierView (t, next.0) Der octets n → StartsIn tags element
    go (identifier_view_of id more d e c) =
        let r = is_tag refl d in
        let after : List ℕ = length_octets (length is.contents) ++ is.contents in
        let whole : element ≡ tag_octets is.tag ++ after = is.whole ∙ append_assoc (tag_octets is.tag) (length_octets (length is.contents)) is.contents in
        let front : tag_octets t ++ more ≡ tag_octets is.tag ++ (after ++ others) =
        ap (λ x. x ++ more) (sym r.0) ∙ sym e ∙ split ∙ ap (λ x. x ++ others) whole ∙ append_assoc (tag_octets is.tag) after others in
        let same : t ≡ is.tag = (tag_front t is.tag more (after ++ others) front).0 in
        record {
          tag = t;
          more = after;
          split = whole ∙ ap (λ x. tag_octets x ++ after) (sym same);
          numbered = r.1;
          among = among;
        }

-- the tag of which a look says that it is unknown
record UnknownNext (known : List (ℕ × ℕ)) (s : ReaderState) : Type 0 where
  pub tag : Tag
  pub count : ℕ
  pub next : TagNext tag s.rules (rest_of s) count
  pub among : is_among known tag ≡ false

unknown_seen : {known : List (ℕ × ℕ)} {reliable : Bool} {s : ReaderState} {b : Bool} → Looks known reliable s (Ok b) → b ≡ true → UnknownNext known s
unknown_seen (at_end e r) is = absurd (cc)
unknown_seen (at_known t p among r) is = absurd (cc)
unknown_seen (at_unknown t p among r) is = record { tag = t; count = p.1.ok.octets; next = peeked p; among = among }
unknown_seen (no_tag e some p r) is = absurd (cc)

-- the tag is read under DER
next_of : {known : List (ℕ × ℕ)} {s : ReaderState} → IsAtItem s → (u : UnknownNext known s) → TagNext u.tag Der (rest_of s) u.count
next_of {s = s} at u = subst (λ x. TagNext u.tag x (rest_of s) u.count) at.der u.next

-- no unknown value is left
ends_seen : {known : List (ℕ × ℕ)} {reliable : Bool} {s : ReaderState} {b : Bool} → Looks known reliable s (Ok b) → b ≡ false → s.rules ≡ Der → EndsUnknown known (rest_of s)
ends_seen {s = s} (at_end e r) is der = nothing (rest_at_end s e)
ends_seen {known = known} {s = s} (at_known t p among r) is der =
    other t p.1.ok.octets (subst (λ x. TagNext t x (rest_of s) p.1.ok.octets) der (peeked p)) (λ no. (cc))
ends_seen (at_unknown t p among r) is der = absurd (cc)
ends_seen (no_tag e some p r) is der = absurd (cc)

-- what begins with an unknown tag does not end unknown values
pub not_ended : (known : List (ℕ × ℕ)) {t : Tag} {octets : List ℕ} {n : ℕ} → TagNext t Der octets n → is_among known t ≡ false → EndsUnknown known octets → ⊥
not_ended known next among (nothing e) = no_tag_in_nothing next e
not_ended known next among (other u m h not) = not (subst (λ x. is_among known x ≡ false) (one_tag next h).0 among)

module _ {A : Type 0} (known : List (ℕ × ℕ)) (valid : A → Type 0) (encoding : A → List ℕ) where
  -- octets that begin with an unknown tag begin with the first of the unknown values
  record IsFirst (octets front : List ℕ) : Type 0 where
    pub first : A
    pub is_valid : IsUnknown known valid encoding first
    pub others : List ℕ
    pub split : front ≡ encoding first ++ others
    pub list : AreUnknown known valid encoding others

  first_of : {t : Tag} {octets front : List ℕ} {n : ℕ} → TagNext t Der octets n → is_among known t ≡ false → IsUnknownFront known valid encoding octets front → IsFirst octets front
  first_of {t} {octets} {front} {n} next among f = go f.are.items f.are.are_valid f.are.joined
    where
      go : (items : List A) → AllValid (IsUnknown known valid encoding) items → front ≡ joined_encodings encoding items → IsFirst octets front
      go [] are e = absurd (not_ended known next among (subst (EndsUnknown known) (sym (f.split ∙ ap (λ x. x ++ f.following) e)) f.ends))
      go (v ∷ vs) are e = record { first = v; is_valid = are.0; others = joined_encodings encoding vs; split = e; list = record { items = vs; are_valid = are.1; joined = refl } }

  -- the state of a walk over unknown values
  pub record IsPassing (first s : ReaderState) : Type 0 where
    pub at : IsAtItem s
    pub back : (t : ReaderState) → PassesUnknown known valid encoding s t → PassesUnknown known valid encoding first t
    pub on : (front : List ℕ) → IsUnknownFront known valid encoding (rest_of first) front → (left : List ℕ) × IsUnknownFront known valid encoding (rest_of s) left

  pub begins_passing : (s : ReaderState) → IsAtItem s → IsPassing s s
  begins_passing s at = record { at = at; back = λ t p. p; on = λ front f. (front, f) }

  pub goes_on : {reliable : Bool} {first s t : ReaderState} {b : Bool} (v : A) → ((w : A) → valid w → IsElement (encoding w)) → IsPassing first s → Looks known reliable s (Ok b) → b ≡ true → valid v → Reads s t (encoding v) → IsPassing first t
  goes_on {first = first} {s} {t} v element w look yes_is is r =
      let seen = unknown_seen look yes_is in
      let next = next_of w.at seen in
      let starts = starts_with (rest_of t) next seen.among (element v is) r.split in
      record {
        at = still_at_item w.at r;
        back = λ u p. w.back u (before u p starts);
        on = λ front f. (
            let g = w.on front f in
            after g.0 (first_of next seen.among g.1) g.1);
      }
    where
      before : (u : ReaderState) → PassesUnknown known valid encoding t u → StartsIn (IsOf (all_but known)) (encoding v) → PassesUnknown known valid encoding s u
      before u p starts =
          record {
            front = encoding v ++ p.front;
            are = cons v (is, starts) refl p.are;
            reads = reads_on r p.reads;
            ends = p.ends;
          }

      after : (left : List ℕ) → IsFirst (rest_of s) left → IsUnknownFront known valid encoding (rest_of s) left → (more : List ℕ) × IsUnknownFront known valid encoding (rest_of t) more
      after left one f =
          let same = same_front (encoding v) (encoding one.first) (rest_of t) (one.others ++ f.following) (element v is) (element one.first one.is_valid.0)
          (sym r.split ∙ f.split ∙ ap (λ x. x ++ f.following) one.split ∙ append_assoc (encoding one.first) one.others f.following) in
          (one.others, record { following = f.following; are = one.list; split = same.1; ends = f.ends })

  -- nothing is passed where no unknown value is next
  pub nothing_passed : {reliable : Bool} {s : ReaderState} {b : Bool} → IsAtItem s → Looks known reliable s (Ok b) → b ≡ false → PassesUnknown known valid encoding s s
  nothing_passed {s = s} at look is = record { front = []; are = record { items = []; are_valid = tt; joined = refl }; reads = reads_none s; ends = ends_seen look is at.der }

  -- where unknown values may end, a tag or nothing is next
  no_refusal : {s : ReaderState} {e : Error} → IsSound s → IsAtItem s → Looks known true s (Err e) → (front : List ℕ) → IsUnknownFront known valid encoding (rest_of s) front → ⊥
  no_refusal sound at (at_end h r) front f = (cc)
  no_refusal sound at (at_known t p among r) front f = (cc)
  no_refusal sound at (at_unknown t p among r) front f = (cc)
  no_refusal {s} sound at (no_tag e some p r) front f = go f.are.items f.are.are_valid f.are.joined
    where
      refused : {t : Tag} {n : ℕ} → TagNext t Der (rest_of s) n → ⊥
      refused {t} {n} next = not_refused tag_grammar (p.1.refused refl) at.working (subst (λ x. TagNext t x (rest_of s) n) (sym at.der) next)

      ended : {following : List ℕ} → rest_of s ≡ following → EndsUnknown known following → ⊥
      ended h (nothing none) = rest_before_end s sound some (h ∙ none)
      ended h (other t n next not) = refused (subst (λ x. TagNext t Der x n) (sym h) next)

      go : (items : List A) → AllValid (IsUnknown known valid encoding) items → front ≡ joined_encodings encoding items → ⊥
      go [] are h = ended (f.split ∙ ap (λ x. x ++ f.following) h) f.ends
      go (v ∷ vs) are h =
          let start = starts_append (encoding v) (joined_encodings encoding vs ++ f.following) are.0.1 in
          refused (subst (λ x. TagNext start.tag Der x (length (tag_octets start.tag))) (sym (f.split ∙ ap (λ x. x ++ f.following) h ∙ append_assoc (encoding v) (joined_encodings encoding vs) f.following)) (start_next start))

  pub look_never_refused : {reliable : Bool} {first s : ReaderState} {e : Error} → IsSound s → IsPassing first s → reliable ≡ true → Looks known reliable s (Err e) → (front : List ℕ) → IsUnknownFront known valid encoding (rest_of first) front → ⊥
  look_never_refused {s = s} {e} sound w yes_is look front f =
      let g = w.on front f in
      no_refusal sound w.at (subst (λ b. Looks known b s (Err e)) yes_is look) g.0 g.1

  -- reading the next value succeeds
  pub next_succeeds : {E : Type 0} (oom : E → Bool) {allocates reliable : Bool} {first s : ReaderState} {b : Bool} {e : E} → IsPassing first s → Looks known reliable s (Ok b) → b ≡ true
      → ((v : A) (others : List ℕ) → valid v → rest_of s ≡ encoding v ++ others → SucceedsOrLacks {A = A} oom allocates (Err e)) → (front : List ℕ) → IsUnknownFront known valid encoding (rest_of first) front → SucceedsOrLacks {A = A} oom allocates (Err e)
  next_succeeds oom {s = s} w look yes_is owed front f =
      let g = w.on front f in
      let seen = unknown_seen look yes_is in
      let one = first_of (next_of w.at seen) seen.among g.1 in
      owed one.first (one.others ++ g.1.following) one.is_valid.0 (g.1.split ∙ ap (λ x. x ++ g.1.following) one.split ∙ append_assoc (encoding one.first) one.others g.1.following)

  -- what a walk has passed is counted by what is left before and after it
  pub counted : {s t : ReaderState} → PassesUnknown known valid encoding s t → IsSound t → (before after n : Length) → before ≡ definite_length (s.end - s.position) → after ≡ definite_length (t.end - t.position) → n ≡ definite_length (number before - number after) → IsUnknownCount known valid encoding (rest_of s) n
  counted {s} {t} p sound before after n b a e =
      let end : t.end ≡ s.end = ap (λ (x : ReaderState). x.end) p.reads.state in
      let there : t.position ≡ s.position + length p.front = ap (λ (x : ReaderState). x.position) p.reads.state in (
        p.front,
        record { following = rest_of t; are = p.are; split = p.reads.split; ends = p.ends },
        omega (arith, ap number b, ap number a, ap number e, end, there, sound.ordered),
      )

-- the results of a walk so far, and of the rest of it
module _ {T E : Type 0} (known : List (ℕ × ℕ)) (converts : Error → E → Type 0) (reads : ReaderState → Result T E → ReaderState → Type 0) where
  pub record IsWholeUnknown (first s : ReaderState) : Type 0 where
    pub whole : (result : Result (Unit {0}) E) (t : ReaderState) → UnknownWalk known converts reads result t s → UnknownWalk known converts reads result t first

  pub unknown_begins : (s : ReaderState) → IsWholeUnknown s s
  unknown_begins s = record { whole = λ result t w. w }

  pub unknown_on : (first s t : ReaderState) (v : T) {b : Bool} → IsWholeUnknown first s → Looks known true s (Ok b) → b ≡ true → ItemAnswer converts reads s (Ok v) t → IsWholeUnknown first t
  unknown_on first s t v w look yes_is item = record { whole = λ result u rest. w.whole result u (walk_continues t v (subst (λ x. Looks known true s (Ok x)) yes_is look) item rest) }
