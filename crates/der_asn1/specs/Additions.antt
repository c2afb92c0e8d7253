-- Elements at an extension insertion point that a type does not know (X.680 25.1, 25.6): they are
-- next (`AdditionsNext`), they are a field (`additions`), and the possible results of reading them
-- (`AdditionsRead`).
use mathlib.Core.HLevel.{hedberg, Σ_prop_path}
use mathlib.Core.Logic.{∥∥₁_elim, ∥∥₁_prop, ∥∥₁_map}
use Rattle.std.proofs.Common.{◌≡◌, ◌↔◌, ◌⊎◌, inl, inr, IsTrue, ℕ, ◌^◌, ◌<◌, Bool, true, false, List, [], ◌∷◌, ◌++◌, length, drop, refl, sym, ap, subst, ◌∙◌}
use Rattle.std.specs.Coded.{Coded-set, coded_bool, coded_list, coded_ℕ, le_prop}
use Rattle.std.proofs.lemmas.List.{drop_at}
use Rattle.der.specs.Prelude.{Der, EncodingRules, Tag, element_octets, tag_octets}
use Rattle.der.specs.HeaderGrammar.{TagNext}
use Rattle.der.specs.Tag.{label}
use Rattle.der_base.proofs.EqualityLemmas.{tag_equality}
use Rattle.der_base.proofs.HeaderLemmas.{one_tag}
use Rattle.der_asn1.specs.AnyRef.{IsAny, any_contents}
use Rattle.der_asn1.specs.declared.elements.any.AnyRef.{AnyRef}
use Rattle.der_asn1.specs.Follow.{NoTagIn, StartsIn, this_tag}
use Rattle.der_asn1.specs.FollowLemmas.{fewer_tags, starts_append, starts_wider, tag_octets_begin_with_tag}
use Rattle.der_asn1.specs.Meaning.{FieldSpec}
use Rattle.der_asn1.specs.OctetsWith.{HasOctetsWith}
use Rattle.der_asn1.specs.SequenceOf.{IsListOf, AllValid, joined_encodings}
use Rattle.der_asn1.specs.SetLaws.{SetLaws}
use Rattle.der_asn1.specs.TagSets.{all_but, IsIn, IsOf, is_among}

-- nothing follows, or an element with a known tag
abbrev pub EndsUnknown : List (ℕ × ℕ) → List ℕ → Type 0
EndsUnknown known following = NoTagIn (IsOf (all_but known)) Der following

-- octets are values that begin with an unknown tag, in sequence
abbrev pub IsUnknown : {A : Type 0} → List (ℕ × ℕ) → (A → Type 0) → (A → List ℕ) → A → Type 0
IsUnknown known valid encoding v = valid v × StartsIn (IsOf (all_but known)) (encoding v)

abbrev pub AreUnknown : {A : Type 0} → List (ℕ × ℕ) → (A → Type 0) → (A → List ℕ) → List ℕ → Type 0
AreUnknown known valid encoding octets =
    IsListOf (IsUnknown known valid encoding) encoding octets

-- octets are elements with unknown tags, in sequence
abbrev pub any_octets : AnyRef → List ℕ
any_octets v = element_octets v.tag (any_contents v)

abbrev pub AreAdditions : List (ℕ × ℕ) → List ℕ → Type 0
AreAdditions known octets = AreUnknown known IsAny any_octets octets

-- the octets of the value are elements with unknown tags, and what follows is not one that belongs to them. Their
-- headers are those of DER under any rules
pub record AdditionsNext {B : Type 0} (known : List (ℕ × ℕ)) (octets_of : B → List ℕ) (b : B) (rules : EncodingRules) (octets : List ℕ) (m : ℕ) : Type 0 where
  pub are : ∥ AreAdditions known (octets_of b) ∥₁
  pub short : length (octets_of b) < 2 ^ 32
  pub following : List ℕ
  pub split : octets ≡ octets_of b ++ following
  pub whole : m ≡ length (octets_of b)
  pub ends : EndsUnknown known following

-- ---- octets of which only is known that they begin with a tag

tag_decided : (s t : Tag) → Dec (s ≡ t)
tag_decided s t = go _ (tag_equality s t)
  where
    go : (b : Bool) → (IsTrue b ↔ (s ≡ t)) → Dec (s ≡ t)
    go true h = yes (h.0 refl)
    go false h = no (λ e. (let f : false ≡ true = h.1 e in cc))

tag_set : (s t : Tag) (p q : s ≡ t) → p ≡ q
tag_set = hedberg tag_decided

octets_set : (a b : List ℕ) (p q : a ≡ b) → p ≡ q
octets_set = Coded-set (coded_list coded_ℕ)

bool_set : (a b : Bool) (p q : a ≡ b) → p ≡ q
bool_set = Coded-set coded_bool

pub start_next : {tags : Tag → Type 0} {octets : List ℕ} (s : StartsIn tags octets)
    → TagNext s.tag Der octets (length (tag_octets s.tag))
start_next s =
    subst (λ x. TagNext s.tag Der x (length (tag_octets s.tag))) (sym s.split)
    (tag_octets_begin_with_tag s.tag s.more s.numbered)

one_start : {tags more : Tag → Type 0} {octets : List ℕ} (s : StartsIn tags octets)
    (t : StartsIn more octets) → s.tag ≡ t.tag
one_start s t = (one_tag (start_next s) (start_next t)).0

-- the tag with which octets begin
abbrev Found : List ℕ → Type 0
Found octets = (t : Tag) × ∥ StartsIn (this_tag t) octets ∥₁

found_prop : (octets : List ℕ) (f g : Found octets) → f ≡ g
found_prop octets f g =
    Σ_prop_path (λ t. ∥∥₁_prop)
    (∥∥₁_elim f.1 (tag_set f.0 g.0) (λ s. ∥∥₁_elim g.1 (tag_set f.0 g.0)
    (λ t. sym s.among ∙ one_start s t ∙ t.among)))

found : {tags : Tag → Type 0} {octets : List ℕ} → ∥ StartsIn tags octets ∥₁ → Found octets
found {octets = octets} t =
    ∥∥₁_elim t (found_prop octets)
    (λ s. (
      s.tag,
      ∣ record { tag = s.tag; more = s.more; split = s.split; numbered = s.numbered; among = refl } ∣₁,
    ))

started : (known : List (ℕ × ℕ)) {octets : List ℕ} → ∥ StartsIn (IsOf (all_but known)) octets ∥₁
    → StartsIn (IsOf (all_but known)) octets
started known {octets} t =
    let f = found t in
    record {
      tag = f.0;
      more = drop (length (tag_octets f.0)) octets;
      split = ∥∥₁_elim f.1 (octets_set _ _) (λ s. cut s);
      numbered = ∥∥₁_elim f.1 le_prop (λ s. subst (λ x. (label x).number < 2 ^ 32) s.among s.numbered);
      among =
          ∥∥₁_elim t (bool_set _ _) (λ s. ∥∥₁_elim f.1 (bool_set _ _)
          (λ r. subst (λ x. is_among known x ≡ false) (one_start s r ∙ r.among) s.among));
    }
  where
    cut : {u : Tag} → StartsIn (this_tag u) octets
        → octets ≡ tag_octets u ++ drop (length (tag_octets u)) octets
    cut {u} s =
        let split : octets ≡ tag_octets u ++ s.more =
        s.split ∙ ap (λ x. tag_octets x ++ s.more) s.among in
        split ∙ ap (λ x. tag_octets u ++ x)
        (sym (ap (drop (length (tag_octets u))) split
        ∙ drop_at (tag_octets u) s.more (length (tag_octets u)) refl))

-- ---- additions as a field

cons_some : (o : ℕ) (os : List ℕ) → o ∷ os ≡ [] → ⊥
cons_some o os e = cc

module _ {B : Type 0} (known : List (ℕ × ℕ)) (octets_of : B → List ℕ) where
  elements_start : (octets : List ℕ) → (octets ≡ [] → ⊥) → AreAdditions known octets
      → StartsIn (IsOf (all_but known)) octets
  elements_start octets some l = go l.items l.are_valid l.joined
    where
      go : (items : List AnyRef) → AllValid (IsUnknown known IsAny any_octets) items
          → octets ≡ joined_encodings any_octets items → StartsIn (IsOf (all_but known)) octets
      go [] are e = absurd (some e)
      go (v ∷ vs) are e =
          subst (StartsIn (IsOf (all_but known))) (sym e)
          (starts_append (any_octets v) _ are.0.1)

  additions_start : (octets : List ℕ) → ∥ AreAdditions known octets ∥₁
      → (octets ≡ []) ⊎ StartsIn (IsIn (all_but known ∷ [])) octets
  additions_start [] t = inl refl
  additions_start (o ∷ os) t =
      inr (starts_wider (λ t h. inl h)
      (started known (∥∥₁_map t (elements_start (o ∷ os) (cons_some o os)))))

  pub additions_laws : SetLaws false (all_but known ∷ []) (all_but known ∷ [])
      (λ b following. EndsUnknown known following) (AdditionsNext known octets_of)
      (HasOctetsWith (AreAdditions known) octets_of) octets_of
  additions_laws =
      record {
        reads = record {
          only = λ octets b m h. record {
            is_valid = (h.are, h.short);
            following = h.following;
            split = h.split;
            whole = h.whole;
            precedes = h.ends;
          };
          every = λ octets b m short e. record {
            are = e.is_valid.0;
            short = e.is_valid.1;
            following = e.following;
            split = e.split;
            whole = e.whole;
            ends = e.precedes;
          };
        };
        starts = record { starts = λ b is. additions_start (octets_of b) is.0 };
        some = λ e. absurd (let no : false ≡ true = e in cc);
        precedes = record { precedes = λ b following is none. fewer_tags (λ t h. inl h) none };
        holds = λ b rules octets m h. (h.are, h.short);
      }

  -- additions as a field: after fields whose absence no tag of theirs decides, and before fields that
  -- begin with known tags
  abbrev pub additions : FieldSpec B
  additions =
      record {
        is_next = AdditionsNext known octets_of;
        valid = HasOctetsWith (AreAdditions known) octets_of;
        encoding = octets_of;
        levels = λ _. 0;
        always = false;
        first = all_but known ∷ [];
        stops = all_but known ∷ [];
        precedes = λ b following. EndsUnknown known following;
        is_compatible = true;
        laws = λ e. additions_laws;
      }
