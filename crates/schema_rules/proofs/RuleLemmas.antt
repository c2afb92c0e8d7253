-- Contents that keep the rules of a list, or break one: what the encoding rules say of them.
use Rattle.std.proofs.Common.{◌≡◌, ℕ, ◌+◌, suc, ◌<◌, Bool, true, false, not, Option, Some, None, IfNone, IfSome, IsTrue, ◌↔◌, List, [], ◌∷◌, ◌++◌, length, take, drop, get_or, refl, sym, subst, ap, ◌∙◌, ⊎_elim, if◌then◌else◌, drop-cons}
use Rattle.std.proofs.lemmas.Bool.{cases_Bool}
use Rattle.std.proofs.lemmas.List.{take-append-drop, take_more}
use Rattle.ber.specs.declared.universal.Universal.{Universal}
use Rattle.ber.specs.declared.universal.Universal.TheVariants.{Boolean, Integer, BitString, OctetString, Null, ObjectIdentifier, ObjectDescriptor, External, Real, Enumerated, EmbeddedPdv, Utf8String, RelativeOid, Time, Sequence, Set, NumericString, PrintableString, TeletexString, VideotexString, Ia5String, UtcTime, GeneralizedTime, GraphicString, VisibleString, GeneralString, UniversalString, CharacterString, BmpString, Date, TimeOfDay, DateTime, Duration, OidIri, RelativeOidIri}
use Rattle.der_base.specs.declared.encoding_rules.EncodingRules.{EncodingRules}
use Rattle.der_base.specs.declared.encoding_rules.EncodingRules.TheVariants.{Ber, Der}
use Rattle.schema_rules.specs.Contents.{keeps, KeepsEach, KeepsAll, BreaksFirst, IsContents, Breaks}
use Rattle.schema_rules.specs.Rules.{is_of_der, has, allows, rules_of}
use Rattle.schema_rules.specs.declared.contents_rule.ContentsRule.{ContentsRule}

-- the rules of a list are those of the Distinguished Encoding Rules alone
abbrev pub all_of_der : List ContentsRule → Bool
all_of_der [] = true
all_of_der (r ∷ rs) = if is_of_der r then all_of_der rs else false

-- those come last
abbrev pub in_order : List ContentsRule → Bool
in_order [] = true
in_order (r ∷ rs) = if is_of_der r then all_of_der rs else in_order rs

pub rules_in_order : (u : Universal) → in_order (rules_of u) ≡ true
rules_in_order Boolean = refl
rules_in_order Integer = refl
rules_in_order BitString = refl
rules_in_order OctetString = refl
rules_in_order Null = refl
rules_in_order ObjectIdentifier = refl
rules_in_order ObjectDescriptor = refl
rules_in_order External = refl
rules_in_order Real = refl
rules_in_order Enumerated = refl
rules_in_order EmbeddedPdv = refl
rules_in_order Utf8String = refl
rules_in_order RelativeOid = refl
rules_in_order Time = refl
rules_in_order Sequence = refl
rules_in_order Set = refl
rules_in_order NumericString = refl
rules_in_order PrintableString = refl
rules_in_order TeletexString = refl
rules_in_order VideotexString = refl
rules_in_order Ia5String = refl
rules_in_order UtcTime = refl
rules_in_order GeneralizedTime = refl
rules_in_order GraphicString = refl
rules_in_order VisibleString = refl
rules_in_order GeneralString = refl
rules_in_order UniversalString = refl
rules_in_order CharacterString = refl
rules_in_order BmpString = refl
rules_in_order Date = refl
rules_in_order TimeOfDay = refl
rules_in_order DateTime = refl
rules_in_order Duration = refl
rules_in_order OidIri = refl
rules_in_order RelativeOidIri = refl

-- contents that keep all rules keep those that some encoding rules have
pub each_kept : (rules : EncodingRules) (rs : List ContentsRule) (octets : List ℕ) → KeepsAll rs octets → KeepsEach rules rs octets
each_kept rules [] octets k = tt
each_kept rules (r ∷ rs) octets k = (λ _. k.0, each_kept rules rs octets k.1)

-- contents that break a rule break encoding rules that have it
pub not_each : (rules : EncodingRules) (before : List ContentsRule) (rule : ContentsRule) (after : List ContentsRule) (octets : List ℕ)
    → has rules rule ≡ true → keeps rule octets ≡ false → KeepsEach rules (before ++ rule ∷ after) octets → ⊥
not_each rules [] rule after octets h f k = let e : true ≡ false = sym (k.0 h) ∙ f in absurd (cc)
not_each rules (r ∷ rs) rule after octets h f k = not_each rules rs rule after octets h f k.1

-- any contents keep the rules of the Basic Encoding Rules, if there are none
each_of_none : (rs : List ContentsRule) (octets : List ℕ) → all_of_der rs ≡ true → KeepsEach Ber rs octets
each_of_none [] octets a = tt
each_of_none (r ∷ rs) octets a =
    ⊎_elim
    (λ d. (λ h. let e : false ≡ true = sym (ap not d) ∙ h in absurd (cc), each_of_none rs octets (rw d at a)))
    (λ d. let e : false ≡ true = rw d at a in absurd (cc))
    (cases_Bool (is_of_der r))

-- contents that keep the rules before one that only the Distinguished Encoding Rules have are BER
pub each_before : (before : List ContentsRule) (rule : ContentsRule) (after : List ContentsRule) (octets : List ℕ)
    → in_order (before ++ rule ∷ after) ≡ true → is_of_der rule ≡ true → KeepsAll before octets → KeepsEach Ber (before ++ rule ∷ after) octets
each_before [] rule after octets o d k = each_of_none (rule ∷ after) octets (rw d (rw d at o))
each_before (r ∷ rs) rule after octets o d k = (
  λ _. k.0,
  ⊎_elim (λ e. each_of_none (rs ++ rule ∷ after) octets (rw e at o)) (λ e. each_before rs rule after octets (rw e at o) d k.1)
      (cases_Bool (is_of_der r)),
)

-- what the encoding rules allow, by the first broken rule
pub what_is_allowed : (rs : List ContentsRule) → in_order rs ≡ true → (result : Option ContentsRule) (octets : List ℕ)
    → IfNone result (KeepsAll rs octets) → IfSome result (λ r. BreaksFirst rs r octets) → (rules : EncodingRules)
    → IsTrue (allows rules result) ↔ KeepsEach rules rs octets
what_is_allowed rs o None octets none some rules = (λ _. each_kept rules rs octets none, λ _. refl)
what_is_allowed rs o (Some r) octets none b Der = (
  λ t. let e : false ≡ true = t in absurd (cc),
  λ k. absurd (not_each Der b.before r b.after octets refl b.broken (subst (λ l. KeepsEach Der l octets) b.split k)),
)
what_is_allowed rs o (Some r) octets none b Ber = ⊎_elim
    (λ d. (
      λ _. subst (λ l. KeepsEach Ber l octets) (sym b.split) (each_before b.before r b.after octets (subst (λ l. in_order l ≡ true) b.split o) d b.kept),
      λ _. rw d refl,
    ))
    (λ d. (
      λ t. let e : false ≡ true = rw d at t in absurd (cc),
      λ k. absurd (not_each Ber b.before r b.after octets (rw d refl) b.broken (subst (λ l. KeepsEach Ber l octets) b.split k)),
    ))
    (cases_Bool (is_of_der r))

-- the same of rules that are equal to these
pub is_allowed : (rs ss : List ContentsRule) → ss ≡ rs → in_order rs ≡ true → (result : Option ContentsRule) (octets : List ℕ)
    → IfNone result (KeepsAll ss octets) → IfSome result (λ r. BreaksFirst ss r octets) → (rules : EncodingRules)
    → IsTrue (allows rules result) ↔ KeepsEach rules rs octets
is_allowed rs ss e o result octets none some rules =
    what_is_allowed rs o result octets (subst (λ l. IfNone result (KeepsAll l octets)) e none) (subst (λ l. IfSome result (λ r. BreaksFirst l r octets)) e some) rules

all-append : (rs ss : List ContentsRule) (octets : List ℕ) → KeepsAll rs octets → KeepsAll ss octets → KeepsAll (rs ++ ss) octets
all-append [] ss octets a b = b
all-append (r ∷ rs) ss octets a b = (a.0, all-append rs ss octets a.1 b)

-- one more rule is kept
pub more_kept : (rs : List ContentsRule) (i : ℕ) (d : ContentsRule) (octets : List ℕ) → i < length rs
    → KeepsAll (take i rs) octets → keeps (get_or rs i d) octets ≡ true → KeepsAll (take (i + 1) rs) octets
more_kept rs i d octets h a k =
    subst (λ l. KeepsAll l octets) (sym (take_more rs i d h)) (all-append (take i rs) (get_or rs i d ∷ []) octets a (k, tt))

-- the rule after those that are kept is the first broken one
pub breaks_here : (rs : List ContentsRule) (i : ℕ) (d : ContentsRule) (octets : List ℕ) → i < length rs
    → KeepsAll (take i rs) octets → keeps (get_or rs i d) octets ≡ false → BreaksFirst rs (get_or rs i d) octets
breaks_here rs i d octets h a k =
    record {
      before = take i rs;
      after = drop (suc i) rs;
      split = sym (take-append-drop i rs) ∙ ap (λ l. take i rs ++ l) (drop-cons rs i d h);
      kept = a;
      broken = k;
    }

pub broken_is_not_der : (rule : ContentsRule) (u : Universal) (octets : List ℕ) → Breaks rule u octets → IsContents Der u octets → ⊥
broken_is_not_der rule u octets b k = not_each Der b.before rule b.after octets refl b.broken (subst (λ l. KeepsEach Der l octets) b.split k)

pub first_broken_of_der_is_ber : (rule : ContentsRule) (u : Universal) (octets : List ℕ) → Breaks rule u octets → is_of_der rule ≡ true → IsContents Ber u octets
first_broken_of_der_is_ber rule u octets b d =
    subst (λ l. KeepsEach Ber l octets) (sym b.split) (each_before b.before rule b.after octets (subst (λ l. in_order l ≡ true) b.split (rules_in_order u)) d b.kept)
