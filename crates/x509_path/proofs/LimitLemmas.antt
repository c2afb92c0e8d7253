-- Lemmas on pathLenConstraints: octets have one at most, and limits together.
use Rattle.std.proofs.Common.{◌≡◌, ◌↔◌, ◌⊎◌, inl, inr, ◌<◌, ◌≤◌, ◌-◌, ◌^◌, ℕ, Bool, true, false, not, nat_lt, List, [], ◌∷◌, ◌++◌, All, Option, Some, None, Result, Ok, length, min, if◌then◌else◌, refl, sym, ap, subst, ◌∙◌, arith}
use Rattle.std.proofs.lemmas.Bool.{and_from, and_parts, cases_lt, cond-false, cond-true, lt-ltb, ltb-true}
use Rattle.std.proofs.lemmas.List.Elements.{All-cons, All-head, All-nil, All-tail}
use Rattle.std.proofs.lemmas.Grind.{not_there}
use Rattle.std.specs.Option.{option_map}
use Rattle.der.specs.Decode.{WholeAnswer, too_long, decoded}
use Rattle.der.specs.Prelude.{Boolean, Der, Error, Integer, ReaderState, Sequence, element_octets}
use Rattle.der.proofs.DelimitedLemmas.{element_front}
use Rattle.der_asn1.proofs.IntegerReadLemmas.{made_number}
use Rattle.der_asn1.specs.Forms.{integer_form, is_false}
use Rattle.der_asn1.specs.Integer.{integer_octets, is_negative, magnitude, signed_form, unsigned_form}
use Rattle.path_rules.specs.Path.{HasRoom}
use Rattle.x509.proofs.EncodingLemmas.{element_same, elements_apart, extension_same, extensions_apart}
use Rattle.der_asn1.specs.Optional.{option_encoding}
use Rattle.der_asn1.specs.SequenceOf.{AllValid, IsListOf, joined_encodings}
use Rattle.x509.specs.CertificateLists.{IsExtension, extension_encoding}
use Rattle.x509.specs.contracts.asn1.basic_constraints.BasicConstraintsItem.TheImpl as basic
use Rattle.x509.specs.declared.asn1.basic_constraints.BasicConstraints.{BasicConstraints}
use Rattle.x509.specs.declared.asn1.extension.Extension.{Extension}
use Rattle.x509_path.specs.PathLimits.{Allows, AllowsBy, lesser, limit_number, limit_of}

append_nil : (l : List ℕ) → l ++ [] ≡ l
append_nil [] = refl
append_nil (o ∷ l) = ap (λ x. o ∷ x) (append_nil l)

-- a number that fits, one that does not, and one that is negative
pub as_number : (octets : List ℕ) (n : ℕ) → is_negative octets ≡ false → unsigned_form (2 ^ 64) octets ≡ true → integer_octets false n ≡ octets → n ≡ limit_number octets
as_number octets n plain form same =
    let number : n ≡ magnitude octets = sym (made_number false n) ∙ ap magnitude same in
    let parts = and_parts (integer_form octets) (nat_lt (magnitude octets) (2 ^ 64)) (and_parts (not (is_negative octets)) (signed_form (2 ^ 64) octets) form).1 in
    let small = ltb-true (magnitude octets) (2 ^ 64) parts.1 in
    let least : magnitude octets ≡ min (magnitude octets) (2 ^ 64 - 1) = omega (arith, small) in
    number ∙ least ∙ sym (cond-false (is_negative octets) 0 (min (magnitude octets) (2 ^ 64 - 1)) plain)

pub too_large : (octets : List ℕ) → is_negative octets ≡ false → integer_form octets ≡ true → (unsigned_form (2 ^ 64) octets ≡ true → ⊥) → 2 ^ 64 - 1 ≡ limit_number octets
too_large octets plain form large = by_size (cases_lt (magnitude octets) (2 ^ 64))
  where
    by_size : (magnitude octets < 2 ^ 64) ⊎ (2 ^ 64 ≤ magnitude octets) → 2 ^ 64 - 1 ≡ limit_number octets
    by_size (inl small) =
        absurd (large (and_from (not (is_negative octets)) (signed_form (2 ^ 64) octets) (ap not plain)
        (and_from (integer_form octets) (nat_lt (magnitude octets) (2 ^ 64)) form (lt-ltb (magnitude octets) (2 ^ 64) small))))
    by_size (inr great) =
        let least : 2 ^ 64 - 1 ≡ min (magnitude octets) (2 ^ 64 - 1) = omega (arith, great) in
        least ∙ sym (cond-false (is_negative octets) 0 (min (magnitude octets) (2 ^ 64 - 1)) plain)

pub as_negative : (octets : List ℕ) → is_negative octets ≡ true → 0 ≡ limit_number octets
as_negative octets negative = sym (cond-true (is_negative octets) 0 (min (magnitude octets) (2 ^ 64 - 1)) negative)

-- the encoding of a pathLenConstraint, which may be absent
abbrev limit_octets : Option (List ℕ) → List ℕ
limit_octets None = []
limit_octets (Some n) = element_octets Integer n

some_octets : (n x : List ℕ) → element_octets Integer n ++ x ≡ [] → ⊥
some_octets = (elements_apart (λ (_ : List ℕ). Unit {0}) Integer (λ c. c)).some

some_cA : (n x : List ℕ) → element_octets Boolean n ++ x ≡ [] → ⊥
some_cA = (elements_apart (λ (_ : List ℕ). Unit {0}) Boolean (λ c. c)).some

tail_same : (p q : Option (List ℕ)) → limit_octets p ≡ limit_octets q → p ≡ q
tail_same None None e = refl
tail_same None (Some n) e = absurd (some_octets n [] (append_nil (element_octets Integer n) ∙ sym e))
tail_same (Some n) None e = absurd (some_octets n [] (append_nil (element_octets Integer n) ∙ e))
tail_same (Some n) (Some m) e = ap Some (element_same Integer Integer n m e).1

other_tags : Integer ≡ Boolean → ⊥
other_tags e = cc

-- a limit alone is not a cA with a limit after it
mixed : (p q : Option (List ℕ)) (d : List ℕ) → limit_octets p ≡ element_octets Boolean d ++ limit_octets q → ⊥
mixed None q d e = some_cA d (limit_octets q) (sym e)
mixed (Some n) q d e = other_tags (element_front Integer Boolean n d [] (limit_octets q) (append_nil (element_octets Integer n) ∙ e)).0

-- a cA that may be absent, and a limit that may be
front_same : (b e : Bool) (c d : List ℕ) (p q : Option (List ℕ))
    → (if b then [] else element_octets Boolean c) ++ limit_octets p ≡ (if e then [] else element_octets Boolean d) ++ limit_octets q → p ≡ q
front_same true true c d p q h = tail_same p q h
front_same true false c d p q h = absurd (mixed p q d h)
front_same false true c d p q h = absurd (mixed q p c (sym h))
front_same false false c d p q h = tail_same p q (element_front Boolean Boolean c d (limit_octets p) (limit_octets q) h).2

-- the contents of a basicConstraints
abbrev contents : BasicConstraints → List ℕ
contents b = (if is_false b.ca.0.octets.now then [] else element_octets Boolean b.ca.0.octets.now) ++ limit_octets (limit_of b)

same_form : {A : Type 0} (octets_of : A → List ℕ) (o : Option A) → option_encoding (λ n. element_octets Integer (octets_of n)) o ≡ limit_octets (option_map octets_of o)
same_form octets_of None = refl
same_form octets_of (Some n) = refl

spelled : (b : BasicConstraints) → basic.ghosts.item.octets b ≡ element_octets Sequence (contents b)
spelled b =
    ap (λ x. element_octets Sequence ((if is_false b.ca.0.octets.now then [] else element_octets Boolean b.ca.0.octets.now) ++ x))
    (same_form (λ n. n.octets.now) b.path_len_constraint.0)

limit_same : (b d : BasicConstraints) → basic.ghosts.item.octets b ≡ basic.ghosts.item.octets d → limit_of b ≡ limit_of d
limit_same b d e =
    front_same (is_false b.ca.0.octets.now) (is_false d.ca.0.octets.now) b.ca.0.octets.now d.ca.0.octets.now (limit_of b) (limit_of d)
    (element_same Sequence Sequence (contents b) (contents d) (sym (spelled b) ∙ e ∙ spelled d)).1

by_some : (o : Option (List ℕ)) (k n : ℕ) → option_map limit_number o ≡ Some k → ((c : List ℕ) → o ≡ Some c → n ≤ limit_number c) → n ≤ k
by_some None k n e h = absurd (cc)
by_some (Some c) k n e h = let f : limit_number c ≡ k = cc in subst (λ x. n ≤ x) f (h c refl)

-- no limit gives room for all
pub no_limit : (n : ℕ) → HasRoom None n
no_limit n k e = absurd (cc)

-- the room by the basicConstraints that was read
pub found_limit : (v : List ℕ) (b : BasicConstraints) (r : Option ℕ) → length v < 2 ^ 32 → basic.ghosts.item.valid b → v ≡ basic.ghosts.item.octets b → r ≡ option_map limit_number (limit_of b)
    → (n : ℕ) → HasRoom r n ↔ AllowsBy v n
found_limit v b r short is e same n = (
  λ room c h. room (limit_number c) (same ∙ ap (option_map limit_number) (limit_same b h.constraints (sym e ∙ h.encoding) ∙ h.limit)),
  λ allows k some. by_some (limit_of b) k n (sym same ∙ some) (λ c limit. allows c (record { constraints = b; short = short; valid = is; encoding = e; limit = limit })),
)

-- both limits give room exactly if the lesser does
pub both_rooms : (p q : Option ℕ) (n : ℕ) → HasRoom (lesser p q) n ↔ (HasRoom p n × HasRoom q n)
both_rooms None None n = (λ h. (no_limit n, no_limit n), λ h. no_limit n)
both_rooms None (Some m) n = (λ h. (no_limit n, h), λ h. h.1)
both_rooms (Some k) None n = (λ h. (h, no_limit n), λ h. h.0)
both_rooms (Some k) (Some m) n = (
  λ h. let least = h (min k m) refl in
      (λ x e. (let f : k ≡ x = cc in omega (arith, f, least)), λ x e. (let f : m ≡ x = cc in omega (arith, f, least))),
  λ h x e. let f : min k m ≡ x = cc in let one = h.0 k refl in let two = h.1 m refl in omega (arith, f, one, two),
)

-- one item more
pub all_push : {A : Type 0} (P : A → Type 0) (xs : List A) (x : A) → All P (xs ++ x ∷ []) ↔ (All P xs × P x)
all_push P [] x = (λ h. (All-nil P, All-head P x [] h), λ h. All-cons P x [] h.1 (All-nil P))
all_push P (y ∷ xs) x = (
  λ h. let more = (all_push P xs x).0 (All-tail P y (xs ++ x ∷ []) h) in (All-cons P y xs (All-head P y (xs ++ x ∷ []) h) more.0, more.1),
  λ h. All-cons P y (xs ++ x ∷ []) (All-head P y xs h.0) ((all_push P xs x).1 (All-tail P y xs h.0, h.1)),
)

pub room_more : (P : ℕ → Extension → Type 0) (xs : List Extension) (x : Extension) (p q r : Option ℕ) → r ≡ lesser p q → ((n : ℕ) → HasRoom p n ↔ All (P n) xs) → ((n : ℕ) → HasRoom q n ↔ P n x)
    → (n : ℕ) → HasRoom r n ↔ All (P n) (xs ++ x ∷ [])
room_more P xs x p q r e before one n = (
  λ h. let both = (both_rooms p q n).0 (subst (λ o. HasRoom o n) e h) in (all_push (P n) xs x).1 ((before n).0 both.0, (one n).0 both.1),
  λ h. let both = (all_push (P n) xs x).0 h in subst (λ o. HasRoom o n) (sym e) ((both_rooms p q n).1 ((before n).1 both.0, (one n).1 both.1)),
)

pub allows_keep : (n : ℕ) (v w : Extension) → IsExtension v → IsExtension w → extension_encoding v ≡ extension_encoding w → Allows n v → Allows n w
allows_keep n v w is are e h id =
    let same = extension_same v w e in
    subst (λ o. AllowsBy o n) same.1.1 (h (same.0 ∙ id))

same_all : (P : Extension → Type 0) → ((v w : Extension) → IsExtension v → IsExtension w → extension_encoding v ≡ extension_encoding w → P v → P w) → (vs ws : List Extension) → AllValid IsExtension vs → AllValid IsExtension ws
    → joined_encodings extension_encoding vs ≡ joined_encodings extension_encoding ws → All P vs → All P ws
same_all P keep [] [] are them e h = All-nil P
same_all P keep [] (w ∷ ws) are them e h = absurd (extensions_apart.some w (joined_encodings extension_encoding ws) (sym e))
same_all P keep (v ∷ vs) [] are them e h = absurd (extensions_apart.some v (joined_encodings extension_encoding vs) e)
same_all P keep (v ∷ vs) (w ∷ ws) are them e h =
    let f = extensions_apart.front v w (joined_encodings extension_encoding vs) (joined_encodings extension_encoding ws) are.0 them.0 e in
    All-cons P w ws (keep v w are.0 them.0 f.0 (All-head P v vs h)) (same_all P keep vs ws are.1 them.1 f.1 (All-tail P v vs h))

-- a number of certificates is allowed or not
room_or_not : (r : Option ℕ) (n : ℕ) → HasRoom r n ⊎ (HasRoom r n → ⊥)
room_or_not None n = inl (no_limit n)
room_or_not (Some k) n = by_size (cases_lt k n)
  where
    by_size : (k < n) ⊎ (n ≤ k) → HasRoom (Some k) n ⊎ (HasRoom (Some k) n → ⊥)
    by_size (inl less) = inr (λ h. absurd (let much = h k refl in omega (arith, less, much)))
    by_size (inr more) = inl (λ x e. (let f : k ≡ x = cc in omega (arith, f, more)))

-- the items of one list allow what those of each list with the same octets allow
pub listed_exactly : (octets : List ℕ) (l : IsListOf IsExtension extension_encoding octets) (r : Option ℕ) → ((n : ℕ) → HasRoom r n ↔ All (Allows n) l.items)
    → (n : ℕ) → HasRoom r n ↔ ∥ ((m : IsListOf IsExtension extension_encoding octets) × All (Allows n) m.items) ∥₁
listed_exactly octets l r h n = (
  λ room. ∣ (l, (h n).0 room) ∣₁,
  λ all. turn (room_or_not r n) all,
)
  where
    turn : HasRoom r n ⊎ (HasRoom r n → ⊥) → ∥ ((m : IsListOf IsExtension extension_encoding octets) × All (Allows n) m.items) ∥₁ → HasRoom r n
    turn (inl room) all = room
    turn (inr none) all = absurd (not_there all (λ x. none ((h n).1 (same_all (Allows n) (allows_keep n) x.0.items l.items x.0.are_valid l.are_valid (sym x.0.joined ∙ l.joined) x.1))))

-- octets that were read as a whole are fewer than 2^32
pub short_if_read : {A E : Type 0} {answers : ReaderState → Result A E → ReaderState → Type 0} {converts : Error → E → Type 0} {octets : List ℕ} {v : A} → WholeAnswer Der answers converts octets (Ok v) → length octets < 2 ^ 32
short_if_read (too_long long failed) = absurd failed
short_if_read (decoded answer t short made follows) = short
