-- Lemmas on names with an asterisk: which of the names for which they stand are below a base.
use Rattle.std.proofs.Common.{◌≡◌, ◌≢◌, ◌⊎◌, ◌↔◌, ◌+◌, ◌<◌, ◌≤◌, ℕ, Bool, true, false, List, [], ◌∷◌, ◌++◌, length, get_or, take, drop, map, inl, inr, refl, sym, ap, subst, ◌∙◌, arith, length-append, append_assoc, if◌then◌else◌}
use Rattle.std.proofs.Math.ListN.{get_or-append}
use Rattle.std.proofs.Math.Seq.{drop-append_seam, get_or-append_seam, take-append_seam}
use Rattle.std.proofs.lemmas.Bool.{cases_lt, eqb-true}
use Rattle.std.proofs.lemmas.List.{drop-append-le, drop-map, get_or-map, length-map, map-append, take-append-drop, take-map}
use Rattle.std.proofs.lemmas.Str.Ascii.{lowercase_is}
use Rattle.std.specs.Char.{to_ascii_lowercase}
use Rattle.x509_names.specs.Identifiers.{HostMatches}
use Rattle.x509_names.specs.Hosts.{HasBefore, HasMoreLabels, IsBelowHost, IsSameHost, begins_with_dot, with_dot}
use Rattle.x509_names.specs.Wildcards.{AreAllBelow, HasAsterisk, HasLabelBefore, IsLabel, IsLabelBefore, IsSomeBelow, StandsFor}

-- a dot has no case
lower_dot : (o : ℕ) → to_ascii_lowercase o ≡ 46 → o ≡ 46
lower_dot o e =
    let is = lowercase_is o in
    elim (cases_lt o 65) [
      | inl small ↦ sym (is.1 small) ∙ e
      | inr more ↦ elim (cases_lt 90 o) [
        | inl large ↦ sym (is.2 large) ∙ e
        | inr inside ↦ absurd (let up : to_ascii_lowercase o ≡ o + 32 = is.0 (omega arith, omega arith) in let no : ⊥ = omega (arith, up, e) in no)
      ]
    ]

-- octets with the case of a label are a label
label_same : (a b : List ℕ) → IsSameHost a b → IsLabel a → IsLabel b
label_same a b same label =
    let long : length a ≡ length b = simp length-map at (ap length same) in (
      (λ none. label.0 (empty a (let zero : length b ≡ 0 = ap length none in long ∙ zero))),
      λ k inside dot. (
          let within : k < length a = omega arith in
          let first : get_or (map to_ascii_lowercase a) k 0 ≡ to_ascii_lowercase (get_or a k 0) = get_or-map to_ascii_lowercase a k 0 0 within in
          let second : get_or (map to_ascii_lowercase b) k 0 ≡ to_ascii_lowercase (get_or b k 0) = get_or-map to_ascii_lowercase b k 0 0 inside in
          label.1 k within (lower_dot (get_or a k 0) (sym first ∙ ap (λ x. get_or x k 0) same ∙ second ∙ ap to_ascii_lowercase dot))
          ),
    )
  where
    empty : (os : List ℕ) → length os ≡ 0 → os ≡ []
    empty [] e = refl
    empty (o ∷ os) e = absurd (let no : ⊥ = omega (arith, e) in no)

-- one label, a
one_label : (o : ℕ) → o ≢ 46 → IsLabel (o ∷ [])
one_label o other = ((λ none. cc), λ k inside. (let zero : k ≡ 0 = omega arith in λ dot. other (ap (λ n. get_or (o ∷ []) n 0) (sym zero) ∙ dot)))

-- what is before an end that begins with a dot has the whole label
label_inside : (label tail front rest : List ℕ) → IsLabel label → label ++ tail ≡ front ++ 46 ∷ rest → length label ≤ length front
label_inside label tail front rest is same =
    elim (cases_lt (length front) (length label)) [
      | inl less ↦ absurd (is.1 (length front) less (sym (get_or-append label tail 0 (length front) less) ∙ ap (λ x. get_or x (length front) 0) same ∙ get_or-append_seam front 46 rest 0))
      | inr more ↦ omega arith
    ]

after_label : (label tail front rest : List ℕ) → length label ≤ length front → label ++ tail ≡ front ++ rest → tail ≡ drop (length label) front ++ rest
after_label label tail front rest long same =
    sym (drop-append_seam label tail) ∙ ap (drop (length label)) same ∙ drop-append-le (length label) front rest long

-- an end that begins with a dot
begins : (end : List ℕ) (rest : List ℕ) → begins_with_dot end ≡ true → IsSameHost rest end → (r : List ℕ) × (rest ≡ 46 ∷ r)
begins [] rest dot same = absurd (let wrong : false ≡ true = dot in cc)
begins (e ∷ end) [] dot same = absurd (let none : [] ≡ to_ascii_lowercase e ∷ map to_ascii_lowercase end = same in cc)
begins (e ∷ end) (o ∷ rest) dot same =
    let heads : to_ascii_lowercase o ≡ to_ascii_lowercase e = cc in
    (rest, ap (λ x. x ∷ rest) (lower_dot o (heads ∙ ap to_ascii_lowercase (eqb-true e 46 dot))))

dotted : (base : List ℕ) (b : Bool) → begins_with_dot base ≡ b → begins_with_dot (if b then base else 46 ∷ base) ≡ true
dotted base true e = e
dotted base false e = refl

-- what ends a name with one label before a tail, ends it with another
pub from_label : (end label tail : List ℕ) (o : ℕ) → begins_with_dot end ≡ true → IsLabel label → HasBefore end (label ++ tail) → HasBefore end (o ∷ tail)
from_label end label tail o dot is h =
    let r = begins end h.1 dot h.4 in
    let long : length label ≤ length h.0 = label_inside label tail h.0 r.0 is (h.2 ∙ ap (λ x. h.0 ++ x) r.1) in
    (o ∷ drop (length label) h.0, h.1, ap (λ x. o ∷ x) (after_label label tail h.0 h.1 long h.2), (λ none. cc), h.4)

pub to_label : (end label tail : List ℕ) (o : ℕ) → IsLabel label → HasBefore end (o ∷ tail) → HasBefore end (label ++ tail)
to_label end label tail o is h = with_front h.0 h.2 h.3
  where
    joined : (a b : List ℕ) → a ≢ [] → a ++ b ≢ []
    joined [] b some e = absurd (some refl)
    joined (x ∷ a) b some e = cc

    with_front : (front : List ℕ) → o ∷ tail ≡ front ++ h.1 → front ≢ [] → HasBefore end (label ++ tail)
    with_front [] e some = absurd (some refl)
    with_front (x ∷ front) e some =
        let rest : tail ≡ front ++ h.1 = cc in
        (label ++ front, h.1, ap (λ x. label ++ x) rest ∙ sym (append_assoc label front h.1), joined label front is.0, h.4)

-- a base that is one of the names has a label before the tail
same_as_base : (base label tail : List ℕ) → IsLabel label → IsSameHost (label ++ tail) base → HasLabelBefore tail base
same_as_base base label tail is same =
    let n = length label in
    let lowered : map to_ascii_lowercase label ++ map to_ascii_lowercase tail ≡ map to_ascii_lowercase base = sym (map-append to_ascii_lowercase label tail) ∙ same in
    let long : length (map to_ascii_lowercase label) ≡ length label = simp length-map in
    let first : map to_ascii_lowercase label ≡ map to_ascii_lowercase (take n base) =
    sym (subst (λ k. take k (map to_ascii_lowercase label ++ map to_ascii_lowercase tail) ≡ map to_ascii_lowercase label) long (take-append_seam (map to_ascii_lowercase label) (map to_ascii_lowercase tail))) ∙ ap (take n) lowered ∙ take-map to_ascii_lowercase n base in
    let second : map to_ascii_lowercase tail ≡ map to_ascii_lowercase (drop n base) =
    sym (subst (λ k. drop k (map to_ascii_lowercase label ++ map to_ascii_lowercase tail) ≡ map to_ascii_lowercase tail) long (drop-append_seam (map to_ascii_lowercase label) (map to_ascii_lowercase tail))) ∙ ap (drop n) lowered ∙ drop-map to_ascii_lowercase n base in
    (take n base, drop n base, sym (take-append-drop n base), label_same label (take n base) first is, sym second)

base_is_same : (base tail : List ℕ) → (h : HasLabelBefore tail base) → IsSameHost (h.0 ++ tail) base
base_is_same base tail h =
    map-append to_ascii_lowercase h.0 tail ∙ ap (λ x. map to_ascii_lowercase h.0 ++ x) (sym h.4) ∙ sym (map-append to_ascii_lowercase h.0 h.1) ∙ ap (map to_ascii_lowercase) (sym h.2)

-- a name with an asterisk
split_name : (name : List ℕ) → HasAsterisk name → name ≡ 42 ∷ drop 1 name
split_name [] h = absurd (let no : ⊥ = omega (arith, h.0) in no)
split_name (o ∷ tail) h = ap (λ x. x ∷ tail) h.0

stands : (name host : List ℕ) → HasAsterisk name → StandsFor name host → IsLabelBefore (drop 1 name) host
stands name host asterisk (inl s) = s.1
stands name host asterisk (inr s) = absurd (s.0 asterisk)

a_name : (name : List ℕ) (o : ℕ) → o ≢ 46 → HasAsterisk name → StandsFor name (o ∷ drop 1 name)
a_name name o other asterisk = inl (asterisk, (o ∷ [], one_label o other, refl))

all_are : (base name : List ℕ) → HasAsterisk name → HasMoreLabels base name → AreAllBelow base name
all_are base name asterisk (inl none) host s = inr (inl none)
all_are base name asterisk (inr h) host s =
    let l = stands name host asterisk s in
    inr (inr (subst (HasBefore (with_dot base)) (sym l.2) (to_label (with_dot base) l.0 (drop 1 name) 42 l.1 (subst (HasBefore (with_dot base)) (split_name name asterisk) h))))

-- a base that ends one of the names
ends_from : (base name label : List ℕ) → HasAsterisk name → IsLabel label → HasMoreLabels base (label ++ drop 1 name) → HasMoreLabels base name
ends_from base name label asterisk is (inl none) = inl none
ends_from base name label asterisk is (inr h) =
    inr (subst (HasBefore (with_dot base)) (sym (split_name name asterisk)) (from_label (with_dot base) label (drop 1 name) 42 (dotted base (begins_with_dot base) refl) is h))

one_ends : (base name : List ℕ) (o : ℕ) → o ≢ 46 → HasAsterisk name → HasMoreLabels base (o ∷ drop 1 name) → HasMoreLabels base name
one_ends base name o other asterisk h = ends_from base name (o ∷ []) asterisk (one_label o other) h

heads : (a b : ℕ) (s t : List ℕ) → a ∷ s ≡ b ∷ t → a ≡ b
heads a b s t e = cc

-- of two names that differ in their first letter, one is not the base itself
ends_it : (base name : List ℕ) → HasAsterisk name → IsBelowHost base (97 ∷ drop 1 name) → IsBelowHost base (98 ∷ drop 1 name) → HasMoreLabels base name
ends_it base name asterisk (inr a) b = one_ends base name 97 (λ e. (let no : ⊥ = omega (arith, e) in no)) asterisk a
ends_it base name asterisk (inl same) (inr b) = one_ends base name 98 (λ e. (let no : ⊥ = omega (arith, e) in no)) asterisk b
ends_it base name asterisk (inl same) (inl other) =
    absurd (let firsts : 97 ∷ map to_ascii_lowercase (drop 1 name) ≡ 98 ∷ map to_ascii_lowercase (drop 1 name) = same ∙ sym other in let no : ⊥ = omega (arith, heads 97 98 (map to_ascii_lowercase (drop 1 name)) (map to_ascii_lowercase (drop 1 name)) firsts) in no)

pub all_below : (base name : List ℕ) (b : Bool) → HasAsterisk name → (b ≡ true) ↔ HasMoreLabels base name → (b ≡ true) ↔ AreAllBelow base name
all_below base name b asterisk h = (
  λ e. all_are base name asterisk (h.0 e),
  λ all. h.1 (ends_it base name asterisk
      (all (97 ∷ drop 1 name) (a_name name 97 (λ e. (let no : ⊥ = omega (arith, e) in no)) asterisk))
      (all (98 ∷ drop 1 name) (a_name name 98 (λ e. (let no : ⊥ = omega (arith, e) in no)) asterisk))),
)

some_is : (base name : List ℕ) → HasAsterisk name → HasMoreLabels base name ⊎ HasLabelBefore (drop 1 name) base → IsSomeBelow base name
some_is base name asterisk (inl ends) =
    let other : 97 ≢ 46 = λ e. (let no : ⊥ = omega (arith, e) in no) in
    (97 ∷ drop 1 name, a_name name 97 other asterisk, all_are base name asterisk ends (97 ∷ drop 1 name) (a_name name 97 other asterisk))
some_is base name asterisk (inr h) = (h.0 ++ drop 1 name, inl (asterisk, (h.0, h.3, refl)), inl (base_is_same base (drop 1 name) h))

of_some : (base name label : List ℕ) → HasAsterisk name → IsLabel label → IsBelowHost base (label ++ drop 1 name) → HasMoreLabels base name ⊎ HasLabelBefore (drop 1 name) base
of_some base name label asterisk is (inl same) = inr (same_as_base base label (drop 1 name) is same)
of_some base name label asterisk is (inr h) = inl (ends_from base name label asterisk is h)

some_below : (base name : List ℕ) (b : Bool) → HasAsterisk name → (b ≡ true) ↔ (HasMoreLabels base name ⊎ HasLabelBefore (drop 1 name) base) → (b ≡ true) ↔ IsSomeBelow base name
some_below base name b asterisk h = (
  λ e. some_is base name asterisk (h.0 e),
  λ some. (let l = stands name some.0 asterisk some.1 in h.1 (of_some base name l.0 asterisk l.1 (subst (IsBelowHost base) l.2 some.2))),
)

-- more labels are added, or none, and then one stands in place of the asterisk
pub some_more : (base name : List ℕ) (b : Bool) → HasAsterisk name → b ≡ true → (b ≡ true) ↔ HasMoreLabels base name → (b ≡ true) ↔ IsSomeBelow base name
some_more base name b asterisk is h = some_below base name b asterisk (λ e. inl (h.0 e), λ _. is)

pub some_label : (base name tail : List ℕ) (b : Bool) → HasAsterisk name → (HasMoreLabels base name → ⊥) → tail ≡ drop 1 name → (b ≡ true) ↔ HasLabelBefore tail base → (b ≡ true) ↔ IsSomeBelow base name
some_label base name tail b asterisk fails is h =
    some_below base name b asterisk (
      λ e. inr (subst (λ t. HasLabelBefore t base) is (h.0 e)),
      λ one. elim one [ inl more ↦ absurd (fails more) | inr label ↦ h.1 (subst (λ t. HasLabelBefore t base) (sym is) label) ],
    )

-- a name without an asterisk stands for itself
pub all_plain : (base name : List ℕ) (b : Bool) → (HasAsterisk name → ⊥) → (b ≡ true) ↔ IsBelowHost base name → (b ≡ true) ↔ AreAllBelow base name
all_plain base name b plain h = (
  λ e host s. elim s [ inl wild ↦ absurd (plain wild.0) | inr one ↦ subst (IsBelowHost base) (sym one.1) (h.0 e) ],
  λ all. h.1 (all name (inr (plain, refl))),
)

pub some_plain : (base name : List ℕ) (b : Bool) → (HasAsterisk name → ⊥) → (b ≡ true) ↔ IsBelowHost base name → (b ≡ true) ↔ IsSomeBelow base name
some_plain base name b plain h = (
  λ e. (name, inr (plain, refl), h.0 e),
  λ some. h.1 (elim some.1 [ inl wild ↦ absurd (plain wild.0) | inr one ↦ subst (IsBelowHost base) one.1 some.2 ]),
)

-- a label before an end
pub label_before : (end name : List ℕ) (at : ℕ) (b : Bool) → at + length end ≡ length name → (b ≡ true) ↔ (IsLabel (take at name) × IsSameHost (drop at name) end) → (b ≡ true) ↔ HasLabelBefore end name
label_before end name at b long h = (
  λ e. (let both = h.0 e in (take at name, drop at name, sym (take-append-drop at name), both.0, both.1)),
  λ l. h.1 (moved l),
)
  where
    moved : HasLabelBefore end name → IsLabel (take at name) × IsSameHost (drop at name) end
    moved l =
        let same : length l.1 ≡ length end = simp length-map at (ap length l.4) in
        let whole : length name ≡ length l.0 + length l.1 = ap length l.2 ∙ length-append l.0 l.1 in
        let place : length l.0 ≡ at = omega arith in
        let first : take at name ≡ l.0 = subst (λ n. take n name ≡ l.0) place (ap (take (length l.0)) l.2 ∙ take-append_seam l.0 l.1) in
        let second : drop at name ≡ l.1 = subst (λ n. drop n name ≡ l.1) place (ap (drop (length l.0)) l.2 ∙ drop-append_seam l.0 l.1) in
        (subst IsLabel (sym first) l.3, subst (λ x. IsSameHost x end) (sym second) l.4)

pub too_short : (end name : List ℕ) → length name < length end → (false ≡ true) ↔ HasLabelBefore end name
too_short end name short = (λ e. absurd (let wrong : false ≡ true = e in cc), λ l. absurd (less l))
  where
    less : HasLabelBefore end name → ⊥
    less l =
        let same : length l.1 ≡ length end = simp length-map at (ap length l.4) in
        let whole : length name ≡ length l.0 + length l.1 = ap length l.2 ∙ length-append l.0 l.1 in
        omega arith

-- a host that a name with an asterisk stands for
pub host_with : (presented wanted tail : List ℕ) (b : Bool) → HasAsterisk presented → tail ≡ drop 1 presented → (b ≡ true) ↔ HasLabelBefore tail wanted → (b ≡ true) ↔ HostMatches presented wanted
host_with presented wanted tail b asterisk is h = (
  λ e. (let l = subst (λ t. HasLabelBefore t wanted) is (h.0 e) in (l.0 ++ drop 1 presented, inl (asterisk, (l.0, l.3, refl)), base_is_same wanted (drop 1 presented) l)),
  λ one. h.1 (subst (λ t. HasLabelBefore t wanted) (sym is) (let l = stands presented one.0 asterisk one.1 in same_as_base wanted l.0 (drop 1 presented) l.1 (subst (λ x. IsSameHost x wanted) l.2 one.2))),
)

-- a name without an asterisk is the host
pub host_plain : (presented wanted : List ℕ) (b : Bool) → (HasAsterisk presented → ⊥) → (b ≡ true) ↔ IsSameHost presented wanted → (b ≡ true) ↔ HostMatches presented wanted
host_plain presented wanted b plain h = (
  λ e. (presented, inr (plain, refl), h.0 e),
  λ one. h.1 (elim one.1 [ inl wild ↦ absurd (plain wild.0) | inr self ↦ subst (λ x. IsSameHost x wanted) self.1 one.2 ]),
)
