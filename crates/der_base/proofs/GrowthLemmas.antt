-- Extending the beginning of a body, and the minimum size of what `parts` counts.
use Rattle.std.proofs.Common.{◌≡◌, ℕ, suc, ◌+◌, ◌*◌, ◌<◌, ◌≤◌, true, List, [], ◌∷◌, ◌++◌, length, refl, sym, subst, append_assoc, length-append, add_assoc, zero-add, arith}
use Rattle.der_base.specs.Length.{length_octets}
use Rattle.der_base.specs.Tag.{IsIdentifier}
use Rattle.der_base.specs.Body.{Item, Body, Items, Open, definite, indefinite, ends, more, none, then_item, first, deeper}
use Rattle.der_base.specs.declared.tag.Tag.{Tag}
use Rattle.der_base.specs.declared.encoding_rules.EncodingRules.TheVariants.{Ber}
use Rattle.der_base.proofs.LengthLemmas.{length_octets_some}
use Rattle.der_base.proofs.IdentifierLemmas.{identifier_some}
use Rattle.der_base.proofs.BodyLemmas.{open_level, items_level}

-- transport along an equal count and equal octets
pub body_at : {k m n : ℕ} {a b : List ℕ} → m ≡ n → a ≡ b → Body k m a → Body k n b
body_at {k} {m} {n} {a} {b} e f h = subst (λ l. Body k n l) f (subst (λ j. Body k j a) e h)

pub open_at : {k m n : ℕ} {a b : List ℕ} → m ≡ n → a ≡ b → Open k m a → Open k n b
open_at {k} {m} {n} {a} {b} e f h = subst (λ l. Open k n l) f (subst (λ j. Open k j a) e h)

-- items followed by a body are a body
items_body : {k m n : ℕ} {q b : List ℕ} → Items k m q → Body k n b → Body k (m + n) (q ++ b)
items_body {n = n} (none at) t = body_at (sym (zero-add n)) refl t
items_body {n = n} {b = b} (then_item {m = m} {n = l} {items = q} {item = i} h g) t =
    body_at (sym (add_assoc m l n)) (sym (append_assoc q i b)) (items_body h (more g t))

pub open_item : {k m n : ℕ} {p i : List ℕ} → Open k m p → Item k n i → Open k (m + n) (p ++ i)
open_item (first h) g = first (then_item h g)
open_item {n = n} {i = i} (deeper {m = m} {n = l} {p = p} {id = id} {items = q} o d h) g =
    open_at (omega arith) (simp append_assoc) (deeper o d (then_item h g))

pub open_deeper : {k m : ℕ} {p id : List ℕ} {t : Tag} → Open k m p → IsIdentifier Ber id t true → k < 64 → Open (suc k) (m + 1) (p ++ (id ++ 128 ∷ []))
open_deeper o d few = deeper o d (none (omega arith, omega arith))

no_level : {m : ℕ} {p : List ℕ} → Open 0 m p → ⊥
no_level h = let l = open_level h in absurd (omega (arith, l.0))

-- the end-of-contents octets close the level
pub body_from_open : {m : ℕ} {p : List ℕ} → Open 1 m p → Body 1 (m + 1) (p ++ 0 ∷ 0 ∷ [])
body_from_open (first h) = items_body h (ends (items_level h))
body_from_open (deeper o d h) = absurd (no_level o)

pub open_ends : {k m : ℕ} {p : List ℕ} → Open (suc (suc k)) m p → Open (suc k) (m + 1) (p ++ 0 ∷ 0 ∷ [])
open_ends (deeper {m = m} {n = l} {p = p} {id = id} {items = q} o d h) =
    open_at (omega arith) (simp append_assoc) (open_item o (indefinite (open_level o) d (items_body h (ends (items_level h)))))

-- each counted identifier or end-of-contents accounts for at least two octets
mutual
  pub item_parts : {k n : ℕ} {i : List ℕ} → Item k n i → (1 ≤ n) × (2 * n ≤ length i)
  item_parts (definite {id = id} at d c l) = (omega arith, omega (arith, identifier_some d, length_octets_some (length c), length-append id (length_octets (length c) ++ c), length-append (length_octets (length c)) c))
  item_parts (indefinite {id = id} {body = b} at d t) = let s = body_parts t in (omega arith, omega (arith, identifier_some d, s.1, length-append id (128 ∷ b)))

  pub body_parts : {k n : ℕ} {b : List ℕ} → Body k n b → (1 ≤ n) × (2 * n ≤ length b)
  body_parts (ends at) = (omega arith, omega arith)
  body_parts (more {item = i} {body = b} h t) = let s = item_parts h in let u = body_parts t in (omega (arith, s.0), omega (arith, s.1, u.1, length-append i b))

items_parts : {k n : ℕ} {q : List ℕ} → Items k n q → 2 * n ≤ length q
items_parts (none at) = omega arith
items_parts (then_item {items = q} {item = i} h g) = omega (arith, items_parts h, (item_parts g).1, length-append q i)

pub open_parts : {k n : ℕ} {p : List ℕ} → Open k n p → 2 * n ≤ length p
open_parts (first h) = items_parts h
open_parts (deeper {p = p} {id = id} {items = q} o d h) = omega (arith, open_parts o, identifier_some d, items_parts h, length-append p (id ++ 128 ∷ q), length-append id (128 ∷ q))
