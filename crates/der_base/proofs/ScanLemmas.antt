-- Octets that have a fault do not begin with a body, and have at most one fault.
use Rattle.std.proofs.Common.{◌≡◌, ◌≢◌, ℕ, ◌+◌, ◌^◌, ◌<◌, ⊎_elim, Bool, true, false, List, [], ◌∷◌, ◌++◌, length, refl, sym, ap, ◌∙◌, subst, append_assoc, length-append, arith}
use Rattle.std.proofs.lemmas.Bool.{cases_order}
use Rattle.der_base.specs.Length.{length_octets, indefinite_length}
use Rattle.der_base.specs.Tag.{IsIdentifier, IsCutIdentifier, IdentifierFault, cut, refused}
use Rattle.der_base.specs.Body.{Body, ends, more, definite, indefinite}
use Rattle.der_base.specs.Error.{Refusal, refusal, end_refusal}
use Rattle.der_base.specs.HeaderGrammar.{LengthFault, nothing as no_octet, few, far, longer, indefinite_form, no_body}
use Rattle.der_base.specs.Laws.{IsBodyFault, IsGrammar}
use Rattle.der_base.specs.ScanGrammar.{NoBodyFault, short_refusal, ScanFault, nothing, half_eoc, no_eoc, refused_identifier, cut_identifier, primitive, too_deep, no_length, short, BodyFault, BodyNext}
use Rattle.der_base.specs.declared.length.Length.{Length}
use Rattle.der_base.specs.declared.tag.Tag.{Tag}
use Rattle.der_base.specs.declared.error.ErrorKind.{ErrorKind}
use Rattle.der_base.specs.declared.error.ErrorKind.TheVariants.{IndefiniteLength, NestingDepth, Length as IncorrectLength}
use Rattle.der_base.specs.declared.encoding_rules.EncodingRules.{EncodingRules}
use Rattle.der_base.specs.declared.encoding_rules.EncodingRules.TheVariants.{Ber}
use Rattle.der_base.proofs.LengthLemmas.{length_front, length_definite, no_definite_fault, one_length_fault}
use Rattle.der_base.proofs.IdentifierLemmas.{identifier_begins, identifier_front, no_identifier_fault, one_identifier_fault}
use Rattle.der_base.proofs.BodyLemmas.{body_level, body_front}
use Rattle.der_base.proofs.OpenLemmas.{past_open, identifier_not_zero, Step, Path, eocs, counted, opened, path_open, same_steps, longer_steps}

-- the scan itself does not search for a body
no_body_fault_laws : IsBodyFault NoBodyFault
no_body_fault_laws = record { one_fault = λ at octets r q f g. absurd f; never_both = λ at parts body rest r b f. f }

-- what follows an identifier in a body
data After (k : ℕ) (c : Bool) (q : List ℕ) : Type 0 where
  opens : (t : List ℕ) → c ≡ true → k < 64 → q ≡ 128 ∷ t → After k c q
  counts : (contents t : List ℕ) → length contents < 2 ^ 32 → q ≡ length_octets (length contents) ++ (contents ++ t) → After k c q

-- what follows an identifier, if that is the fault
data Wrong (k at : ℕ) (id : List ℕ) (t : Tag) (c : Bool) (q : List ℕ) (r : Refusal) : Type 0 where
  is_primitive : (rest : List ℕ) → c ≡ false → q ≡ 128 ∷ rest → r ≡ refusal IndefiniteLength (at + length id + 1) → Wrong k at id t c q r
  is_deep : (rest : List ℕ) → c ≡ true → k ≡ 64 → q ≡ 128 ∷ rest → r ≡ refusal NestingDepth (at + length id + 1) → Wrong k at id t c q r
  length_wrong : LengthFault NoBodyFault (IncorrectLength t) Ber (at + length id) q r → Wrong k at id t c q r
  too_few : (n : ℕ) (rest : List ℕ) → n < 2 ^ 32 → length rest < n → q ≡ length_octets n ++ rest → r ≡ short_refusal n (length rest) (at + length id + length (length_octets n)) → Wrong k at id t c q r

-- a fault, by the first octets
data Shape (k at : ℕ) (q : List ℕ) (r : Refusal) : Type 0 where
  at_end : q ≡ [] → r ≡ end_refusal at → Shape k at q r
  one_zero : q ≡ 0 ∷ [] → r ≡ end_refusal (at + 1) → Shape k at q r
  between : (o : ℕ) (rest : List ℕ) → o ≢ 0 → q ≡ 0 ∷ o ∷ rest → r ≡ refusal IndefiniteLength (at + 2) → Shape k at q r
  no_identifier : (o : ℕ) (rest : List ℕ) → o ≢ 0 → q ≡ o ∷ rest → IdentifierFault Ber at q r → Shape k at q r
  after_it : (c : Bool) (t : Tag) (id x : List ℕ) → IsIdentifier Ber id t c → q ≡ id ++ x → Wrong k at id t c x r → Shape k at q r

-- a truncated identifier does not begin with 0
cut_begins : (s : List ℕ) (o : ℕ) → IsCutIdentifier Ber (o ∷ s) → o ≢ 0
cut_begins s o h zero =
    let d = h.4 in
    let b = identifier_begins d in
    b.3 (let f : o ∷ (s ++ h.0 ∷ h.1) ≡ b.0 ∷ b.1 = b.2 in cc)

refused_shape : {k at : ℕ} (s : List ℕ) (o : ℕ) (rest : List ℕ) {r : Refusal} → s ++ o ∷ [] ≢ 0 ∷ [] → IsCutIdentifier Ber s → IdentifierFault Ber at (s ++ o ∷ rest) r → Shape k at (s ++ o ∷ rest) r
refused_shape [] o rest ne h f = no_identifier o rest (λ z. ne (ap (λ x. x ∷ []) z)) refl f
refused_shape (p ∷ s) o rest ne h f = no_identifier p (s ++ o ∷ rest) (cut_begins s p h) refl f

shape : {k at : ℕ} {q : List ℕ} {r : Refusal} → ScanFault k at q r → Shape k at q r
shape nothing = at_end refl refl
shape half_eoc = one_zero refl refl
shape (no_eoc o rest h) = between o rest h refl refl
shape (refused_identifier s o rest ne h never) = refused_shape s o rest ne h (refused s o rest h never)
shape (cut_identifier o s h) = no_identifier o s (cut_begins s o h) refl (cut (o ∷ s) h)
shape (primitive {id = id} {t = t} rest d) = after_it false t id (128 ∷ rest) d refl (is_primitive rest refl refl refl)
shape (too_deep {id = id} {t = t} rest deep d) = after_it true t id (128 ∷ rest) d refl (is_deep rest refl deep refl refl)
shape (no_length {id = id} {more = others} {t = t} {b = b} d f) = after_it b t id others d refl (length_wrong f)
shape (short {id = id} {t = t} {b = b} n rest d small less) = after_it b t id (length_octets n ++ rest) d refl (too_few n rest small less refl refl)

-- octet `0x80` is not a fault of a definite length
no_fault_at_opening : {wrong : ErrorKind} {at : ℕ} {q : List ℕ} {r : Refusal} (t : List ℕ) → LengthFault NoBodyFault wrong Ber at q r → q ≡ 128 ∷ t → ⊥
no_fault_at_opening t no_octet e = cc
no_fault_at_opening t (few k ds p q) e = let f : 128 + k ≡ 128 = cc in omega arith
no_fault_at_opening t (far o rest p) e = let f : o ≡ 128 = cc in omega arith
no_fault_at_opening t (longer k ds rest p q s u) e = let f : 128 + k ≡ 128 = cc in omega arith
no_fault_at_opening t (indefinite_form der rest) e = cc
no_fault_at_opening t (no_body ber rest f) e = f

-- no step continues where there is a fault
fault_excludes_step : {k at : ℕ} {id q : List ℕ} {t : Tag} {c : Bool} {r : Refusal} → Wrong k at id t c q r → After k c q → ⊥
fault_excludes_step (is_primitive rest a b f) (opens u v l g) = cc
fault_excludes_step (is_primitive rest a b f) (counts d u l g) = length_definite (length d) (d ++ u) rest (sym g ∙ b)
fault_excludes_step (is_deep rest a z b f) (opens u v l g) = omega arith
fault_excludes_step (is_deep rest a z b f) (counts d u l g) = length_definite (length d) (d ++ u) rest (sym g ∙ b)
fault_excludes_step (length_wrong f) (opens w z l e) = no_fault_at_opening w f e
fault_excludes_step (length_wrong f) (counts d w l e) = no_definite_fault (length d) (d ++ w) l f e
fault_excludes_step (too_few n others s l v g) (opens w z m f) = length_definite n others w (sym v ∙ f)
fault_excludes_step (too_few n others s l v g) (counts d w m f) =
    let r = length_front n (length d) others (d ++ w) (sym v ∙ f) in
    omega (arith, r.0, ap length r.1, length-append d w)

-- no identifier begins with 0
not_zero : {id : List ℕ} {t : Tag} {c : Bool} (q x rest : List ℕ) → IsIdentifier Ber id t c → q ≡ id ++ x → q ≡ 0 ∷ rest → ⊥
not_zero q x rest d e f = identifier_not_zero x rest d (sym e ∙ f)

not_empty : {id : List ℕ} {t : Tag} {c : Bool} (q x : List ℕ) → IsIdentifier Ber id t c → q ≡ id ++ x → q ≡ [] → ⊥
not_empty q x d e f = let b = identifier_begins d in (let g : b.0 ∷ (b.1 ++ x) ≡ [] = ap (λ l. l ++ x) (sym b.2) ∙ sym e ∙ f in cc)

shape_excludes_eoc : {k at : ℕ} {q : List ℕ} {r : Refusal} (y : List ℕ) → Shape k at q r → q ≡ 0 ∷ 0 ∷ y → ⊥
shape_excludes_eoc y (at_end a f) g = cc
shape_excludes_eoc y (one_zero a f) g = cc
shape_excludes_eoc y (between o rest h a f) g = h (cc)
shape_excludes_eoc y (no_identifier o rest h a f) g = h (cc)
shape_excludes_eoc {q = q} y (after_it c t id x d b w) g = not_zero q x (0 ∷ y) d b g

shape_excludes_step : {k at : ℕ} {q id : List ℕ} {t : Tag} {c : Bool} {r : Refusal} (x : List ℕ) → Shape k at q r → IsIdentifier Ber id t c → q ≡ id ++ x → After k c x → ⊥
shape_excludes_step {q = q} x (at_end a f) d g b = not_empty q x d g a
shape_excludes_step {q = q} x (one_zero a f) d g b = not_zero q x [] d g a
shape_excludes_step {q = q} x (between o rest h a f) d g b = not_zero q x (o ∷ rest) d g a
shape_excludes_step x (no_identifier o rest h a f) d g b = no_identifier_fault x f d g
shape_excludes_step {k = k} x (after_it p v jd u j a w) d g b =
    let r = identifier_front d j x u (sym g ∙ a) in
    fault_excludes_step w (subst (λ l. After k p l) r.3 (subst (λ l. After k l x) r.2 b))

no_step : {k j at : ℕ} {q x : List ℕ} {r : Refusal} (y : List ℕ) → Step k j x → Shape k at q r → q ≡ x ++ y → ⊥
no_step y eocs s g = shape_excludes_eoc y s g
no_step y (counted {id = id} d contents l) s g = shape_excludes_step (length_octets (length contents) ++ (contents ++ y)) s d (g ∙ simp append_assoc) (counts contents y l refl)
no_step y (opened {id = id} d l) s g = shape_excludes_step (128 ∷ y) s d (g ∙ append_assoc id (128 ∷ []) y) (opens y refl l refl)

-- a body at the start continues by a step, so there is no fault
no_body_shape : {k n at : ℕ} {q b : List ℕ} {r : Refusal} (rest : List ℕ) → Shape k at q r → Body k n b → q ≡ b ++ rest → ⊥
no_body_shape rest s (ends at) e = shape_excludes_eoc rest s e
no_body_shape rest s (more {body = b} (definite {id = id} at d contents l) t) e =
    shape_excludes_step (length_octets (length contents) ++ (contents ++ (b ++ rest))) s d (e ∙ simp append_assoc) (counts contents (b ++ rest) l refl)
no_body_shape rest s (more {body = b} (indefinite {id = id} {body = inner} at d u) t) e =
    let deep = body_level u in
    shape_excludes_step (128 ∷ (inner ++ (b ++ rest))) s d (e ∙ simp append_assoc) (opens (inner ++ (b ++ rest)) refl (omega (arith, deep.1)) refl)

-- after one identifier there is at most one fault
same_wrong : {k at : ℕ} {id q : List ℕ} {t : Tag} {c : Bool} {r s : Refusal} → Wrong k at id t c q r → Wrong k at id t c q s → r ≡ s
same_wrong (is_primitive rest a b f) (is_primitive others c d g) = f ∙ sym g
same_wrong (is_primitive rest a b f) (is_deep others c z d g) = cc
same_wrong (is_primitive rest a b f) (length_wrong g) = absurd (no_fault_at_opening rest g b)
same_wrong (is_primitive rest a b f) (too_few n others s l v g) = absurd (length_definite n others rest (sym v ∙ b))
same_wrong (is_deep others c z d g) (is_primitive rest a b f) = cc
same_wrong (is_deep rest a z b f) (is_deep others c y d g) = f ∙ sym g
same_wrong (is_deep rest a z b f) (length_wrong g) = absurd (no_fault_at_opening rest g b)
same_wrong (is_deep rest a z b f) (too_few n others s l v g) = absurd (length_definite n others rest (sym v ∙ b))
same_wrong (length_wrong g) (is_primitive rest a b f) = absurd (no_fault_at_opening rest g b)
same_wrong (length_wrong g) (is_deep rest a z b f) = absurd (no_fault_at_opening rest g b)
same_wrong (length_wrong f) (length_wrong g) = one_length_fault no_body_fault_laws f g refl
same_wrong (length_wrong f) (too_few n others s l v g) = absurd (no_definite_fault n others s f v)
same_wrong (too_few n others s l v g) (is_primitive rest a b f) = absurd (length_definite n others rest (sym v ∙ b))
same_wrong (too_few n others s l v g) (is_deep rest a z b f) = absurd (length_definite n others rest (sym v ∙ b))
same_wrong (too_few n others s l v g) (length_wrong f) = absurd (no_definite_fault n others s f v)
same_wrong {at = at} {id = id} (too_few n rest s l v g) (too_few m others a b w f) =
    let r = length_front n m rest others (sym v ∙ w) in
    g ∙ ap (λ x. short_refusal x (length rest) (at + length id + length (length_octets x))) r.0 ∙ ap (λ x. short_refusal m (length x) (at + length id + length (length_octets m))) r.1 ∙ sym f

same_shape : {k at : ℕ} {q : List ℕ} {r s : Refusal} → Shape k at q r → Shape k at q s → r ≡ s
same_shape (at_end a f) (at_end b g) = f ∙ sym g
same_shape (at_end a f) (one_zero b g) = cc
same_shape (at_end a f) (between o rest h b g) = cc
same_shape (at_end a f) (no_identifier o rest h b g) = cc
same_shape {q = q} (at_end a f) (after_it c t id x d b w) = absurd (not_empty q x d b a)
same_shape (one_zero b g) (at_end a f) = cc
same_shape (one_zero a f) (one_zero b g) = f ∙ sym g
same_shape (one_zero a f) (between o rest h b g) = cc
same_shape (one_zero a f) (no_identifier o rest h b g) = absurd (h (cc))
same_shape {q = q} (one_zero a f) (after_it c t id x d b w) = absurd (not_zero q x [] d b a)
same_shape (between o rest h b g) (at_end a f) = cc
same_shape (between o rest h b g) (one_zero a f) = cc
same_shape (between o rest h b g) (between p others l a f) = g ∙ sym f
same_shape (between o rest h b g) (no_identifier p others l a f) = absurd (l (cc))
same_shape {q = q} (between o rest h a f) (after_it c t id x d b w) = absurd (not_zero q x (o ∷ rest) d b a)
same_shape (no_identifier o rest h b g) (at_end a f) = cc
same_shape (no_identifier o rest h b g) (one_zero a f) = absurd (h (cc))
same_shape (no_identifier p others l a f) (between o rest h b g) = absurd (l (cc))
same_shape (no_identifier o rest h b g) (no_identifier p others l a f) = one_identifier_fault g f refl
same_shape (no_identifier o rest h b g) (after_it c t id x d a w) = absurd (no_identifier_fault x g d a)
same_shape {q = q} (after_it c t id x d b w) (at_end a f) = absurd (not_empty q x d b a)
same_shape {q = q} (after_it c t id x d b w) (one_zero a f) = absurd (not_zero q x [] d b a)
same_shape {q = q} (after_it c t id x d b w) (between o rest h a f) = absurd (not_zero q x (o ∷ rest) d b a)
same_shape (after_it c t id x d a w) (no_identifier o rest h b g) = absurd (no_identifier_fault x g d a)
same_shape {k = k} {at = at} {r = d} (after_it c t id x i a w) (after_it p u jd y j b v) =
    let r = identifier_front i j x y (sym a ∙ b) in
    same_wrong (subst (λ l. Wrong k at jd u p l d) r.3 (subst (λ l. Wrong k at jd u l x d) r.2 (subst (λ l. Wrong k at jd l c x d) r.1 (subst (λ l. Wrong k at l t c x d) r.0 w)))) v

-- octets have at most one fault
pub one_body_fault : {at : ℕ} {s : List ℕ} {r q : Refusal} → BodyFault at s r → BodyFault at s q → r ≡ q
one_body_fault {at} {s} {r} {q} f g =
    ⊎_elim same (λ o. ⊎_elim
    (λ l. let z = longer_steps (path_open f.reached) (path_open g.reached) l f.left g.left join in absurd (no_step z.2 z.3 (shape f.stops) z.4))
    (λ l. let z = longer_steps (path_open g.reached) (path_open f.reached) l g.left f.left (sym join) in absurd (no_step z.2 z.3 (shape g.stops) z.4)) o)
    (cases_order f.parts g.parts)
  where
    join : f.passed ++ f.left ≡ g.passed ++ g.left
    join = sym f.split ∙ g.split

    same : f.parts ≡ g.parts → r ≡ q
    same n =
        let z = same_steps (subst (λ j. Path j f.level f.passed) n (path_open f.reached)) (path_open g.reached) f.left g.left join in
        same_shape (subst (λ l. Shape l (at + length g.passed) g.left r) z.0 (subst (λ l. Shape f.level (at + length l) g.left r) z.1 (subst (λ l. Shape f.level (at + length f.passed) l r) z.2 (shape f.stops)))) (shape g.stops)

-- octets have at most one fault of a body, and none if they begin with a body
pub body_fault_laws : IsBodyFault BodyFault
body_fault_laws =
    record {
      one_fault = λ at octets r q f g. one_body_fault f g;
      never_both = λ at parts body rest r b f.
          (let in_it = past_open f.left rest f.reached b (sym f.split) in no_body_shape in_it.rest (shape f.stops) in_it.is in_it.split);
    }

-- the grammar of bodies, as a scan reads them
pub body_grammar : IsGrammar BodyNext (λ rules. BodyFault)
body_grammar =
    record {
      one = λ rules octets v w m n h g. one h g;
      one_fault = λ rules at octets r q f g. body_fault_laws.one_fault at octets r q f g;
      never_both = λ rules at octets v m r h f. body_fault_laws.never_both at h.parts h.body h.following r h.is_body (subst (λ s. BodyFault at s r) h.split f);
    }
  where
    one : {rules : EncodingRules} {octets : List ℕ} {v w : Length} {m n : ℕ} → BodyNext v rules octets m → BodyNext w rules octets n → (v ≡ w) × (m ≡ n)
    one h g =
        let same = body_front h.is_body g.is_body h.following g.following (sym h.split ∙ g.split) in
        let size = h.sized ∙ ap length same.0 ∙ sym g.sized in
        (h.counts ∙ ap indefinite_length size ∙ sym g.counts, size)
