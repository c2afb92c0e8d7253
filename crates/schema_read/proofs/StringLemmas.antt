-- Texts that are joined.
use Rattle.std.proofs.Common.{◌≡◌, ℕ, Bool, true, false, List, [], ◌∷◌, ◌++◌, refl, sym, ap, ap₂, ◌∙◌, subst₂, append_assoc, append-nil}
use Rattle.std.specs.List.{concat}
use Rattle.der_base.specs.declared.encoding_rules.EncodingRules.TheVariants.{Ber}
use Rattle.schema_rules.specs.Contents.{IsContents}
use Rattle.schema_read.specs.Strings.{segment_type, AreBits, IsJoined}
use Rattle.schema_read.specs.StringReading.{IsText, IsWhole}

bits_once : (ts : List (List ℕ)) (k j : ℕ) (xs ys : List ℕ) → AreBits ts k xs → AreBits ts j ys → (k ≡ j) × (xs ≡ ys)
bits_once [] k j xs ys p q = (p.0 ∙ sym q.0, p.1 ∙ sym q.1)
bits_once (last ∷ []) k j xs ys p q = let e : k ∷ xs ≡ j ∷ ys = sym p ∙ q in (cc, cc)
bits_once (first ∷ second ∷ ts) k j xs ys (w, o, e, p, f) (v, u, g, q, h) =
    let same = bits_once (second ∷ ts) k j o u p q in
    let d : 0 ∷ w ≡ 0 ∷ v = sym e ∙ g in
    let whole : w ≡ v = cc in
    (same.0, f ∙ ap₂ (λ a b. a ++ b) whole same.1 ∙ sym h)

-- texts are joined to one
pub joined_once : (bits : Bool) (ts : List (List ℕ)) (s t : List ℕ) → IsJoined bits ts s → IsJoined bits ts t → s ≡ t
joined_once false ts s t p q = p ∙ sym q
joined_once true ts s t (k, xs, e, p) (j, ys, f, q) =
    let same = bits_once ts k j xs ys p q in e ∙ ap₂ (λ a b. a ∷ b) same.0 same.1 ∙ sym f

-- two texts are joined first, and then to those after them
pub joined_split : (bits : Bool) (a s : List ℕ) (ts : List (List ℕ)) (t : List ℕ) → IsJoined bits (a ∷ s ∷ ts) t
    → (u : List ℕ) × IsJoined bits (a ∷ s ∷ []) u × IsJoined bits (u ∷ ts) t
joined_split false a s ts t e =
    (a ++ (s ++ []), refl, e ∙ ap (λ l. a ++ (l ++ concat ts)) (sym (append-nil s)) ∙ sym (append_assoc a (s ++ []) (concat ts)))
joined_split true a s [] t (k, xs, e, bits) = (t, (k, xs, e, bits), (k, xs, e, e))
joined_split true a s (y ∷ ys) t (k, xs, e, (w, others, f, (v, more, h, q, i), g)) =
    (0 ∷ (w ++ v), (0, w ++ v, refl, (w, v, f, h, refl)), (k, xs, e, (w ++ v, more, refl, q, g ∙ ap (λ l. w ++ l) i ∙ sym (append_assoc w v more))))

pub joined_merge : (bits : Bool) (a s u : List ℕ) (ts : List (List ℕ)) (t : List ℕ) → IsJoined bits (a ∷ s ∷ []) u → IsJoined bits (u ∷ ts) t
    → IsJoined bits (a ∷ s ∷ ts) t
joined_merge false a s u ts t p q =
    q ∙ ap (λ l. l ++ concat ts) p ∙ append_assoc a (s ++ []) (concat ts) ∙ ap (λ l. a ++ (l ++ concat ts)) (append-nil s)
joined_merge true a s u [] t (k, xs, e, bits) (j, ys, h, i) = (k, xs, h ∙ sym i ∙ e, bits)
joined_merge true a s u (y ∷ ys) t (k, xs, e, (w, others, f, last, g)) (j, zs, h, (v, more, i, r, l)) =
    let d : k ∷ xs ≡ 0 ∷ v = sym e ∙ i in
    let none : k ≡ 0 = cc in
    let same : v ≡ xs = cc in
    (j, zs, h, (w, others ++ more, f, (others, more, last ∙ ap (λ n. n ∷ others) none, r, refl), l ∙ ap (λ b. b ++ more) (same ∙ g) ∙ append_assoc w others more))

-- a text that others follow has no unused bits
pub joined_whole : (bits : Bool) (a s : List ℕ) (ts : List (List ℕ)) (t : List ℕ) → IsJoined bits (a ∷ s ∷ ts) t → IsWhole bits a
joined_whole false a s ts t e = tt
joined_whole true a s ts t (k, xs, e, (w, others, f, p, g)) = (w, f)

-- texts are joined first, and then to the text before them
pub joined_own : (bits : Bool) (a : List ℕ) (ts : List (List ℕ)) (t : List ℕ) → IsWhole bits a
    → IsJoined bits (a ∷ ts) t → (s : List ℕ) × IsJoined bits ts s × IsJoined bits (a ∷ s ∷ []) t
joined_own false a ts t whole e = (concat ts, refl, e ∙ ap (λ l. a ++ l) (sym (append-nil (concat ts))))
joined_own true a [] t (b, f) (k, xs, e, last) =
    let d : 0 ∷ b ≡ k ∷ xs = sym f ∙ last in
    let none : 0 ≡ k = cc in
    let same : xs ≡ b = cc in
    (0 ∷ [], (0, [], refl, (refl, refl)), (k, xs, e, (b, [], f, ap (λ n. n ∷ []) none, same ∙ sym (append-nil b))))
joined_own true a (y ∷ ys) t whole (k, xs, e, (w, others, f, p, g)) =
    (k ∷ others, (k, others, refl, p), (k, xs, e, (w, others, f, refl, g)))

pub joined_after : (bits : Bool) (a s : List ℕ) (ts : List (List ℕ)) (t : List ℕ) → IsJoined bits ts s → IsJoined bits (a ∷ s ∷ []) t
    → IsJoined bits (a ∷ ts) t
joined_after false a s ts t p q = q ∙ ap (λ l. a ++ l) (append-nil s ∙ p)
joined_after true a s [] t (j, x, h, (n, z)) (k, xs, e, (w, others, f, last, g)) =
    let d : j ∷ x ≡ k ∷ others = sym h ∙ last in
    let none : 0 ≡ k = cc in
    let same : others ≡ [] = cc in
    (k, xs, e, f ∙ ap₂ (λ m l. m ∷ l) none (sym (g ∙ ap (λ l. w ++ l) same ∙ append-nil w)))
joined_after true a s (y ∷ ys) t (j, x, h, p) (k, xs, e, (w, others, f, last, g)) =
    let d : j ∷ x ≡ k ∷ others = sym h ∙ last in
    let one : j ≡ k = cc in
    let same : x ≡ others = cc in
    (k, xs, e, (w, others, f, subst₂ (λ m l. AreBits (y ∷ ys) m l) one same p, g))

-- after the text of no segments a text is itself
pub joined_alone : (bits : Bool) (a s : List ℕ) (ts : List (List ℕ)) → IsJoined bits [] a → IsJoined bits ts s → IsJoined bits (a ∷ s ∷ []) s
joined_alone false a s ts none p = sym (ap (λ l. l ++ (s ++ [])) none ∙ append-nil s)
joined_alone true a s ts (k, xs, e, (n, z)) (j, ys, f, p) = (j, ys, f, ([], ys, e ∙ ap₂ (λ m l. m ∷ l) n z, f, refl))

pub none_whole : (bits : Bool) (a : List ℕ) → IsJoined bits [] a → IsWhole bits a
none_whole false a none = tt
none_whole true a (k, xs, e, (n, z)) = (xs, e ∙ ap (λ m. m ∷ xs) n)

-- nothing follows a text
pub joined_last : (bits : Bool) (a : List ℕ) → IsText bits a → IsJoined bits (a ∷ []) a
joined_last false a text = sym (append-nil a)
joined_last true a (k, xs, e) = (k, xs, e, e)

-- contents of a primitive segment are a text
pub text_of_contents : (bits : Bool) (octets : List ℕ) → IsContents Ber (segment_type bits) octets → IsText bits octets
text_of_contents false octets is = tt
text_of_contents true [] is = let e : false ≡ true = is.0 refl in absurd (cc)
text_of_contents true (o ∷ os) is = (o, os, refl)
