-- Lemmas on values at the start of the same octets.
use Rattle.std.proofs.Common.{◌≡◌, ℕ, Bool, List, ◌++◌, length, drop, sym, ap, subst, ◌∙◌}
use Rattle.der.specs.Prelude.{Head, number, Tag, EncodingRules, ElementNext}
use Rattle.der.specs.Element.{head_sans_eoc}
use Rattle.der.specs.Arithmetic.{sans_eoc}
use Rattle.der_base.proofs.DigitLemmas.{same_length_front}
use Rattle.der_base.proofs.HeaderLemmas.{one_header}

-- two elements at the start of the same octets have the same contents
one_contents : {A B : Type 0} {tag : Tag} {takes : A → EncodingRules → Head → List ℕ → Type 0}
    {gives : B → EncodingRules → Head → List ℕ → Type 0} {v : A} {w : B} {rules : EncodingRules}
    {octets : List ℕ} {m n : ℕ} (one : ElementNext tag takes v rules octets m)
    (two : ElementNext tag gives w rules octets n) → one.contents ≡ two.contents
one_contents {octets = octets} one two =
    let same = one_header one.next two.next in
    let size : length one.contents ≡ length two.contents =
    one.sized ∙ ap (λ (h : Head). number (sans_eoc h.length)) same.0 ∙ sym two.sized in
    let split : one.contents ++ (one.eoc ++ one.following) ≡ two.contents ++
    (two.eoc ++ two.following) =
    sym one.split ∙ ap (λ k. drop k octets) same.1 ∙ two.split in
    (same_length_front one.contents two.contents (one.eoc ++ one.following)
    (two.eoc ++ two.following) size split).0

-- what contents decide is the same for two values at the start of the same octets
pub one_element : {A : Type 0} {tag : Tag} {takes : A → EncodingRules → Head → List ℕ → Type 0}
    {f : A → Bool} → ((v w : A) (rules : EncodingRules) (h : Head) (octets : List ℕ)
    → takes v rules h octets → takes w rules h octets → f v ≡ f w) → {v w : A}
    {rules : EncodingRules} {octets : List ℕ} {m n : ℕ} → ElementNext tag takes v rules octets m
    → ElementNext tag takes w rules octets n → f v ≡ f w
one_element {takes = takes} decided {v = v} {w} {rules} one two =
    decided v w rules (head_sans_eoc one.says) one.contents one.taken
    (subst (λ h. takes w rules (head_sans_eoc h) one.contents)
    (sym (one_header one.next two.next).0)
    (subst (λ x. takes w rules (head_sans_eoc two.says) x) (sym (one_contents one two)) two.taken))
