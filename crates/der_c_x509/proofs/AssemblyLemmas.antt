-- Elements that are written in pieces: what the pieces are together.
use Rattle.std.proofs.Common.{◌≡◌, ◌&&◌, ◌==◌, ℕ, ◌+◌, ◌^◌, ◌≤◌, Bool, true, false, List, [], ◌∷◌, ◌++◌, length, sym, ap, subst, ◌∙◌, refl, ⊎_elim, arith}
use Rattle.std.proofs.lemmas.Bool.{cases_eq, eqb-true, ne_eqb}
use Rattle.std.proofs.lemmas.List.{append_assoc, append-nil, length-append}
use Rattle.der_base.specs.Length.{length_octets}
use Rattle.der_base.specs.Tag.{tag_octets}
use Rattle.der_base.specs.declared.tag.Tag.{Tag}
use Rattle.der_base.specs.declared.tag.Tag.TheVariants.{BitString, Integer, ObjectIdentifier, OctetString, Sequence, Set, ContextSpecific}
use Rattle.der_base.specs.Tag.{tag_number}
use Rattle.der_core.specs.Encode.{element_octets}
use Rattle.der_core.specs.Writer.{WriterState}
use Rattle.der_c_core.specs.WriterCalls.{WritesElement}
use Rattle.der_c_core.specs.declared.error.DerError.{DerError}
use Rattle.der_c_values.specs.StringTypes.{string_form}
use Rattle.der_c_x509.specs.declared.assembly.certificate.DerCertificateParts.{DerCertificateParts}
use Rattle.der_c_x509.specs.Assembly.{AreExtensionsHeader, certificate_contents, string_tag, attribute_octets, signed_contents, request_contents, request_attributes, extension_request, extensions_field, context_octets}

pub written_as : {word : ℕ} {xs ys : List ℕ} {s t : WriterState} {r : DerError} → WritesElement word xs s r t → xs ≡ ys → WritesElement word ys s r t
written_as {word} {s = s} {t = t} {r = r} written same = subst (λ x. WritesElement word x s r t) same written

-- an identifier of one octet and length octets are a header
header_joined : (t : Tag) (o : ℕ) (l : List ℕ) (n : ℕ) → tag_octets t ≡ o ∷ [] → l ≡ length_octets n → o ∷ l ≡ tag_octets t ++ length_octets n
header_joined t o l n tag is = ap (λ x. o ∷ x) is ∙ ap (λ x. x ++ length_octets n) (sym tag)

-- with contents they are an element
pub element_whole : (t : Tag) (o : ℕ) (l contents : List ℕ) → tag_octets t ≡ o ∷ [] → l ≡ length_octets (length contents) → o ∷ (l ++ contents) ≡ element_octets t contents
element_whole t o l contents tag is = ap (λ x. x ++ contents) (header_joined t o l (length contents) tag is)

-- an element before other octets
pub element_before : (t : Tag) (o : ℕ) (l contents rest : List ℕ) → tag_octets t ≡ o ∷ [] → l ≡ length_octets (length contents) → o ∷ (l ++ (contents ++ rest)) ≡ element_octets t contents ++ rest
element_before t o l contents rest tag is =
    ap (λ x. o ∷ x) (sym (append_assoc l contents rest)) ∙ ap (λ x. x ++ rest) (element_whole t o l contents tag is)

pub element_last : (t : Tag) (o : ℕ) (l contents : List ℕ) → tag_octets t ≡ o ∷ [] → l ≡ length_octets (length contents) → o ∷ (l ++ (contents ++ [])) ≡ element_octets t contents
element_last t o l contents tag is = ap (λ x. o ∷ (l ++ x)) (append-nil contents) ∙ element_whole t o l contents tag is

pub signed_joined : (part algorithm signature l : List ℕ) → l ≡ length_octets (length signature + 1)
    → part ++ (algorithm ++ (3 ∷ (l ++ (0 ∷ (signature ++ []))))) ≡ signed_contents part algorithm signature
signed_joined part algorithm signature l is =
    let count : length signature + 1 ≡ length (0 ∷ signature) = omega arith in
    ap (λ x. part ++ (algorithm ++ x)) (element_last BitString 3 l (0 ∷ signature) refl (is ∙ ap length_octets count))

pub algorithm_joined : (id rest l : List ℕ) → l ≡ length_octets (length id) → 6 ∷ (l ++ (id ++ (rest ++ []))) ≡ element_octets ObjectIdentifier id ++ rest
algorithm_joined id rest l is = ap (λ x. 6 ∷ (l ++ (id ++ x))) (append-nil rest) ∙ element_before ObjectIdentifier 6 l id rest refl is

pub extension_joined : (id flag value l m : List ℕ) → l ≡ length_octets (length id) → m ≡ length_octets (length value)
    → 6 ∷ (l ++ (id ++ (flag ++ (4 ∷ (m ++ (value ++ [])))))) ≡ element_octets ObjectIdentifier id ++ (flag ++ element_octets OctetString value)
extension_joined id flag value l m is last =
    ap (λ x. 6 ∷ (l ++ (id ++ (flag ++ x)))) (element_last OctetString 4 m value refl last)
    ∙ element_before ObjectIdentifier 6 l id (flag ++ element_octets OctetString value) refl is

-- the length of two elements
two_count : (o p : ℕ) (l id m text : List ℕ) → length (o ∷ (l ++ (id ++ (p ∷ (m ++ text))))) ≡ 2 + length l + length m + length id + length text
two_count o p l id m text = omega (arith, length-append l (id ++ (p ∷ (m ++ text))), length-append id (p ∷ (m ++ text)), length-append m text)

pub attribute_joined : (t : Tag) (o : ℕ) (id text l m n : List ℕ) → tag_octets t ≡ o ∷ [] → l ≡ length_octets (length id) → m ≡ length_octets (length text)
    → n ≡ length_octets (2 + length l + length m + length id + length text)
    → 48 ∷ (n ++ (6 ∷ (l ++ (id ++ (o ∷ (m ++ (text ++ []))))))) ≡ attribute_octets id t text
attribute_joined t o id text l m n tag is last all =
    let inner : 6 ∷ (l ++ (id ++ (o ∷ (m ++ (text ++ []))))) ≡ element_octets ObjectIdentifier id ++ element_octets t text =
    ap (λ x. 6 ∷ (l ++ (id ++ x))) (element_last t o m text tag last) ∙ element_before ObjectIdentifier 6 l id (element_octets t text) refl is in
    let count : 2 + length l + length m + length id + length text ≡ length (element_octets ObjectIdentifier id ++ element_octets t text) =
    sym (two_count 6 o l id m text) ∙ ap (λ x. length (6 ∷ (l ++ (id ++ (o ∷ (m ++ x)))))) (sym (append-nil text)) ∙ ap length inner in
    ap (λ x. 48 ∷ (n ++ x)) inner ∙ element_whole Sequence 48 n (element_octets ObjectIdentifier id ++ element_octets t text) refl (all ∙ ap length_octets count)

-- the attributes of a request with extensions
requested_joined : (o : ℕ) (more v a : List ℕ) → v ≡ length_octets (length (o ∷ more)) → a ≡ length_octets (11 + 1 + length v + length (o ∷ more))
    → 48 ∷ (a ++ (6 ∷ 9 ∷ (extension_request ++ (49 ∷ (v ++ (o ∷ (more ++ []))))))) ≡ request_attributes (o ∷ more)
requested_joined o more v a is last =
    let values : 49 ∷ (v ++ ((o ∷ more) ++ [])) ≡ element_octets Set (o ∷ more) = element_last Set 49 v (o ∷ more) refl is in
    let inner : 6 ∷ 9 ∷ (extension_request ++ (49 ∷ (v ++ ((o ∷ more) ++ [])))) ≡ element_octets ObjectIdentifier extension_request ++ element_octets Set (o ∷ more) =
    ap (λ x. 6 ∷ 9 ∷ (extension_request ++ x)) values in
    let count : 11 + 1 + length v + length (o ∷ more) ≡ length (element_octets ObjectIdentifier extension_request ++ element_octets Set (o ∷ more)) =
    (let e = length-append v ((o ∷ more) ++ []) in let f = ap length (append-nil (o ∷ more)) in let g : 11 + 1 + length v + length (o ∷ more) ≡ length (6 ∷ 9 ∷ (extension_request ++ (49 ∷ (v ++ ((o ∷ more) ++ []))))) = omega (arith, e, f) in g ∙ ap length inner) in
    ap (λ x. 48 ∷ (a ++ x)) inner ∙ element_whole Sequence 48 a (element_octets ObjectIdentifier extension_request ++ element_octets Set (o ∷ more)) refl (last ∙ ap length_octets count)

pub request_joined : (subject key extensions v a m : List ℕ) → 1 ≤ length extensions → v ≡ length_octets (length extensions)
    → a ≡ length_octets (11 + 1 + length v + length extensions) → m ≡ length_octets (1 + length a + (11 + 1 + length v + length extensions))
    → 2 ∷ 1 ∷ 0 ∷ (subject ++ (key ++ (160 ∷ (m ++ (48 ∷ (a ++ (6 ∷ 9 ∷ (extension_request ++ (49 ∷ (v ++ (extensions ++ [])))))))))))
    ≡ request_contents subject key extensions
request_joined subject key [] v a m some is last all = absurd (omega (arith, some))
request_joined subject key (o ∷ more) v a m some is last all =
    let attributes = requested_joined o more v a is last in
    let count : 1 + length a + (11 + 1 + length v + length (o ∷ more)) ≡ length (request_attributes (o ∷ more)) =
    (let e = length-append v ((o ∷ more) ++ []) in let f = ap length (append-nil (o ∷ more)) in let h = length-append a (6 ∷ 9 ∷ (extension_request ++ (49 ∷ (v ++ ((o ∷ more) ++ []))))) in
    let g : 1 + length a + (11 + 1 + length v + length (o ∷ more)) ≡ length (48 ∷ (a ++ (6 ∷ 9 ∷ (extension_request ++ (49 ∷ (v ++ ((o ∷ more) ++ []))))))) = omega (arith, e, f, h) in g ∙ ap length attributes) in
    ap (λ x. 2 ∷ 1 ∷ 0 ∷ (subject ++ (key ++ (160 ∷ (m ++ x))))) attributes
    ∙ ap (λ x. 2 ∷ 1 ∷ 0 ∷ (subject ++ (key ++ x))) (element_whole (ContextSpecific true (tag_number 0)) 160 m (request_attributes (o ∷ more)) refl (all ∙ ap length_octets count))

pub serial_joined : (serial rest l : List ℕ) → l ≡ length_octets (length serial)
    → 160 ∷ 3 ∷ 2 ∷ 1 ∷ 2 ∷ 2 ∷ (l ++ (serial ++ rest)) ≡ context_octets 0 (element_octets Integer (2 ∷ [])) ++ (element_octets Integer serial ++ rest)
serial_joined serial rest l is = ap (λ x. 160 ∷ 3 ∷ 2 ∷ 1 ∷ 2 ∷ x) (element_before Integer 2 l serial rest refl is)

-- extensions after their tag and length, and none after no octets
pub extensions_after : (n : ℕ) (m : List ℕ) → 1 ≤ n → m ≡ length_octets n → AreExtensionsHeader (163 ∷ []) m n
extensions_after n m some is [] count = absurd (omega (arith, some, count))
extensions_after n m some is (o ∷ more) count = element_whole (ContextSpecific true (tag_number 3)) 163 m (o ∷ more) refl (is ∙ ap length_octets (sym count))

pub none_after : AreExtensionsHeader [] [] 0
none_after [] count = refl
none_after (o ∷ more) count = absurd (omega (arith, count))

pub second_fails : (a : Bool) {b : Bool} → b ≡ false → (a && b) ≡ false
second_fails true is = is
second_fails false is = refl

pub both_hold : {a b : Bool} → a ≡ true → b ≡ true → (a && b) ≡ true
both_hold {b = b} first second = ap (λ x. x && b) first ∙ second

-- the identifier of a string type is its word
pub string_octet : (word : ℕ) (text : List ℕ) → string_form word text ≡ true → tag_octets (string_tag word) ≡ word ∷ []
string_octet word text form =
    ⊎_elim (λ z. rw z refl) (λ a. ⊎_elim (λ z. rw z refl) (λ b. ⊎_elim (λ z. rw z refl) (λ c. ⊎_elim (λ z. rw z refl) (λ d.
    ⊎_elim (λ z. rw z refl) (λ e. ⊎_elim (λ z. rw z refl) (λ f. ⊎_elim (λ z. rw z refl) (λ g.
    absurd (let no : false ≡ true = rw (ne_eqb word 12 a, ne_eqb word 18 b, ne_eqb word 19 c, ne_eqb word 20 d, ne_eqb word 22 e, ne_eqb word 26 f, ne_eqb word 30 g) at form in cc))
    (cases_eq word 30)) (cases_eq word 26)) (cases_eq word 22)) (cases_eq word 20)) (cases_eq word 19)) (cases_eq word 18)) (cases_eq word 12)

pub no_octets : (xs : List ℕ) {b : Bool} → b ≡ (length xs == 0) → b ≡ true → xs ≡ []
no_octets [] is empty = refl
no_octets (x ∷ xs) is empty = absurd (omega (arith, eqb-true (length (x ∷ xs)) 0 (sym is ∙ empty)))

pub some_octets : (xs : List ℕ) {b : Bool} → b ≡ (length xs == 0) → b ≡ false → 1 ≤ length xs
some_octets [] is some = absurd (let no : true ≡ false = sym is ∙ some in cc)
some_octets (x ∷ xs) is some = omega arith

-- extensions that are too long for a length make the certificate too long
field_count : (xs : List ℕ) → length xs ≤ length (extensions_field xs)
field_count [] = omega arith
field_count (o ∷ more) = omega (arith, length-append (tag_octets (ContextSpecific true (tag_number 3)) ++ length_octets (length (o ∷ more))) (o ∷ more))

longer_after : (xs ys : List ℕ) (n : ℕ) → n ≤ length ys → n ≤ length (xs ++ ys)
longer_after xs ys n is = omega (arith, length-append xs ys, is)

pub long_certificate : (p : DerCertificateParts) → 2 ^ 32 ≤ length p.extensions.octets.now → 2 ^ 32 ≤ length (certificate_contents p)
long_certificate p long =
    let field : 2 ^ 32 ≤ length (extensions_field p.extensions.octets.now) = omega (arith, field_count p.extensions.octets.now, long) in
    let key : 2 ^ 32 ≤ length (p.public_key.octets.now ++ extensions_field p.extensions.octets.now) = longer_after p.public_key.octets.now (extensions_field p.extensions.octets.now) (2 ^ 32) field in
    let after = p.public_key.octets.now ++ extensions_field p.extensions.octets.now in
    let subject = longer_after p.subject.octets.now after (2 ^ 32) key in
    let validity = longer_after p.validity.octets.now (p.subject.octets.now ++ after) (2 ^ 32) subject in
    let issuer = longer_after p.issuer.octets.now (p.validity.octets.now ++ (p.subject.octets.now ++ after)) (2 ^ 32) validity in
    let rest = p.issuer.octets.now ++ (p.validity.octets.now ++ (p.subject.octets.now ++ after)) in
    let algorithm = longer_after p.signature_algorithm.octets.now rest (2 ^ 32) issuer in
    let serial = longer_after (element_octets Integer p.serial_number.octets.now) (p.signature_algorithm.octets.now ++ rest) (2 ^ 32) algorithm in
    longer_after (context_octets 0 (element_octets Integer (2 ∷ []))) (element_octets Integer p.serial_number.octets.now ++ (p.signature_algorithm.octets.now ++ rest)) (2 ^ 32) serial
