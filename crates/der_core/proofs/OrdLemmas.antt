-- Results of comparing elements.
use Rattle.std.proofs.Common.{◌≡◌, ◌≢◌, ℕ, List, [], ◌++◌, length, Result, Ok, Err, IsOk, IfOk, refl, sym, ap, ◌∙◌, subst}
use Rattle.std.specs.Ordering.{ordering_then}
use Rattle.std.specs.declared.cmp.Ordering.{Ordering}
use Rattle.std.specs.declared.cmp.Ordering.TheVariants.{Less, Equal, Greater}
use Rattle.der_base.specs.Length.{number}
use Rattle.der_base.specs.Order.{byte_order}
use Rattle.der_base.specs.HeaderGrammar.{header_octets, Head}
use Rattle.der_base.specs.declared.length.Length.{Length}
use Rattle.der_base.specs.declared.tag.Tag.{Tag}
use Rattle.der_base.specs.declared.error.Error.{Error}
use Rattle.der_base.proofs.DelimitedLemmas.{element_parts}
use Rattle.der_base.proofs.HeaderLemmas.{header_front}
use Rattle.der_base.proofs.OrderLemmas.{same_octets}
use Rattle.der_core.specs.DerOrd.{Compared, then_compared, element_order, AreOrderly}
use Rattle.der_core.specs.Encode.{element_octets, Counts, HeaderOf, HeaderAnswer}
use Rattle.der_core.specs.Header.{head_of}
use Rattle.der_core.specs.declared.header.Header.{Header}

-- two headers that compare equal in byte order have one tag and one number
same_header : (t u : Tag) (m n : ℕ) → byte_order (header_octets t m) (header_octets u n) ≡ Equal → (t ≡ u) × (m ≡ n)
same_header t u m n e =
    let f = header_front t u m n [] [] (ap (λ l. l ++ []) (same_octets (header_octets t m) (header_octets u n) e)) in (f.0, f.1)

then_ok : (o p : Ordering) (v : Compared) → (o ≡ Equal → v ≡ Ok p) → then_compared o v ≡ Ok (ordering_then o p)
then_ok Less p v h = refl
then_ok Equal p v h = h refl
then_ok Greater p v h = refl

-- elements whose contents are compared in byte order are compared in byte order
pub element_bytes : (t u : Tag) (c d : List ℕ) (p q : Result Length Error) (v : Compared) → Counts c p → Counts d q → AreOrderly t u c d v → IsOk p → IsOk q
    → element_order t u p q v ≡ Ok (byte_order (element_octets t c) (element_octets u d))
element_bytes t u c d (Ok m) (Ok n) v h k orderly i j =
    ap (λ i. then_compared (byte_order (header_octets t i) (header_octets u (number n))) v) h
    ∙ ap (λ i. then_compared (byte_order (header_octets t (length c)) (header_octets u i)) v) k
    ∙ then_ok (byte_order (header_octets t (length c)) (header_octets u (length d))) (byte_order c d) v
    (λ e. let f = same_header t u (length c) (length d) e in orderly f.0 f.1)
    ∙ ap Ok (sym (element_parts t u c d))
element_bytes t u c d (Ok m) (Err e) v h k orderly i j = cc
element_bytes t u c d (Err e) q v h k orderly i j = cc

-- if comparing such elements returns a result, it is byte order
pub element_sorted : (t u : Tag) (c d : List ℕ) (p q : Result Length Error) (v : Compared) → Counts c p → Counts d q → AreOrderly t u c d v
    → IfOk (element_order t u p q v) (λ o. o ≡ byte_order (element_octets t c) (element_octets u d))
element_sorted t u c d (Ok m) (Ok n) v h k orderly =
    subst (λ r. IfOk r (λ o. o ≡ byte_order (element_octets t c) (element_octets u d))) (sym (element_bytes t u c d (Ok m) (Ok n) v h k orderly refl refl)) refl
element_sorted t u c d (Ok m) (Err e) v h k orderly = tt
element_sorted t u c d (Err e) q v h k orderly = tt

-- the header of a value gives the number of its contents octets
counted_by : (t : Tag) (c : List ℕ) (p : Result Length Error) (h : Header) → HeaderAnswer t p (Ok h) → HeaderOf t c (Ok h) → Counts c p
counted_by t c (Ok l) h a o = ap (λ (x : Head). number x.length) (sym a) ∙ o.1
counted_by t c (Err e) h a o = let wrong : Ok h ≡ Err e = a in cc

-- if both headers are available, they and the contents after them decide
headers_decide : (t u : Tag) (p q : Result Length Error) (h g : Header) (o : Ordering) (v : Compared) → HeaderAnswer t p (Ok h) → HeaderAnswer u q (Ok g)
    → o ≡ byte_order (header_octets (head_of h).tag (number (head_of h).length)) (header_octets (head_of g).tag (number (head_of g).length))
    → then_compared o v ≡ element_order t u p q v
headers_decide t u (Ok m) (Ok n) h g o v a b e =
    ap (λ x. then_compared x v)
    (e ∙ ap (λ (x : Head). byte_order (header_octets x.tag (number x.length)) (header_octets (head_of g).tag (number (head_of g).length))) a
    ∙ ap (λ (x : Head). byte_order (header_octets t (number m)) (header_octets x.tag (number x.length))) b)
headers_decide t u (Ok m) (Err f) h g o v a b e = let wrong : Ok g ≡ Err f = b in cc
headers_decide t u (Err f) q h g o v a b e = let wrong : Ok h ≡ Err f = a in cc

-- the result then, exactly and in octets
abbrev pub Decides : Tag → Tag → List ℕ → List ℕ → Result Length Error → Result Length Error → Compared → Compared → Type 0
Decides t u c d p q v result = record {
  ok : AreOrderly t u c d v → IfOk result (λ o. o ≡ byte_order (element_octets t c) (element_octets u d));
  complete : AreOrderly t u c d v → IsOk p → IsOk q → result ≡ Ok (byte_order (element_octets t c) (element_octets u d));
  exact : result ≡ element_order t u p q v;
}

pub decided : (t u : Tag) (c d : List ℕ) (p q : Result Length Error) (h g : Header) (o : Ordering) (v result : Compared)
    → HeaderAnswer t p (Ok h) → HeaderOf t c (Ok h) → HeaderAnswer u q (Ok g) → HeaderOf u d (Ok g)
    → o ≡ byte_order (header_octets (head_of h).tag (number (head_of h).length)) (header_octets (head_of g).tag (number (head_of g).length))
    → result ≡ then_compared o v → Decides t u c d p q v result
decided t u c d p q h g o v result a i b j e r =
    let all : result ≡ element_order t u p q v = r ∙ headers_decide t u p q h g o v a b e in
    let m = counted_by t c p h a i in
    let n = counted_by u d q g b j in
    record {
      ok = λ s. subst (λ x. IfOk x (λ o. o ≡ byte_order (element_octets t c) (element_octets u d))) (sym all) (element_sorted t u c d p q v m n s);
      complete = λ s k l. all ∙ element_bytes t u c d p q v m n s k l;
      exact = all;
    }

-- an ordering that is not `Equal` is the result
pub unequal_decides : (o : Ordering) (v : Compared) → o ≢ Equal → Ok o ≡ then_compared o v
unequal_decides Less v h = refl
unequal_decides Equal v h = absurd (h refl)
unequal_decides Greater v h = refl
