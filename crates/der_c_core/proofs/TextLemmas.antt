-- Texts that are written in pieces, and truncated.
use Rattle.std.proofs.Common.{◌≡◌, ℕ, ◌+◌, ◌-◌, ◌≤◌, Option, Some, None, IfSome, List, [], ◌∷◌, ◌++◌, length, take, drop, min, refl, sym, ap, ◌∙◌, subst, arith, append_assoc, append-nil, length-append, length-take, length-take-le, ⊎_elim}
use Rattle.std.proofs.lemmas.List.{take_all, take-append-le, take-append-drop, drop-drop}
use Rattle.std.proofs.lemmas.Bool.{cases_lt}
use lib.Seq.{paste, length-paste, take-paste, drop-paste, take_at}
use Rattle.std.specs.List.{FoldsTo, concat}
use Rattle.std.specs.Fmt.{WritesInCalls, WritesText}
use Rattle.der_c_core.specs.ErrorText.{AppendsText, IsCut}
use Rattle.der_c_core.specs.declared.text.cut.Text.{Text}

-- truncating before and after appending equals truncating once
cut_twice : (n : ℕ) (x y z : List ℕ) → take n (take n (x ++ y) ++ z) ≡ take n (x ++ (y ++ z))
cut_twice n x y z =
    ⊎_elim
    (λ fits. ap (λ l. take n (l ++ z)) (take_all n (x ++ y) (omega (arith, fits))) ∙ ap (take n) (append_assoc x y z))
    (λ long. (
    let size : length (take n (x ++ y)) ≡ n = length-take-le n (x ++ y) long in
    take-append-le n (take n (x ++ y)) z (omega (arith, size)) ∙ take_all n (take n (x ++ y)) (omega (arith, size))
    ∙ sym (take-append-le n (x ++ y) z long) ∙ ap (take n) (append_assoc x y z)))
    (cases_lt (length (x ++ y)) n)

appended_none : (t : Text) → AppendsText t [] t
appended_none t =
    record {
      reference = refl;
      size = refl;
      count = omega (arith, t.within);
      text = sym (ap (take (length t.octets.now)) (append-nil (take t.count t.octets.now)) ∙ take_all (length t.octets.now) (take t.count t.octets.now) (omega (arith, length-take t.count t.octets.now)));
      following = refl;
    }

appended_on : (t u v : Text) (a b : List ℕ) → AppendsText t a u → AppendsText u b v → AppendsText t (a ++ b) v
appended_on t u v a b p q =
    let space = length t.octets.now in
    let here = take t.count t.octets.now in
    record {
      reference = q.reference ∙ p.reference;
      size = q.size ∙ p.size;
      count = omega (arith, q.count, p.count, p.size, length-append a b);
      text = q.text ∙ ap (λ n. take n (take u.count u.octets.now ++ b)) p.size ∙ ap (λ l. take space (l ++ b)) p.text ∙ cut_twice space here a b;
      following =
          let more : v.count ≡ u.count + (v.count - u.count) = omega (arith, q.count, u.within) in
          let over = ap (λ n. drop n u.octets.now) more ∙ sym (drop-drop (v.count - u.count) u.count u.octets.now) in
          let under = drop-drop (v.count - u.count) u.count t.octets.now ∙ ap (λ n. drop n t.octets.now) (sym more) in
          q.following ∙ over ∙ ap (drop (v.count - u.count)) p.following ∙ under;
    }

appended_all : (parts : List (List ℕ)) (t u : Text) → FoldsTo AppendsText t parts u → AppendsText t (concat parts) u
appended_all [] t u e = subst (AppendsText t []) e (appended_none t)
appended_all (x ∷ xs) t u h = appended_on t h.0 u x (concat xs) h.1 (appended_all xs h.0 u h.2)

pub appended_calls : (t u : Text) (text : List ℕ) → WritesInCalls AppendsText t text u → AppendsText t text u
appended_calls t u text w = subst (λ l. AppendsText t l u) w.whole (appended_all w.parts t u w.calls)

-- at the start of the octets
pub cut_whole : (t u : Text) (text : List ℕ) → t.count ≡ 0 → AppendsText t text u → IsCut text t.octets.now u.count u.octets.now
cut_whole t u text none h =
    record {
      counted = omega (arith, h.count, none);
      begins = h.text ∙ ap (λ n. take (length t.octets.now) (take n t.octets.now ++ text)) none;
      following = h.following;
    }

-- one piece is appended, as far as there is space
pub text_put : (t u : Text) (text put : List ℕ) (taken : ℕ) → u.octets.ghost_name ≡ t.octets.ghost_name → taken ≡ min (length text) (length t.octets.now - t.count)
    → put ≡ take taken text → u.octets.now ≡ paste t.octets.now t.count put taken → u.count ≡ t.count + taken → AppendsText t text u
text_put t u text put taken same count is pasted following =
    let old = t.octets.now in
    let here = take t.count old in
    let within = t.within in
    let few : taken ≤ length text = omega (arith, count) in
    let size : length put ≡ taken = ap length is ∙ length-take-le taken text few in
    let front : take u.count u.octets.now ≡ here ++ take taken text =
    ap (λ n. take n u.octets.now) following ∙ ap (take (t.count + taken)) pasted ∙ take-paste old t.count put taken within (omega (arith, size))
    ∙ ap (λ l. here ++ l) (take_all taken put (omega (arith, size)) ∙ is) in
    let at : length here ≡ t.count = length-take-le t.count old within in
    let split : here ++ text ≡ (here ++ take taken text) ++ drop taken text = ap (λ l. here ++ l) (sym (take-append-drop taken text)) ∙ sym (append_assoc here (take taken text) (drop taken text)) in
    let long : length (here ++ take taken text) ≡ t.count + taken = length-append here (take taken text) ∙ omega (arith, at, length-take-le taken text few) in
    record {
      reference = same;
      size = ap length pasted ∙ length-paste old t.count put taken (omega (arith, count, within)) (omega (arith, size));
      count = omega (arith, following, count, within);
      text = front ∙ ⊎_elim
          (λ fits. (
          let all : taken ≡ length text = omega (arith, count, fits) in
          ap (λ l. here ++ l) (take_all taken text (omega (arith, all))) ∙ sym (take_all (length old) (here ++ text) (omega (arith, length-append here text, at, fits)))))
          (λ over. sym (ap (take (length old)) split ∙ take_at (here ++ take taken text) (drop taken text) (length old) (omega (arith, long, count, within, over))))
          (cases_lt (t.count + length text) (length old));
      following = ap (λ n. drop n u.octets.now) following ∙ ap (drop (t.count + taken)) pasted ∙ drop-paste old t.count put taken within (omega (arith, size)) ∙ ap (λ n. drop n old) (sym following);
    }

-- a text that was written through a reference is what the octets hold when the reference ends
pub written_text_is_truncated : (o : Option (List ℕ)) (t u : Text) (last : List ℕ) → t.count ≡ 0 → WritesText AppendsText t o u → (u.octets.ghost_name ≡ t.octets.ghost_name → last ≡ u.octets.now)
    → IfSome o (λ text. IsCut text t.octets.now u.count last)
written_text_is_truncated None t u last none h ends = tt
written_text_is_truncated (Some text) t u last none h ends =
    let all = appended_calls t u text h in
    subst (IsCut text t.octets.now u.count) (sym (ends all.reference)) (cut_whole t u text none all)
