-- The end-of-contents octets of an indefinite length, octet by octet.
use Rattle.std.proofs.Common.{◌≡◌, ◌≢◌, ℕ, zero, suc, ◌+◌, ◌==◌, Bool, true, false, List, [], ◌∷◌, Result, Ok, Err, refl, sym, ap, ◌∙◌, subst, arith}
use Rattle.der_base.specs.Error.{refusal}
use Rattle.der_base.specs.declared.error.Error.{Error}
use Rattle.der_base.specs.declared.error.ErrorKind.TheVariants.{IndefiniteLength}
use Rattle.der_core.specs.ReaderState.{ReaderState, rest_of, advanced_state, IsSound, Reads}
use Rattle.der_core.specs.Outcome.{Outcome, Gives, Meets, outcome_of, outcome_following, chained_outcome}
use Rattle.der_core.specs.Reader.{read_byte_outcome, next_octet_outcome, eoc_outcome, read_eoc_outcome, zero_octet_outcome, read_zero_octet_outcome, kind_outcome}
use Rattle.der_core.specs.AfterFirstOctet.{Stops}
use Rattle.der_core.proofs.StateLemmas.{by_front, rest_after, byte_working, byte_read, byte_refused, error_stops, ByteRefused}

not_zero : (o : ℕ) (s : ReaderState) → zero_octet_outcome (suc o) s ≡ kind_outcome (Unit {0}) IndefiniteLength s
not_zero o s = (let no : (suc o == 0) ≡ false = grind arith in rw no refl)

-- an octet was read that is zero, or reading it failed, or it is nonzero
pub data ZeroOctet (s : ReaderState) : Result (Unit {0}) Error → ReaderState → Type 0 where
  zero_read : {v : Unit {0}} {t : ReaderState} → s.failed ≡ false → Reads s t (0 ∷ []) → ZeroOctet s (Ok v) t
  zero_cut : {e : Error} {t : ReaderState} → ByteRefused s e t → ZeroOctet s (Err e) t
  other_read : {e : Error} {c t : ReaderState} (o : ℕ) → s.failed ≡ false → Reads s c (o ∷ []) → o ≢ 0 → Stops c (refusal IndefiniteLength c.position) e t → ZeroOctet s (Err e) t

pub zero_octet : {s t : ReaderState} (r : Result (Unit {0}) Error) → IsSound s → Gives read_zero_octet_outcome s r t → ZeroOctet s r t
zero_octet {s} {t} r sound h = go (read_byte_outcome s).answer refl
  where
    following : (o : ℕ) → (read_byte_outcome s).answer ≡ Ok o → read_zero_octet_outcome s ≡ zero_octet_outcome o (read_byte_outcome s).after
    following o a = ap (λ x. outcome_following x (read_byte_outcome s).after zero_octet_outcome) a

    octet : (o : ℕ) → (r : Result (Unit {0}) Error) → Gives read_byte_outcome s (Ok o) (read_byte_outcome s).after → Gives (zero_octet_outcome o) (read_byte_outcome s).after r t → ZeroOctet s r t
    octet zero (Ok v) read g = zero_read (byte_working _ _ _ read) (byte_read (subst (Gives read_byte_outcome s (Ok 0)) (sym g.leaves) read))
    octet zero (Err e) read g = absurd (let a = g.answered in cc)
    octet (suc o) r read g = other o r read (record { answered = g.answered ∙ ap (λ x. x.answer) (not_zero o (read_byte_outcome s).after); leaves = g.leaves ∙ ap (λ x. x.after) (not_zero o (read_byte_outcome s).after) })
      where
        other : (o : ℕ) → (r : Result (Unit {0}) Error) → Gives read_byte_outcome s (Ok (suc o)) (read_byte_outcome s).after → Gives (kind_outcome (Unit {0}) IndefiniteLength) (read_byte_outcome s).after r t → ZeroOctet s r t
        other o (Ok v) read g = absurd (let a = g.answered in cc)
        other o (Err e) read g =
            other_read (suc o) (byte_working _ _ _ read) (byte_read read) (omega arith)
            (error_stops (read_byte_outcome s).after t IndefiniteLength e (let a = g.answered in cc) g.leaves)

    go : (a : Result ℕ Error) → (read_byte_outcome s).answer ≡ a → ZeroOctet s r t
    go (Ok o) a = octet o r (record { answered = sym a; leaves = refl }) (record { answered = h.answered ∙ ap (λ x. x.answer) (following o a); leaves = h.leaves ∙ ap (λ x. x.after) (following o a) })
    go (Err e) a =
        let table : read_zero_octet_outcome s ≡ outcome_of (Err e) (read_byte_outcome s).after = ap (λ x. outcome_following x (read_byte_outcome s).after zero_octet_outcome) a in
        let cut : Gives read_byte_outcome s (Err e) t = record { answered = sym a; leaves = h.leaves ∙ ap (λ x. x.after) table } in
        subst (λ x. ZeroOctet s x t) (sym (h.answered ∙ ap (λ x. x.answer) table)) (zero_cut (byte_refused sound cut))

-- the two octets in sequence
abbrev both : ReaderState → Outcome (Unit {0})
both s = chained_outcome (read_zero_octet_outcome s) (λ _ t. read_zero_octet_outcome t)

one_front : (s : ReaderState) (q : List ℕ) → s.failed ≡ false → rest_of s ≡ q → read_zero_octet_outcome s ≡ chained_outcome (next_octet_outcome s q) zero_octet_outcome
one_front s q w e = ap (λ o. chained_outcome o zero_octet_outcome) (by_front s w ∙ ap (next_octet_outcome s) e)

two_on : (s : ReaderState) → advanced_state (advanced_state s 1) 1 ≡ advanced_state s 2
two_on s = (let sum : s.position + 1 + 1 ≡ s.position + 2 = omega arith in ap (λ p. record s { position = p }) sum)

second : (s : ReaderState) (q : List ℕ) → s.failed ≡ false → rest_of (advanced_state s 1) ≡ q → read_zero_octet_outcome (advanced_state s 1) ≡ eoc_outcome s (zero ∷ q)
second s [] w e = one_front (advanced_state s 1) [] w e
second s (zero ∷ more) w e = one_front (advanced_state s 1) (zero ∷ more) w e ∙ ap (λ t. zero_octet_outcome zero t) (two_on s)
second s (suc o ∷ more) w e = one_front (advanced_state s 1) (suc o ∷ more) w e ∙ ap (λ t. zero_octet_outcome (suc o) t) (two_on s) ∙ not_zero o (advanced_state s 2)

both_of : (s : ReaderState) (q : List ℕ) → s.failed ≡ false → rest_of s ≡ q → both s ≡ eoc_outcome s q
both_of s [] w e = ap (λ o. chained_outcome o (λ _ t. read_zero_octet_outcome t)) (one_front s [] w e)
both_of s (suc o ∷ more) w e =
    ap (λ o. chained_outcome o (λ _ t. read_zero_octet_outcome t)) (one_front s (suc o ∷ more) w e ∙ not_zero o (advanced_state s 1))
both_of s (zero ∷ more) w e =
    ap (λ o. chained_outcome o (λ _ t. read_zero_octet_outcome t)) (one_front s (zero ∷ more) w e) ∙ second s more w (rest_after s (zero ∷ []) more e)

-- the table of the end-of-contents octets is that of its two octets
eoc_is : (s : ReaderState) → both s ≡ read_eoc_outcome s
eoc_is s = go s.failed refl
  where
    go : (f : Bool) → s.failed ≡ f → both s ≡ read_eoc_outcome s
    go true f = rw f refl
    go false f = both_of s (rest_of s) f refl ∙ rw f refl

through : {s u : ReaderState} → Gives read_zero_octet_outcome s (Ok tt) u → both s ≡ read_zero_octet_outcome u
through {s} {u} h =
    ap (λ x. outcome_following x (read_zero_octet_outcome s).after (λ _ t. read_zero_octet_outcome t)) (sym h.answered)
    ∙ ap (λ x. outcome_following {A = Unit {0}} (Ok tt) x (λ _ t. read_zero_octet_outcome t)) (sym h.leaves)

from_both : {s t : ReaderState} {r : Result (Unit {0}) Error} → Gives both s r t → Gives read_eoc_outcome s r t
from_both {s} h = record { answered = h.answered ∙ ap (λ o. o.answer) (eoc_is s); leaves = h.leaves ∙ ap (λ o. o.after) (eoc_is s) }

then_gives : {s u t : ReaderState} {r : Result (Unit {0}) Error} → Gives read_zero_octet_outcome s (Ok tt) u → Gives read_zero_octet_outcome u r t → Gives read_eoc_outcome s r t
then_gives h g =
    from_both (record { answered = g.answered ∙ ap (λ o. o.answer) (sym (through h)); leaves = g.leaves ∙ ap (λ o. o.after) (sym (through h)) })

-- the second octet follows the first
pub eoc_read : (reliable : Bool) {s u : ReaderState} (t : ReaderState) (r : Result (Unit {0}) Error) → Gives read_zero_octet_outcome s (Ok tt) u → Meets reliable read_zero_octet_outcome u r t
    → Meets reliable read_eoc_outcome s r t
eoc_read reliable t (Ok v) h g = then_gives h g
eoc_read reliable t (Err e) h g = λ owed. then_gives h (g owed)

-- or the first is an error
pub eoc_refused : {s t : ReaderState} {e : Error} → Gives read_zero_octet_outcome s (Err e) t → Gives read_eoc_outcome s (Err e) t
eoc_refused {s} {t} {e} h =
    let over : both s ≡ outcome_following {A = Unit {0}} (Err e) t (λ _ t. read_zero_octet_outcome t) =
    ap (λ x. outcome_following x (read_zero_octet_outcome s).after (λ _ t. read_zero_octet_outcome t)) (sym h.answered) ∙ ap (λ x. outcome_following {A = Unit {0}} (Err e) x (λ _ t. read_zero_octet_outcome t)) (sym h.leaves) in
    from_both (record { answered = ap (λ o. o.answer) (sym over); leaves = ap (λ o. o.after) (sym over) })
