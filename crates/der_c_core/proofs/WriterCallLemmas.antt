-- Writing with the tag of a word.
use Rattle.std.proofs.Common.{◌≡◌, ℕ, Bool, ◌^◌, ◌<◌, ◌≤◌, Result, Ok, Err, List, refl, sym, ap, ◌∙◌, subst, ⊎_elim}
use Rattle.std.proofs.lemmas.Bool.{cases_lt, lt-ltb, le-ltb}
use Rattle.der_base.specs.Length.{number, definite_length}
use Rattle.der_base.specs.Error.{error_of_kind}
use Rattle.der_base.specs.Arithmetic.{checked_length}
use Rattle.der_base.specs.HeaderGrammar.{Head, head}
use Rattle.der_base.specs.declared.length.Length.{Length}
use Rattle.der_base.specs.declared.tag.Tag.{Tag}
use Rattle.der_base.specs.declared.error.Error.{Error}
use Rattle.der_base.specs.declared.error.ErrorKind.TheVariants.{Overflow}
use Rattle.der_core.specs.Writer.{WriterState, Writes, write_outcome}
use Rattle.der_core.specs.Encode.{ElementWritten, header_outcome}

-- a number that was checked to be below 2^32 is a length
below : (n : ℕ) → n < 2 ^ 32 → checked_length n ≡ Ok (definite_length n)
below n a = rw (lt-ltb n (2 ^ 32) a) refl

above : (n : ℕ) → 2 ^ 32 ≤ n → checked_length n ≡ Err (error_of_kind Overflow)
above n a = rw (le-ltb n (2 ^ 32) a) refl

pub checked_ok : {n : ℕ} {l : Length} → checked_length n ≡ Ok l → (n < 2 ^ 32) × (number l ≡ n)
checked_ok {n} {l} e =
    ⊎_elim
    (λ a. (a, (let v : Ok (definite_length n) ≡ Ok l = sym (below n a) ∙ e in (let w : definite_length n ≡ l = cc in sym (ap number w)))))
    (λ a. absurd (let v : Err (error_of_kind Overflow) ≡ Ok l = sym (above n a) ∙ e in cc))
    (cases_lt n (2 ^ 32))

pub checked_err : {n : ℕ} {e : Error} → checked_length n ≡ Err e → (2 ^ 32 ≤ n) × (e ≡ error_of_kind Overflow)
checked_err {n} {e} is =
    ⊎_elim
    (λ a. absurd (let v : Ok (definite_length n) ≡ Err e = sym (below n a) ∙ is in cc))
    (λ a. (a, (let v : Err (error_of_kind Overflow) ≡ Err e = sym (above n a) ∙ is in cc)))
    (cases_lt n (2 ^ 32))

-- an element whose header was written
pub element_written : (tag : Tag) (n : ℕ) (contents : List ℕ) (s : WriterState) {u t : WriterState} {answer : Result (Unit {0}) Error}
    → Writes (header_outcome tag n s) (Ok tt) u → Writes (write_outcome contents u) answer t
    → ElementWritten tag (Ok (definite_length n)) (λ v. Writes (write_outcome contents v)) s answer t
element_written tag n contents s {t = t} {answer = answer} header written = rw (sym header.answered) (subst (λ v. Writes (write_outcome contents v) answer t) header.leaves written)

-- an element whose header was not written
pub element_refused : (tag : Tag) (n : ℕ) (contents : List ℕ) (s : WriterState) {u : WriterState} {e : Error}
    → Writes (header_outcome tag n s) (Err e) u
    → ElementWritten tag (Ok (definite_length n)) (λ v. Writes (write_outcome contents v)) s (Err e) u
element_refused tag n contents s header = rw (sym header.answered) (refl, header.leaves)

-- a header that was made has the tag and length that were requested
pub same_header_written : {tag : Tag} {l : Length} {n : ℕ} {made : Head} {b : Bool} (s : WriterState) {t : WriterState} {answer : Result (Unit {0}) Error}
    → made ≡ head tag l b → number l ≡ n → Writes (header_outcome made.tag (number made.length) s) answer t
    → Writes (header_outcome tag n s) answer t
same_header_written {tag} {n = n} s {t = t} {answer = answer} same count h =
    subst (λ m. Writes (header_outcome tag m s) answer t) count (subst (λ (x : Head). Writes (header_outcome x.tag (number x.length) s) answer t) same h)
