-- The tables of a reader's calls, each named after its call: `read_slice_outcome` and so on.
-- `VecMeets` has the cases of `read_vec_in`, and `VecRefused` those of its errors.
use Rattle.std.specs.Prelude.{◌≡◌, ℕ, zero, suc, ◌+◌, ◌-◌, ◌*◌, ◌/◌, ◌^◌, ◌⊎◌, Bool, true, List, [], ◌∷◌, take, min, Result, Ok, Err, IsOk, if◌then◌else◌, nat_lt, nat_le, ◌==◌, ◌&&◌, not}
use Rattle.der_base.specs.Length.{number, is_indefinite, definite_length}
use Rattle.der_base.specs.Error.{error_at, error_of_kind, missing_refusal, end_refusal}
use Rattle.der_base.specs.declared.length.Length.{Length}
use Rattle.der_base.specs.declared.error.Error.{Error}
use Rattle.der_base.specs.declared.error.ErrorKind.{ErrorKind}
use Rattle.der_base.specs.declared.error.ErrorKind.TheVariants.{Failed, Overflow, OutOfMemory, NestingDepth, TrailingData, IndefiniteLength}
use Rattle.der_core.specs.ReaderState.{ReaderState, rest_of, reader_position, advanced_state, nested_state, stopped_state}
use Rattle.der_core.specs.Outcome.{Outcome, Gives, outcome_of, refused_outcome, map_ok, chained_outcome}

-- n octets are not available
abbrev pub short_outcome : (A : Type 0) → ReaderState → ℕ → Outcome A
short_outcome A s n = refused_outcome A s (missing_refusal (s.position + n) s.end s.position)

-- a failed reader reads nothing
abbrev pub outcome_unless_failed : {A : Type 0} → ReaderState → Outcome A → Outcome A
outcome_unless_failed s working =
    if s.failed then outcome_of (Err (error_at Failed (reader_position s))) s else working

abbrev pub read_slice_outcome : ℕ → ReaderState → Outcome (List ℕ)
read_slice_outcome n s =
    outcome_unless_failed s
    (if nat_le (s.position + n) s.end then outcome_of (Ok (take n (rest_of s))) (advanced_state s n)
    else short_outcome (List ℕ) s n)

-- a buffer that is longer than any length is an error before anything else is checked
abbrev pub read_into_outcome : ℕ → ReaderState → Outcome (List ℕ)
read_into_outcome n s =
    if nat_lt n (2 ^ 32) then read_slice_outcome n s
    else outcome_of (Err (error_of_kind Overflow)) s

abbrev pub next_octet_outcome : ReaderState → List ℕ → Outcome ℕ
next_octet_outcome s [] = short_outcome ℕ s 1
next_octet_outcome s (o ∷ more) = outcome_of (Ok o) (advanced_state s 1)

abbrev pub read_byte_outcome : ReaderState → Outcome ℕ
read_byte_outcome s = outcome_unless_failed s (next_octet_outcome s (rest_of s))

abbrev pub remaining_answer : ReaderState → Result (List ℕ) Error
remaining_answer s = if s.failed then Err (error_at Failed (reader_position s)) else Ok (rest_of s)

-- the number of octets in the whole steps of sixteen that fit into the remaining octets
abbrev pub whole_steps : ReaderState → ℕ
whole_steps s = 16 * ((s.end - s.position) / 16)

-- an outcome without its value
abbrev pub emptied_outcome : {A : Type 0} → Outcome A → Outcome (Unit {0})
emptied_outcome o = outcome_of (map_ok (λ _. tt) o.answer) o.after

-- a definite zero skips nothing, even on a failed reader; if too few octets are left, whole steps
-- of sixteen are skipped, and then the next step cannot be read
abbrev pub drain_outcome : Length → ReaderState → Outcome (Unit {0})
drain_outcome n s =
    if (number n == 0) && not (is_indefinite n) then outcome_of (Ok tt) s
    else outcome_unless_failed s
    (if nat_le (s.position + number n) s.end then outcome_of (Ok tt) (advanced_state s (number n))
    else emptied_outcome (read_slice_outcome (min 16 (number n - whole_steps s))
    (advanced_state s (whole_steps s))))

abbrev pub finish_answer : ReaderState → Result (Unit {0}) Error
finish_answer s =
    if s.failed then Err (error_at Failed (reader_position s))
    else if nat_lt s.position s.end then
    Err (error_at (TrailingData (reader_position s) (definite_length (s.end - s.position)))
    (reader_position s))
    else Ok tt

-- a nested part of n octets must not exceed the end, nor be nested in 64 others
abbrev pub enter_nested_outcome : ℕ → ReaderState → Outcome (ℕ × ℕ)
enter_nested_outcome n s =
    if not (nat_lt (s.position + n) (2 ^ 32)) then outcome_of (Err (error_of_kind Overflow)) s
    else if nat_lt s.end (s.position + n) then outcome_of (Err (end_refusal s.end).error) s
    else if nat_lt s.depth 64 then outcome_of (Ok (s.end, s.depth)) (nested_state s n)
    else outcome_of (Err (error_at NestingDepth (reader_position s))) (stopped_state s s.position)

-- errors of reading octets into a vector: those of `read_slice`, or an allocation failure if the
-- octets are available, with the reader unchanged
abbrev pub VecRefused : ℕ → ReaderState → Error → ReaderState → Type 0
VecRefused n s e t =
    Gives (read_slice_outcome n) s (Err e) t
    ⊎ ((e ≡ error_of_kind OutOfMemory) × (t ≡ s) × IsOk (read_slice_outcome n s).answer)

-- octets read into a vector are those of `read_slice`; a reliable reader has only the errors above
abbrev pub VecMeets : Bool → ℕ → ReaderState → Result (List ℕ) Error → ReaderState → Type 0
VecMeets reliable n s (Ok octets) t = Gives (read_slice_outcome n) s (Ok octets) t
VecMeets reliable n s (Err e) t = reliable ≡ true → VecRefused n s e t

-- an error of this kind at the reader's position, with the reader failed
abbrev pub kind_outcome : (A : Type 0) → ErrorKind → ReaderState → Outcome A
kind_outcome A k s = outcome_of (Err (error_at k (reader_position s))) (stopped_state s s.position)

-- the end-of-contents octets of an indefinite length are two zero octets (X.690 8.1.5)
abbrev pub eoc_outcome : ReaderState → List ℕ → Outcome (Unit {0})
eoc_outcome s [] = short_outcome (Unit {0}) s 1
eoc_outcome s (zero ∷ []) = short_outcome (Unit {0}) (advanced_state s 1) 1
eoc_outcome s (zero ∷ zero ∷ more) = outcome_of (Ok tt) (advanced_state s 2)
eoc_outcome s (zero ∷ suc o ∷ more) = kind_outcome (Unit {0}) IndefiniteLength
    (advanced_state s 2)
eoc_outcome s (suc o ∷ more) = kind_outcome (Unit {0}) IndefiniteLength (advanced_state s 1)

abbrev pub read_eoc_outcome : ReaderState → Outcome (Unit {0})
read_eoc_outcome s = outcome_unless_failed s (eoc_outcome s (rest_of s))

-- the outcome after one end-of-contents octet is read, which must be zero
abbrev pub zero_octet_outcome : ℕ → ReaderState → Outcome (Unit {0})
zero_octet_outcome o s =
    if o == 0 then outcome_of (Ok tt) s
    else kind_outcome (Unit {0}) IndefiniteLength s

abbrev pub read_zero_octet_outcome : ReaderState → Outcome (Unit {0})
read_zero_octet_outcome s = chained_outcome (read_byte_outcome s) zero_octet_outcome

-- the octets of a header and its contents, if a length can represent their number
abbrev pub tlv_outcome : ℕ → ReaderState → Outcome (List ℕ)
tlv_outcome n s =
    if nat_lt n (2 ^ 32) then read_slice_outcome n s
    else outcome_of (Err (error_of_kind Overflow)) s
