-- Lemmas on values read from segments.
use Rattle.std.proofs.Common.{◌≡◌, ◌⊎◌, ℕ, ◌+◌, ◌-◌, true, false, ◌^◌, ◌<◌, ◌≤◌, Result, Ok, Err, IsOk, IfErr, List, length, take, refl, sym, ap, ◌∙◌, subst, inl, inr, arith}
use Rattle.std.proofs.lemmas.Bool.{lt-ltb, le-leb}
use Rattle.std.proofs.lemmas.List.{take_all}
use Rattle.der_base.specs.Error.{error_of_kind}
use Rattle.der_base.specs.HeaderGrammar.{Head}
use Rattle.der_base.specs.Length.{number}
use Rattle.der_base.specs.declared.error.ErrorKind.TheVariants.{OutOfMemory}
use Rattle.der_base.specs.declared.length.Length.{Length}
use Rattle.der_base.specs.declared.tag.Tag.{Tag}
use Rattle.der_base.specs.declared.error.Error.{Error}
use Rattle.der_core.specs.DecodeValue.{IsInside}
use Rattle.der_core.specs.Outcome.{map_ok}
use Rattle.der_core.specs.Reader.{read_slice_outcome}
use Rattle.der_core.specs.ReaderState.{ReaderState, rest_of, IsSound}
use Rattle.der_core.proofs.StateLemmas.{length-rest}
use Rattle.der.specs.Joined.{Joined}
use Rattle.der.specs.JoinedOctets.{joined_levels}
use Rattle.der.specs.Joining.{levels_at, levels_left, JoinsAll}
use Rattle.der.specs.Octets.{checked_octets}
use Rattle.der.specs.Parts.{HasSegments, TakesParts, as_contents, as_segments, levels_inside, ReadsParts, reads_octets, reads_segments, RefusesParts, no_octets, no_segments, not_in_segments}
use Rattle.der.proofs.JoinedLemmas.{joined_short, joined_up}
use Rattle.der.proofs.RefusedSegmentLemmas.{slice_there}

checked_octets_ok : (octets : List ℕ) → length octets < 2 ^ 32 → checked_octets octets ≡ Ok octets
checked_octets_ok octets few = rw (lt-ltb (length octets) (2 ^ 32) few) refl

-- a value can be made of the joined octets
pub joined_made : {A : Type 0} {tag : Tag} {l : Length} {s t : ReaderState} {out : List ℕ}
    (f : A → List ℕ) (r : Result A Error) → map_ok f r ≡ checked_octets out
    → JoinsAll l tag s out t → IsSound s → IsOk r
joined_made f (Ok v) made joins sound = refl
joined_made {s = s} {out = out} f (Err e) made joins sound =
    let few : length out < 2 ^ 32 = omega (arith, joined_short joins.joined, length-rest s sound, sound.in_input, sound.addressable) in
    absurd (let no : Err e ≡ Ok out = made ∙ checked_octets_ok out few in cc)

-- a result that is `Ok` is no error
pub not_refused : {A E : Type 0} (Refuses : E → Type 0) (r : Result A E) → IsOk r → IfErr r Refuses
not_refused Refuses (Ok v) ok = tt
not_refused Refuses (Err e) ok = absurd (let no : false ≡ true = ok in cc)

-- all octets of the contents are there
all_there : (s : ReaderState) (n : ℕ) → IsSound s → length (rest_of s) ≡ n → s.position + n ≤ s.end
all_there s n sound sized = omega (arith, length-rest s sound, sized, sound.ordered)

-- reading contents of a known length
module _ {tag : Tag} {h : Head} (s : ReaderState) (is_next : IsInside s (number h.length)) where
  -- contents that were read are accepted
  pub parts_taken : (out : List ℕ) (t : ReaderState) → IsSound s → ReadsParts tag h s out t → TakesParts tag out s.rules h (rest_of s)
  parts_taken out t sound (reads_octets bit g) =
      let table : (read_slice_outcome (number h.length) s).answer ≡ Ok (take (number h.length) (rest_of s)) =
      rw is_next.working (rw (le-leb (s.position + number h.length) s.end (all_there s (number h.length) sound is_next.sized)) refl) in
      let same : Ok out ≡ Ok (take (number h.length) (rest_of s)) = g.answered ∙ table in
      let whole : take (number h.length) (rest_of s) ≡ rest_of s = take_all (number h.length) (rest_of s) (omega (arith, is_next.sized)) in
      as_contents bit ((let is : out ≡ take (number h.length) (rest_of s) = cc in is) ∙ whole)
  parts_taken out t sound (reads_segments has joins) =
      let left : levels_left s ≡ 64 - s.depth = ap (λ r. levels_at r s.depth) has.ber in
      as_segments has (joined_up joins.joined levels_inside (omega (arith, left, is_next.nested)))

  -- for acceptable contents, the only possible error is an allocation failure
  pub parts_lacking : (out : List ℕ) (t : ReaderState) (e : Error) → IsSound s → s.depth + joined_levels s.rules ≤ 64 → TakesParts tag out s.rules h (rest_of s) → RefusesParts tag h s e t
      → ((x : List ℕ) → HasSegments h s.rules → Joined tag (levels_left s) (rest_of s) x → (false ≡ true) ⊎ (e ≡ error_of_kind OutOfMemory)) → e ≡ error_of_kind OutOfMemory
  parts_lacking out t e sound few (as_contents bit same) r complete = go r
    where
      go : RefusesParts tag h s e t → e ≡ error_of_kind OutOfMemory
      go (no_octets b (inl g)) = absurd (slice_there (number h.length) s t e is_next.working (all_there s (number h.length) sound is_next.sized) g)
      go (no_octets b (inr m)) = m.0
      go (no_segments has j) = absurd (let no : true ≡ false = sym has.bit ∙ bit in cc)
      go (not_in_segments b der reported leaves) = absurd (let no : true ≡ false = sym b ∙ bit in cc)
  parts_lacking out t e sound few (as_segments has joined) r complete = go (complete out has here)
    where
      levels : levels_inside ≡ levels_left s
      levels =
          let left : levels_left s ≡ 64 - s.depth = ap (λ r. levels_at r s.depth) has.ber in
          let wants : joined_levels s.rules ≡ 63 = ap joined_levels has.ber in
          omega (arith, left, wants, few, is_next.nested)

      here : Joined tag (levels_left s) (rest_of s) out
      here = subst (λ n. Joined tag n (rest_of s) out) levels joined

      go : (false ≡ true) ⊎ (e ≡ error_of_kind OutOfMemory) → e ≡ error_of_kind OutOfMemory
      go (inl ok) = absurd (cc)
      go (inr reported) = reported
