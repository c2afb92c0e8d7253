-- Texts that end with a zero octet.
use Rattle.std.proofs.Common.{◌≡◌, ◌≢◌, ℕ, suc, ◌+◌, ◌-◌, ◌<◌, ◌≤◌, Option, Some, None, List, ◌∷◌, ◌++◌, length, take, drop, set, min, inl, inr, IfSome, refl, sym, ap, ◌∙◌, subst, arith, length-append, length-take-le, length-set, length-drop, ⊎_elim}
use Rattle.std.proofs.lemmas.List.{take_all, take-append-le, drop-append-le, take-append-drop, drop-drop, set_split}
use Rattle.std.proofs.lemmas.Bool.{cases_lt}
use Rattle.std.specs.Fmt.{option_append, WritesText}
use Rattle.der_base.specs.Error.{kind_of, position_of}
use Rattle.der_base.specs.Text.{kind_text, error_text, position_text}
use Rattle.der_base.specs.declared.length.Length.{Length}
use Rattle.der_base.specs.declared.error.Error.{Error}
use Rattle.der_base.specs.declared.error.ErrorKind.{ErrorKind}
use Rattle.der_base.specs.declared.error.ErrorKind.TheVariants as kind
use Rattle.der_c_core.specs.ErrorCode.{kind_code, placed_code, error_code}
use Rattle.der_c_core.specs.ErrorText.{AppendsText, IsCut, IsEnded, IsEmpty, IsSeenAs, HasText, of_error, of_unbalanced, of_none, unformatted}
use Rattle.der_c_core.specs.declared.error.DerError.{DerError}
use Rattle.der_c_core.specs.declared.text.cut.Text.{Text}
use Rattle.der_c_core.proofs.TextLemmas.{appended_calls}

-- each kind but that about octets that are not UTF-8 has a text
kind_has_text : (k : ErrorKind) → (kind_code k).kind ≢ 20 → (x : List ℕ) × (kind_text k ≡ Some x)
kind_has_text kind.DateTime n = (_, refl)
kind_has_text kind.EncodingRules n = (_, refl)
kind_has_text kind.Failed n = (_, refl)
kind_has_text (kind.Incomplete a b) n = (_, refl)
kind_has_text kind.IndefiniteLength n = (_, refl)
kind_has_text (kind.Length t) n = (_, refl)
kind_has_text kind.NestingDepth n = (_, refl)
kind_has_text (kind.Noncanonical t) n = (_, refl)
kind_has_text kind.OidMalformed n = (_, refl)
kind_has_text kind.SetDuplicate n = (_, refl)
kind_has_text kind.SetOrdering n = (_, refl)
kind_has_text kind.Overflow n = (_, refl)
kind_has_text kind.Overlength n = (_, refl)
kind_has_text kind.Reader n = (_, refl)
kind_has_text kind.TagModeUnknown n = (_, refl)
kind_has_text kind.TagNumberInvalid n = (_, refl)
kind_has_text (kind.TagUnexpected None t) n = (_, refl)
kind_has_text (kind.TagUnexpected (Some x) t) n = (_, refl)
kind_has_text (kind.TagUnknown o) n = (_, refl)
kind_has_text (kind.TrailingData a b) n = (_, refl)
kind_has_text (kind.Utf8 e) n = absurd (n refl)
kind_has_text (kind.Value t) n = (_, refl)
kind_has_text kind.OutOfMemory n = (_, refl)

placed_number : (p : Option Length) (c : DerError) → (placed_code p c).kind ≡ c.kind
placed_number None c = refl
placed_number (Some p) c = refl

seen_number : (e : Error) (code : DerError) → IsSeenAs e code → (error_code e).kind ≡ code.kind
seen_number e code (inl same) = ap (λ (c : DerError). c.kind) same
seen_number e code (inr same) = ap (λ (c : DerError). c.kind) same

error_has_text : (e : Error) (code : DerError) → IsSeenAs e code → code.kind ≢ 20 → (x : List ℕ) × (error_text e ≡ Some x)
error_has_text e code seen n =
    let t = kind_has_text (kind_of e) (λ q. n (sym (seen_number e code seen) ∙ placed_number (position_of e) (kind_code (kind_of e)) ∙ q)) in
    (_, ap (λ o. option_append o (Some (position_text (position_of e)))) t.1)

-- a text that was written in calls fits
pub written_fits : (t u : Text) (x : List ℕ) → t.count ≡ 0 → WritesText AppendsText t (Some x) u → u.count ≤ length t.octets.now
written_fits t u x none h = omega (arith, (appended_calls t u x h).count)

pub error_fits : (e : Error) (code : DerError) (t u : Text) → IsSeenAs e code → code.kind ≢ 20 → t.count ≡ 0 → WritesText AppendsText t (error_text e) u → u.count ≤ length t.octets.now
error_fits e code t u seen n none h =
    let x = error_has_text e code seen n in
    written_fits t u x.0 none (subst (λ o. WritesText AppendsText t o u) x.1 h)

-- a text in all but the last octet, and a zero octet after it
module _ (old space : List ℕ) (count : ℕ) (some : 0 < length old) (size : length space ≡ length (take (length old - 1) old)) (fits : count ≤ length (take (length old - 1) old)) where
  abbrev final : List ℕ
  final = set (space ++ drop (length old - 1) old) count 0

  room : length (take (length old - 1) old) ≡ length old - 1
  room = length-take-le (length old - 1) old (omega arith)

  last : length (space ++ drop (length old - 1) old) ≡ length old
  last = omega (arith, length-append space (drop (length old - 1) old), length-drop (length old - 1) old, size, room, some)

  split : final ≡ take count (space ++ drop (length old - 1) old) ++ 0 ∷ drop (suc count) (space ++ drop (length old - 1) old)
  split = set_split (space ++ drop (length old - 1) old) count 0 (omega (arith, last, fits, room, some))

  following_same : drop count space ≡ drop count (take (length old - 1) old) → drop (suc count) (space ++ drop (length old - 1) old) ≡ drop (count + 1) old
  following_same same =
      let one : suc count ≡ 1 + count = omega arith in
      let here : drop count (space ++ drop (length old - 1) old) ≡ drop count old =
      drop-append-le count space (drop (length old - 1) old) (omega (arith, size, fits)) ∙ ap (λ x. x ++ drop (length old - 1) old) same
      ∙ sym (drop-append-le count (take (length old - 1) old) (drop (length old - 1) old) fits) ∙ ap (drop count) (take-append-drop (length old - 1) old) in
      ap (λ k. drop k (space ++ drop (length old - 1) old)) one ∙ ap (λ k. drop k (space ++ drop (length old - 1) old)) (omega arith) ∙ sym (drop-drop 1 count (space ++ drop (length old - 1) old)) ∙ ap (drop 1) here ∙ drop-drop 1 count old

  cut_ended : (text : List ℕ) → IsCut text (take (length old - 1) old) count space → IsEnded text old count final
  cut_ended text cut =
      let counted : count ≡ min (length text) (length old - 1) = cut.counted ∙ ap (min (length text)) room in
      let begins : take count space ≡ take count text = cut.begins ∙ ap (λ k. take k text) room
      ∙ ⊎_elim
      (λ short. take_all (length old - 1) text (omega (arith, short)) ∙ sym (take_all count text (omega (arith, counted, short))))
      (λ long. ap (λ k. take k text) (omega (arith, counted, long)))
      (cases_lt (length text) (length old - 1)) in
      let front : take count (space ++ drop (length old - 1) old) ≡ take count text = take-append-le count space (drop (length old - 1) old) (omega (arith, size, fits)) ∙ begins in
      record {
        counted = counted;
        ended = split ∙ ap (λ x. x ++ 0 ∷ drop (suc count) (space ++ drop (length old - 1) old)) front ∙ ap (λ x. take count text ++ 0 ∷ x) (following_same cut.following);
      }

  none_ended : count ≡ 0 → IsEmpty old count final
  none_ended none =
      record {
        none = none;
        size = length-set (space ++ drop (length old - 1) old) count 0 ∙ last;
        ended = ap (take 1) (split ∙ ap (λ k. take k (space ++ drop (length old - 1) old) ++ 0 ∷ drop (suc count) (space ++ drop (length old - 1) old)) none);
      }

  pub text_ended : {code : DerError} → HasText code (λ t. IsCut t (take (length old - 1) old) count space) (count ≡ 0) → HasText code (λ t. IsEnded t old count final) (IsEmpty old count final)
  text_ended (of_error e n seen h) = of_error e n seen (cut_if (error_text e) h)
    where
      cut_if : (o : Option (List ℕ)) → IfSome o (λ t. IsCut t (take (length old - 1) old) count space) → IfSome o (λ t. IsEnded t old count final)
      cut_if None h = tt
      cut_if (Some t) h = cut_ended t h
  text_ended (of_unbalanced is h) = of_unbalanced is (cut_ended _ h)
  text_ended (of_none n names h) = of_none n names (cut_ended _ h)
  text_ended (unformatted why h) = unformatted why (none_ended h)
