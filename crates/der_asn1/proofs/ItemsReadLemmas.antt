-- Items of lists are read from exactly their encodings.
use Rattle.std.proofs.Common.{◌≡◌, ℕ, Bool, List, ◌++◌, length, sym, ap, ◌∙◌}
use Rattle.der.specs.Prelude.{EncodingRules}
use Rattle.der.specs.Lawful.{EncodingNext, ReadsEncodings}
use Rattle.der_asn1.specs.Item.{DecodesItems, IsItem, ItemSpec}

-- octets that begin with one encoding of a value begin with an equal one
same_encoding : {A : Type 0} {valid : A → Type 0} {one other : A → List ℕ} {v : A} {octets : List ℕ} {m : ℕ} → one v ≡ other v → EncodingNext valid one v octets m → EncodingNext valid other v octets m
same_encoding same e =
    record {
      is_valid = e.is_valid;
      following = e.following;
      split = e.split ∙ ap (λ x. x ++ e.following) same;
      whole = e.whole ∙ ap length same;
    }

-- a decoder of items reads the encodings that are written
pub items_are_encodings : {A : Type 0} {item : ItemSpec A} {Next : A → EncodingRules → List ℕ → ℕ → Type 0} {levels : EncodingRules → ℕ} {allocates : Bool} {encoding : A → List ℕ}
    → IsItem item → DecodesItems Next levels allocates item → ((v : A) → encoding v ≡ item.octets v) → ReadsEncodings Next item.valid encoding
items_are_encodings {A} {item} {Next} {encoding = encoding} is decodes written =
    record {
      only = λ octets v m h. same_encoding (sym (written v)) (is.reads.only octets v m (decodes.only v octets m h));
      every = λ octets v m short e. decodes.every v octets m (is.reads.every octets v m short (same_encoding (written v) e));
    }
