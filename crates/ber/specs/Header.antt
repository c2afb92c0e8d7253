-- Headers (X.690 8.1): the octets of one (`IsHeader`), and octets that begin with one (`IsNext`).
use Rattle.std.specs.Prelude.{◌≡◌, ℕ, ◌^◌, ◌<◌, ◌↔◌, true, false, IsTrue, List, ◌++◌, length}
use Rattle.der_base.specs.Class.{class_number}
use Rattle.der_base.specs.declared.tag.class.Class.TheVariants.{Universal}
use Rattle.der_base.specs.Tag.{Label, label_of}
use Rattle.ber.specs.Identifier.{identifier_octets}
use Rattle.ber.specs.Length.{IsLength, IsMinimal}
use Rattle.ber.specs.declared.header.Header.{Header}
use Rattle.ber.specs.declared.length.Length.TheVariants.{Definite, Indefinite}

-- the class, the form and the number of a header
abbrev pub label_of_header : Header → Label
label_of_header h = label_of (class_number h.class) h.constructed h.number

-- the octets of a header: an identifier and a length, which is indefinite only if the identifier is
-- constructed (8.1.3.2 a)
pub record IsHeader (h : Header) (octets : List ℕ) : Type 0 where
  pub number : h.number < 2 ^ 32
  pub size : List ℕ
  pub sized : IsLength h.length size
  pub spelled : octets ≡ identifier_octets (label_of_header h) ++ size
  pub form : h.length ≡ Indefinite → h.constructed ≡ true
  pub minimal : IsTrue h.minimal ↔ IsMinimal h.length size
  pub whole : h.header_len ≡ length octets

-- octets begin with this header
pub record IsNext (h : Header) (octets : List ℕ) : Type 0 where
  pub front : List ℕ
  pub rest : List ℕ
  pub is : IsHeader h front
  pub split : octets ≡ front ++ rest

-- the header of the end-of-contents octets (X.690 8.1.5)
abbrev pub end_header : Header
end_header =
    record {
      class = Universal;
      constructed = false;
      number = 0;
      length = Definite 0;
      minimal = true;
      header_len = 2;
    }
