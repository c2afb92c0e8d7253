-- An element that was read under DER.
use Rattle.std.specs.Prelude.{ℕ, List}
use Rattle.der.specs.BytesRef.{reference_octets}
use Rattle.der_tool_lib.specs.declared.element.Element.{Element}

abbrev pub contents_of : Element → List ℕ
contents_of e = reference_octets e.octets
