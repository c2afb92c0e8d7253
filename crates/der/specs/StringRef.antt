-- Borrowed texts: `reference_text` are the octets of a `StringRef`.
use Rattle.std.specs.Prelude.{ℕ, List}
use Rattle.der.specs.declared.string.reference.StringRef.{StringRef}

abbrev pub reference_text : StringRef → List ℕ
reference_text t = t.text.now
