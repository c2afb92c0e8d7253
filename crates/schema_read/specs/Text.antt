-- The text of a constructed string, in memory of the caller (`text_of`).
use Rattle.std.specs.Prelude.{ℕ, List, take}
use Rattle.schema_read.specs.declared.text.Text.{Text}

abbrev pub text_of : Text → List ℕ
text_of t = take t.count t.octets.now
