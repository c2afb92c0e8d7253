-- Texts that are borrowed (`IsBorrowedText`) or owned: `cow_text` are the octets of a `StringCow`.
use Rattle.std.specs.Prelude.{ℕ, List}
use Rattle.der.specs.StringRef.{reference_text}
use Rattle.der.specs.StringOwned.{owned_text}
use Rattle.der.specs.declared.string.cow.StringCow.{StringCow}
use Rattle.der.specs.declared.string.cow.StringCow.TheVariants.{Borrowed, Owned}

abbrev pub cow_text : StringCow → List ℕ
cow_text (Borrowed t) = reference_text t
cow_text (Owned t) = owned_text t

abbrev pub IsBorrowedText : StringCow → Type 0
IsBorrowedText (Borrowed t) = Unit {0}
IsBorrowedText (Owned t) = ⊥
