-- The text of the error of a lookup (`find_error_text`).
use Rattle.std.specs.Prelude.{ℕ, List, ◌++◌, Option, Some, None, codes}
use Rattle.std.specs.Option.{option_map}
use Rattle.der.specs.Text.{error_text}
use Rattle.x509.specs.declared.find.error.FindError.{FindError}
use Rattle.x509.specs.declared.find.error.FindError.TheVariants.{Contents, Repeated}

abbrev pub find_error_text : FindError → Option (List ℕ)
find_error_text Repeated = Some (codes "the type occurs more than once")
find_error_text (Contents e) = option_map (λ t. codes "invalid contents: " ++ t) (error_text e)
