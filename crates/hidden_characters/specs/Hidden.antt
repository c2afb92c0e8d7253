-- Characters that a reader of a text does not see as they are (Unicode 18.0, 4.5 and DerivedCoreProperties.txt).
use Rattle.std.specs.Prelude.{ℕ, ◌==◌, Bool, true, false, ◌||◌}
use Rattle.unicode.specs.GeneralCategory.{general_category}
use Rattle.unicode.specs.Binary.{is_default_ignorable_code_point}
use Rattle.ucd_category.specs.declared.GeneralCategory.{GeneralCategory}
use Rattle.ucd_category.specs.declared.GeneralCategory.TheVariants.{Control, Format, LineSeparator, ParagraphSeparator}

-- the categories Cc, Cf, Zl and Zp
abbrev pub is_formatting : GeneralCategory → Bool
is_formatting Control = true
is_formatting Format = true
is_formatting LineSeparator = true
is_formatting ParagraphSeparator = true
is_formatting _ = false

-- U+2800, the Braille pattern without dots
abbrev pub blank_pattern : ℕ
blank_pattern = 10240

-- whether a character is a control, is invisible, or turns the text around it
abbrev pub is_hidden : ℕ → Bool
is_hidden c = is_formatting (general_category c) || is_default_ignorable_code_point c || (c == blank_pattern)
