use Rattle.std.proofs.Common.{◌++◌, ◌∙◌, ap, sym}
use Rattle.std.proofs.lemmas.Str.{chars_past_char, chars-nil}
use Rattle.std.proofs.lemmas.List.{nil_from_length}
use Rattle.std.specs.Prelude.{encode_utf8}
use Rattle.schema_rules.proofs.codes.split_text.Goals as goal

pub returns-in-Some-clause-some : goal.returns-in-Some-clause-some
returns-in-Some-clause-some c =
    chars_past_char c.args.text.now c.as_str.result.now c.in-Some.character c.utf8.text
    (sym c.chars-characters.ensures.rest ∙ c.in-Some.ensures.steps.0 ∙ ap (λ r. encode_utf8 c.in-Some.character ++ r) (sym c.as_str.ensures))

pub returns-in-None-clause-none : goal.returns-in-None-clause-none
returns-in-None-clause-none c =
    rw (← c.chars-characters.ensures.rest, nil_from_length (c.chars-characters.result.rest.now) c.in-None.ensures.steps.0.0) chars-nil
