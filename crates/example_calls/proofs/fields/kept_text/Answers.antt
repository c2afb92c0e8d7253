use Rattle.der.proofs.LawfulLemmas.{elements_are_encodings, whole_encodings}
use Rattle.der.specs.OwnedText.{owned_text_lawful}
use Rattle.example_calls.proofs.fields.kept_text.Goals as goal

pub returns : goal.returns
returns c =
    let whole = whole_encodings (elements_are_encodings owned_text_lawful) in
    (whole.only c.args.octets.now c.in_ok-field.field c.in_ok-field.ensures.ok).1
