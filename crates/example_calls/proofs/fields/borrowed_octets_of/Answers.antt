use Rattle.der.proofs.LawfulLemmas.{elements_are_encodings, whole_encodings}
use Rattle.der.specs.BorrowedOctets.{borrowed_lawful}
use Rattle.example_calls.proofs.fields.borrowed_octets_of.Goals as goal

pub returns : goal.returns
returns c =
    let whole = whole_encodings (elements_are_encodings borrowed_lawful) in
    (whole.only c.args.octets.now c.in_ok-field.field c.in_ok-field.ensures.ok).1
