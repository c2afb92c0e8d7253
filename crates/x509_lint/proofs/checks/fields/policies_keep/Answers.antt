use Rattle.x509_lint.proofs.checks.fields.policies_keep.Goals as goal

pub returns-in-Qualifiers : goal.returns-in-Qualifiers
returns-in-Qualifiers c = rw c.in-Qualifiers.is c.has_known_qualifiers.ensures

pub returns-in-TextTypes : goal.returns-in-TextTypes
returns-in-TextTypes c = rw c.in-TextTypes.is c.has_texts_of_type.ensures

pub returns-in-TextLengths : goal.returns-in-TextLengths
returns-in-TextLengths c = rw c.in-TextLengths.is c.notices_keep.ensures

pub returns-in-Pointers : goal.returns-in-Pointers
returns-in-Pointers c = rw c.in-Pointers.is c.has_pointers.ensures
