use Rattle.std.proofs.Common.{subst, sym}
use Rattle.der.proofs.LawfulLemmas.{passed_encodings, whole_encodings}
use Rattle.der_asn1.specs.Item.{IsElement}
use Rattle.der_asn1.proofs.ItemsReadLemmas.{items_are_encodings}
use Rattle.der_asn1.proofs.laws.items_read_encodings.Goals as goal

pub returns-clause-front : goal.returns-clause-front
returns-clause-front g c = items_are_encodings g.met.T.DecodeItem.is_item g.met.T.DecodeItem.decodes_items g.met.T.WrittenItem.written

pub returns-clause-whole : goal.returns-clause-whole
returns-clause-whole g c = whole_encodings (items_are_encodings g.met.T.DecodeItem.is_item g.met.T.DecodeItem.decodes_items g.met.T.WrittenItem.written)

pub returns-clause-passed : goal.returns-clause-passed
returns-clause-passed g c = passed_encodings (items_are_encodings g.met.T.DecodeItem.is_item g.met.T.DecodeItem.decodes_items g.met.T.WrittenItem.written)

pub returns-clause-element : goal.returns-clause-element
returns-clause-element g c = λ v is. subst IsElement (sym (g.met.T.WrittenItem.written v)) (g.met.T.DecodeItem.is_item.element v is)

pub returns-clause-written : goal.returns-clause-written
returns-clause-written g c = g.met.T.WrittenItem.writes_valid
