use Rattle.std.proofs.Common.{◌≡◌, ◌++◌, ◌≤◌, length, refl, ap, arith, length-append}
use Rattle.der.specs.Prelude.{header_octets, rest_of, slice_state, Set}
use Rattle.x509.specs.contracts.asn1.relative_distinguished_name.RelativeDistinguishedNameItem.TheImpl as level
use Rattle.x509.specs.declared.asn1.relative_distinguished_name.RelativeDistinguishedName.{RelativeDistinguishedName}
use Rattle.x509.proofs.NameWalkLemmas.{next_level, none_left, one_more}
use Rattle.x509.proofs.find.name_attributes.NameAttributesIterator.next.Goals as goal

-- the contents of a level are not longer than its encoding
level_size : (r : RelativeDistinguishedName) → length r.attributes.elements.octets.now ≤ length (level.ghosts.item.octets r)
level_size r =
    let octets = r.attributes.elements.octets.now in
    let e : level.ghosts.item.octets r ≡ header_octets Set (length octets) ++ octets = refl in
    omega (arith, ap length e, length-append (header_octets Set (length octets)) octets)

pub returns-in-Some-clause-steps : goal.returns-in-Some-clause-steps
returns-in-Some-clause-steps c = one_more c.in-Some.attribute (rest_of (slice_state c.next.new.self.items.reader)) c.levels.invariant c.in-Some.ensures.steps.0 c.in-Some.ensures.steps.1.split

pub levels-preserved : goal.levels-preserved
levels-preserved c = next_level c.in-Some-next.level (rest_of (slice_state c.iter.result.items.reader)) (rest_of (slice_state c.next-in-None.new.self.items.reader)) level_size c.levels.invariant c.in-None.ensures.steps.0 c.in-Some-next.ensures.steps.0 c.in-Some-next.ensures.steps.1.split c.iter.ensures

pub returns-in-None-next-clause-steps : goal.returns-in-None-next-clause-steps
returns-in-None-next-clause-steps c = none_left c.levels.invariant c.in-None.ensures.steps.0 c.in-None-next.ensures.steps.0
