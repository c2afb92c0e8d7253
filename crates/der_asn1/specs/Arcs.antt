-- The arcs of an OBJECT IDENTIFIER (X.690 8.19): `oid_octets` encodes arcs as contents, `oid_arcs`
-- decodes the arcs of contents, and `arc_items` are the items of the iterator.
use Rattle.std.specs.Prelude.{◌≡◌, ℕ, ◌+◌, ◌-◌, ◌*◌, ◌^◌, nat_lt, List, [], ◌∷◌}
use Rattle.std.specs.Prelude.{Option, Some, None, if◌then◌else◌, drop, map}
use Rattle.std.specs.List.{flat_map}
use Rattle.der.specs.Length.{digits}
use Rattle.der.specs.Tag.{continuation_octets}
use Rattle.der_asn1.specs.declared.identifiers.arcs.Arcs.{Arcs}
use Rattle.der_asn1.specs.declared.identifiers.arcs.Stage.{Stage}
use Rattle.der_asn1.specs.declared.identifiers.arcs.Stage.TheVariants as stage

-- a subidentifier: a number in base 128, bit 8 set on all octets but the last (8.19.2)
abbrev pub subidentifier_octets : ℕ → List ℕ
subidentifier_octets n = continuation_octets (digits 128 n)

-- the first subidentifier encodes the first two arcs (8.19.4), each other one encodes one (8.19.3)
abbrev pub oid_octets : List ℕ → List ℕ
oid_octets [] = []
oid_octets (a ∷ []) = []
oid_octets (a ∷ b ∷ arcs) = flat_map subidentifier_octets ((40 * a + b) ∷ arcs)

-- the first arc, from the first subidentifier: 0, 1 or 2; after 0 and 1 the second arc is below 40
-- (8.19.4)
abbrev pub first_arc : ℕ → ℕ
first_arc n = if nat_lt n 40 then 0 else if nat_lt n 80 then 1 else 2

-- the subidentifiers of octets, if the digits before them have the value n
abbrev pub subidentifiers : ℕ → List ℕ → List ℕ
subidentifiers n [] = []
subidentifiers n (o ∷ os) =
    if nat_lt o 128 then (n * 128 + o) ∷ subidentifiers 0 os
    else subidentifiers (n * 128 + (o - 128)) os

-- the arcs of the values of subidentifiers
abbrev pub arcs_of : List ℕ → List ℕ
arcs_of [] = []
arcs_of (n ∷ ns) = first_arc n ∷ (n - 40 * first_arc n) ∷ ns

-- the arcs of the contents of an OBJECT IDENTIFIER
abbrev pub oid_arcs : List ℕ → List ℕ
oid_arcs octets = arcs_of (subidentifiers 0 octets)

-- the arcs that remain at each stage
abbrev pub arcs_at : Stage → List ℕ → List ℕ
arcs_at stage.First octets = oid_arcs octets
arcs_at stage.Second octets = drop 1 (oid_arcs octets)
arcs_at stage.Other octets = subidentifiers 0 octets

abbrev pub arcs_left : Arcs → List ℕ
arcs_left a = arcs_at a.stage a.octets.now

-- the value of a subidentifier, if it fits in 128 bits
abbrev pub subidentifier_value : ℕ → Option ℕ
subidentifier_value n = if nat_lt n (2 ^ 128) then Some n else None

-- the second arc, if the first subidentifier, which encodes it, fits in 128 bits
abbrev pub second_item : ℕ → Option ℕ
second_item n = if nat_lt n (2 ^ 128) then Some (n - 40 * first_arc n) else None

-- the arcs of the values of subidentifiers, as far as those fit in 128 bits
abbrev pub items_of : List ℕ → List (Option ℕ)
items_of [] = []
items_of (n ∷ ns) = Some (first_arc n) ∷ second_item n ∷ map subidentifier_value ns

abbrev pub items_at : Stage → List ℕ → List (Option ℕ)
items_at stage.First octets = items_of (subidentifiers 0 octets)
items_at stage.Second octets = drop 1 (items_of (subidentifiers 0 octets))
items_at stage.Other octets = map subidentifier_value (subidentifiers 0 octets)

-- the arcs that remain, as far as they fit in 128 bits
abbrev pub arc_items : Arcs → List (Option ℕ)
arc_items a = items_at a.stage a.octets.now

-- the first subidentifier, if it fits in 128 bits, and the other ones
abbrev pub IsFirstNumber : List ℕ → Option ℕ → List ℕ → Type 0
IsFirstNumber [] a others = ⊥
IsFirstNumber (n ∷ ns) a others = (a ≡ subidentifier_value n) × (others ≡ ns)
