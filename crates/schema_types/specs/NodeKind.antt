-- Kinds of nodes, by their numbers, and what nodes of a kind have.
use Rattle.std.specs.Prelude.{ℕ, ◌+◌, nat_eq, Bool, true, false, Option, Some, None, option_map, if◌then◌else◌}
use Rattle.ber.specs.Universal.{universal_at}
use Rattle.ber.specs.declared.universal.Universal.TheVariants.{Integer, BitString, OctetString, Enumerated, Sequence, Set}
use Rattle.schema_types.specs.declared.counts.Counts.{Counts}
use Rattle.schema_types.specs.declared.node_kind.NodeKind.{NodeKind}
use Rattle.schema_types.specs.declared.node_kind.NodeKind.TheVariants.{Universal as Universally, SequenceOf, SetOf, Choice, Explicit, Any, Open}

-- the kind with a number: below 64 that of a universal tag
abbrev pub kind_at : ℕ → Option NodeKind
kind_at n =
    if nat_eq n 64 then Some SequenceOf
    else if nat_eq n 65 then Some SetOf
    else if nat_eq n 66 then Some Choice
    else if nat_eq n 67 then Some Explicit
    else if nat_eq n 68 then Some Any
    else if nat_eq n 69 then Some Open
    else option_map Universally (universal_at n)

-- how many rows there are of which the parts of a node may be: the names of an INTEGER, a BIT STRING
-- or an ENUMERATED, the fields of a SEQUENCE, a SET or a CHOICE, the types of an open type
abbrev pub parts_room : Counts → NodeKind → ℕ
parts_room c (Universally Integer) = c.names
parts_room c (Universally BitString) = c.names
parts_room c (Universally Enumerated) = c.names
parts_room c (Universally Sequence) = c.fields
parts_room c (Universally Set) = c.fields
parts_room c (Universally _) = 0
parts_room c Choice = c.fields
parts_room c Open = c.opens
parts_room c _ = 0

-- how many numbers there are of which the chooser may be, in a node with an extension marker or
-- without, and with so many parts: the fields, for an open type; 0 and the numbers of its fields up to
-- that of all, for a SEQUENCE or a SET with a marker; otherwise only 0
abbrev pub chooser_room : Counts → NodeKind → Bool → ℕ → ℕ
chooser_room c Open extensible parts = c.fields
chooser_room c (Universally Sequence) true parts = parts + 1
chooser_room c (Universally Set) true parts = parts + 1
chooser_room c _ extensible parts = 1

-- how many fields of a node come before its extension insertion point (X.680 25.1), if it has one
abbrev pub insertion_in : NodeKind → Bool → ℕ → Option ℕ
insertion_in (Universally Sequence) true chooser = Some chooser
insertion_in (Universally Set) true chooser = Some chooser
insertion_in _ extensible chooser = None

-- a SEQUENCE OF, a SET OF and an EXPLICIT tag have another node inside them
abbrev pub needs_inner : NodeKind → Bool
needs_inner SequenceOf = true
needs_inner SetOf = true
needs_inner Explicit = true
needs_inner _ = false

-- these, and a string with a constraint CONTAINING
abbrev pub allows_inner : NodeKind → Bool
allows_inner (Universally OctetString) = true
allows_inner (Universally BitString) = true
allows_inner (Universally _) = false
allows_inner k = needs_inner k

-- a CHOICE has an alternative (X.680 29.1)
abbrev pub is_choice : NodeKind → Bool
is_choice Choice = true
is_choice _ = false
