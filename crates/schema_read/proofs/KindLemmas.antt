-- Kinds and universal types that have a shape, or constraints.
use Rattle.std.proofs.Common.{◌≡◌, ap, refl}
use Rattle.ber.specs.declared.universal.Universal.{Universal}
use Rattle.ber.specs.declared.universal.Universal.TheVariants as type
use Rattle.schema_types.specs.declared.node_kind.NodeKind.{NodeKind}
use Rattle.schema_types.specs.declared.node_kind.NodeKind.TheVariants as kind
use Rattle.schema_read.specs.Constraints.{bound_of}
use Rattle.schema_read.specs.Value.{shape_of}
use Rattle.schema_read.specs.declared.bound.Bound.TheVariants.{Items}
use Rattle.schema_read.specs.declared.shape.Shape.TheVariants.{Of}

-- the kind of a universal type
pub of_universal : (k : NodeKind) (u : Universal) → shape_of k ≡ Of u → k ≡ kind.Universal u
of_universal (kind.Universal type.Boolean) u e = let f : type.Boolean ≡ u = cc in ap kind.Universal f
of_universal (kind.Universal type.Integer) u e = let f : type.Integer ≡ u = cc in ap kind.Universal f
of_universal (kind.Universal type.BitString) u e = let f : type.BitString ≡ u = cc in ap kind.Universal f
of_universal (kind.Universal type.OctetString) u e = let f : type.OctetString ≡ u = cc in ap kind.Universal f
of_universal (kind.Universal type.Null) u e = let f : type.Null ≡ u = cc in ap kind.Universal f
of_universal (kind.Universal type.ObjectIdentifier) u e = let f : type.ObjectIdentifier ≡ u = cc in ap kind.Universal f
of_universal (kind.Universal type.ObjectDescriptor) u e = let f : type.ObjectDescriptor ≡ u = cc in ap kind.Universal f
of_universal (kind.Universal type.External) u e = let f : type.External ≡ u = cc in ap kind.Universal f
of_universal (kind.Universal type.Real) u e = let f : type.Real ≡ u = cc in ap kind.Universal f
of_universal (kind.Universal type.Enumerated) u e = let f : type.Enumerated ≡ u = cc in ap kind.Universal f
of_universal (kind.Universal type.EmbeddedPdv) u e = let f : type.EmbeddedPdv ≡ u = cc in ap kind.Universal f
of_universal (kind.Universal type.Utf8String) u e = let f : type.Utf8String ≡ u = cc in ap kind.Universal f
of_universal (kind.Universal type.RelativeOid) u e = let f : type.RelativeOid ≡ u = cc in ap kind.Universal f
of_universal (kind.Universal type.Time) u e = let f : type.Time ≡ u = cc in ap kind.Universal f
of_universal (kind.Universal type.Sequence) u e = absurd (cc)
of_universal (kind.Universal type.Set) u e = absurd (cc)
of_universal (kind.Universal type.NumericString) u e = let f : type.NumericString ≡ u = cc in ap kind.Universal f
of_universal (kind.Universal type.PrintableString) u e = let f : type.PrintableString ≡ u = cc in ap kind.Universal f
of_universal (kind.Universal type.TeletexString) u e = let f : type.TeletexString ≡ u = cc in ap kind.Universal f
of_universal (kind.Universal type.VideotexString) u e = let f : type.VideotexString ≡ u = cc in ap kind.Universal f
of_universal (kind.Universal type.Ia5String) u e = let f : type.Ia5String ≡ u = cc in ap kind.Universal f
of_universal (kind.Universal type.UtcTime) u e = let f : type.UtcTime ≡ u = cc in ap kind.Universal f
of_universal (kind.Universal type.GeneralizedTime) u e = let f : type.GeneralizedTime ≡ u = cc in ap kind.Universal f
of_universal (kind.Universal type.GraphicString) u e = let f : type.GraphicString ≡ u = cc in ap kind.Universal f
of_universal (kind.Universal type.VisibleString) u e = let f : type.VisibleString ≡ u = cc in ap kind.Universal f
of_universal (kind.Universal type.GeneralString) u e = let f : type.GeneralString ≡ u = cc in ap kind.Universal f
of_universal (kind.Universal type.UniversalString) u e = let f : type.UniversalString ≡ u = cc in ap kind.Universal f
of_universal (kind.Universal type.CharacterString) u e = let f : type.CharacterString ≡ u = cc in ap kind.Universal f
of_universal (kind.Universal type.BmpString) u e = let f : type.BmpString ≡ u = cc in ap kind.Universal f
of_universal (kind.Universal type.Date) u e = let f : type.Date ≡ u = cc in ap kind.Universal f
of_universal (kind.Universal type.TimeOfDay) u e = let f : type.TimeOfDay ≡ u = cc in ap kind.Universal f
of_universal (kind.Universal type.DateTime) u e = let f : type.DateTime ≡ u = cc in ap kind.Universal f
of_universal (kind.Universal type.Duration) u e = let f : type.Duration ≡ u = cc in ap kind.Universal f
of_universal (kind.Universal type.OidIri) u e = let f : type.OidIri ≡ u = cc in ap kind.Universal f
of_universal (kind.Universal type.RelativeOidIri) u e = let f : type.RelativeOidIri ≡ u = cc in ap kind.Universal f
of_universal kind.SequenceOf u e = absurd (cc)
of_universal kind.SetOf u e = absurd (cc)
of_universal kind.Choice u e = absurd (cc)
of_universal kind.Explicit u e = absurd (cc)
of_universal kind.Any u e = absurd (cc)
of_universal kind.Open u e = absurd (cc)

-- the type whose constraints are about items
pub of_items : (u : Universal) → bound_of u ≡ Items → u ≡ type.Enumerated
of_items type.Boolean e = absurd (cc)
of_items type.Integer e = absurd (cc)
of_items type.BitString e = absurd (cc)
of_items type.OctetString e = absurd (cc)
of_items type.Null e = absurd (cc)
of_items type.ObjectIdentifier e = absurd (cc)
of_items type.ObjectDescriptor e = absurd (cc)
of_items type.External e = absurd (cc)
of_items type.Real e = absurd (cc)
of_items type.Enumerated e = refl
of_items type.EmbeddedPdv e = absurd (cc)
of_items type.Utf8String e = absurd (cc)
of_items type.RelativeOid e = absurd (cc)
of_items type.Time e = absurd (cc)
of_items type.Sequence e = absurd (cc)
of_items type.Set e = absurd (cc)
of_items type.NumericString e = absurd (cc)
of_items type.PrintableString e = absurd (cc)
of_items type.TeletexString e = absurd (cc)
of_items type.VideotexString e = absurd (cc)
of_items type.Ia5String e = absurd (cc)
of_items type.UtcTime e = absurd (cc)
of_items type.GeneralizedTime e = absurd (cc)
of_items type.GraphicString e = absurd (cc)
of_items type.VisibleString e = absurd (cc)
of_items type.GeneralString e = absurd (cc)
of_items type.UniversalString e = absurd (cc)
of_items type.CharacterString e = absurd (cc)
of_items type.BmpString e = absurd (cc)
of_items type.Date e = absurd (cc)
of_items type.TimeOfDay e = absurd (cc)
of_items type.DateTime e = absurd (cc)
of_items type.Duration e = absurd (cc)
of_items type.OidIri e = absurd (cc)
of_items type.RelativeOidIri e = absurd (cc)
