-- Tests of the entries of revocation lists (RFC 5280, 5.1.2.6 and 5.3): `EntryKeeps`.
use Rattle.std.specs.Prelude.{ℕ, List}
use Rattle.der.specs.Prelude.{Boolean, Sequence, Tag}
use Rattle.x509_lint.specs.FieldRules.{InnerKeeps}
use Rattle.x509_lint.specs.Parts.{PartKeeps}
use Rattle.x509_lint.specs.Tests.{EachKeeps, GuardKeeps, InsideKeeps, LackKeeps}
use Rattle.x509_lint.specs.declared.entry_test.EntryTest.{EntryTest}
use Rattle.x509_lint.specs.declared.entry_test.EntryTest.TheVariants as entry
use Rattle.x509_lint.specs.declared.identifier.Identifier.TheVariants.{Reason, CertificateIssuer}
use Rattle.x509_lint.specs.declared.part_test.PartTest.TheVariants as part

-- an entry, with this tag and these contents, keeps a test: its fields are a number, a time, and the
-- SEQUENCE of its extensions, each of which has an identifier, the BOOLEAN true if it is critical, and
-- a value
abbrev pub EntryKeeps : EntryTest → Tag → List ℕ → Type 0
EntryKeeps entry.Times = EachKeeps (PartKeeps part.LateTime)
EntryKeeps entry.NoExtensions = EachKeeps (PartKeeps (part.NotTagged Sequence))
EntryKeeps (entry.NotCritical i) =
    InnerKeeps (GuardKeeps (PartKeeps (part.Other i)) (PartKeeps (part.NotTagged Boolean)))
EntryKeeps entry.IssuerCritical =
    InnerKeeps (LackKeeps (PartKeeps (part.Other CertificateIssuer))
    (PartKeeps (part.NotTagged Boolean)))
EntryKeeps entry.NotRemoved =
    InnerKeeps (GuardKeeps (PartKeeps (part.Other Reason)) (PartKeeps part.NotRemoved))
EntryKeeps entry.NoIssuer =
    InnerKeeps (InsideKeeps (PartKeeps (part.Other CertificateIssuer)) Sequence)
