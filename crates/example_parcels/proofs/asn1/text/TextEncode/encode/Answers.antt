-- Written by asn1_compile: change the module instead.
use Rattle.example_parcels.proofs.asn1.text.TextEncode.encode.Goals as goal

pub returns-in-Printable-clause-ok : goal.returns-in-Printable-clause-ok
returns-in-Printable-clause-ok g c = rw c.in-Printable.is c.encode.ensures.ok

pub returns-in-Printable-clause-succeeds : goal.returns-in-Printable-clause-succeeds
returns-in-Printable-clause-succeeds g c = rw c.in-Printable.is c.encode.ensures.succeeds

pub returns-in-Utf8-clause-ok : goal.returns-in-Utf8-clause-ok
returns-in-Utf8-clause-ok g c = rw c.in-Utf8.is c.encode-in-Utf8.ensures.ok

pub returns-in-Utf8-clause-succeeds : goal.returns-in-Utf8-clause-succeeds
returns-in-Utf8-clause-succeeds g c = rw c.in-Utf8.is c.encode-in-Utf8.ensures.succeeds

pub returns-in-Teletex-clause-ok : goal.returns-in-Teletex-clause-ok
returns-in-Teletex-clause-ok g c = rw c.in-Teletex.is c.encode-in-Teletex.ensures.ok

pub returns-in-Teletex-clause-succeeds : goal.returns-in-Teletex-clause-succeeds
returns-in-Teletex-clause-succeeds g c = rw c.in-Teletex.is c.encode-in-Teletex.ensures.succeeds

pub returns-in-Visible-clause-ok : goal.returns-in-Visible-clause-ok
returns-in-Visible-clause-ok g c = rw c.in-Visible.is c.encode-in-Visible.ensures.ok

pub returns-in-Visible-clause-succeeds : goal.returns-in-Visible-clause-succeeds
returns-in-Visible-clause-succeeds g c = rw c.in-Visible.is c.encode-in-Visible.ensures.succeeds
