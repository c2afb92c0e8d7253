-- Written by asn1_compile: change the module instead.
use Rattle.example_parcels.proofs.asn1.text.TextEncode.encode_before.Goals as goal

pub returns-in-Printable : goal.returns-in-Printable
returns-in-Printable c = rw c.in-Printable.is c.encode_before.ensures

pub returns-in-Utf8 : goal.returns-in-Utf8
returns-in-Utf8 c = rw c.in-Utf8.is c.encode_before-in-Utf8.ensures

pub returns-in-Teletex : goal.returns-in-Teletex
returns-in-Teletex c = rw c.in-Teletex.is c.encode_before-in-Teletex.ensures

pub returns-in-Visible : goal.returns-in-Visible
returns-in-Visible c = rw c.in-Visible.is c.encode_before-in-Visible.ensures
