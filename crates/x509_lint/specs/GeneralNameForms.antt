-- What a general name is, by its form (RFC 5280, 4.2.1.6): `FormKeeps`.
use Rattle.std.specs.Prelude.{◌≡◌, ◌≢◌, false, true, List, ℕ, []}
use Rattle.der.specs.Prelude.{Sequence, Tag, element_octets}
use Rattle.der_asn1.specs.ContextSpecific.{context_tag}
use Rattle.x509_names.specs.Addresses.{IsAddress}
use Rattle.x509_names.specs.HostNames.{IsHostName}
use Rattle.x509_names.specs.Mailboxes.{IsMailbox}
use Rattle.x509_names.specs.UriSyntax.{HasHost, HasScheme, IsUri}
use Rattle.x509_lint.specs.declared.form_rule.FormRule.{FormRule}
use Rattle.x509_lint.specs.declared.form_rule.FormRule.TheVariants.{Mail, Host, Scheme, Uri, Authority, Address, Directory}

-- a general name with this tag and these contents keeps the rule for its form: an rfc822Name has
-- the tag [1], a dNSName [2], a directoryName [4], a uniformResourceIdentifier [6], an iPAddress [7]
abbrev pub FormKeeps : FormRule → Tag → List ℕ → Type 0
FormKeeps Mail t c = t ≡ context_tag false 1 → IsMailbox c
FormKeeps Host t c = t ≡ context_tag false 2 → IsHostName c
FormKeeps Scheme t c = t ≡ context_tag false 6 → HasScheme c
FormKeeps Uri t c = t ≡ context_tag false 6 → IsUri c
FormKeeps Authority t c = t ≡ context_tag false 6 → HasHost c
FormKeeps Address t c = t ≡ context_tag false 7 → IsAddress c
FormKeeps Directory t c = t ≡ context_tag true 4 → c ≢ element_octets Sequence []
