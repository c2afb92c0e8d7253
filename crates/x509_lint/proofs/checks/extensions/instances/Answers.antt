use Rattle.std.proofs.Common.{ap, ◌∙◌}
use Rattle.std.specs.Str.{bytes_eq}
use Rattle.der.specs.Prelude.{rest_of, slice_state}
use Rattle.x509.proofs.EncodingLemmas.{extension_same, extensions_apart}
use Rattle.x509.proofs.ItemLemmas.{counted}
use Rattle.x509.specs.CertificateLists.{IsExtension, extension_encoding}
use Rattle.x509_lint.proofs.checks.extensions.instances.Given as given
use Rattle.x509_lint.proofs.checks.extensions.instances.Goals as goal

pub returns : goal.returns
returns c l =
    c.loop-extension.invariant.2
    ∙ counted IsExtension extension_encoding extensions_apart (λ v. bytes_eq v.extn_id.octets.now c.args.id.now)
    (λ v w is are e. ap (λ o. bytes_eq o c.args.id.now) (extension_same v w e).0) given.iterator-loop-extension.next_gives (λ s. rest_of (slice_state s.items.reader)) (λ s v t h. (h.0, h.1.split))
    _ c.loop-extension.yielded _ _ c.loop-extension.yielded_by (ap (λ s. rest_of (slice_state s.items.reader)) c.into_iter-extension-iterator.ensures.into_iter_gives ∙ c.iter-extension-items.ensures) l
    c.in-None.ensures.steps.0
