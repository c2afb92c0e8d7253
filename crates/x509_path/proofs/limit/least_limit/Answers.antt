use Rattle.std.proofs.Common.{subst}
use Rattle.std.specs.Iterator.{Yields}
use Rattle.std.proofs.lemmas.List.Elements.{All-nil}
use Rattle.der.specs.Prelude.{slice_state}
use Rattle.x509.proofs.FindLemmas.{gives, octets_drained}
use Rattle.x509.specs.CertificateLists.{IsExtension, extension_encoding}
use Rattle.x509_path.proofs.LimitLemmas.{listed_exactly, no_limit, room_more}
use Rattle.x509_path.specs.PathLimits.{Allows}
use Rattle.x509_path.proofs.limit.least_limit.Goals as goal

pub extensions-init : goal.extensions-init
extensions-init c = λ n. (λ _. All-nil (Allows n), λ _. no_limit n)

pub extensions-preserved : goal.extensions-preserved
extensions-preserved c =
    room_more Allows c.extensions.yielded c.in-Some.extension c.extensions.limit c.extension_limit.result c.lesser-limit.result c.lesser-limit.ensures c.extensions.invariant c.extension_limit.ensures

pub returns : goal.returns
returns c =
    let start = c.into_iter-extension-iterator.ensures.into_iter_gives in
    let list = octets_drained (λ i. slice_state i.items.reader) IsExtension extension_encoding c.args.extensions.now.items.octets.now c.iter-extension-items.result c.extensions.yielded c.extensions.extension-iterator c.next.new.self c.iter-extension-items.ensures
    (subst (λ i. Yields (gives (λ i. slice_state i.items.reader) IsExtension extension_encoding) i c.extensions.yielded c.extensions.extension-iterator) start c.extensions.yielded_by) c.in-None.ensures.steps in
    listed_exactly c.args.extensions.now.items.octets.now list c.extensions.limit c.extensions.invariant
