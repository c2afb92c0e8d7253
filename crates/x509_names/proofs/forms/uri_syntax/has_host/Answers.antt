use Rattle.std.proofs.Common.{sym, ap, ◌∙◌}
use Rattle.x509_names.proofs.CheckLemmas.{fails, given_with, moved, or_with}
use Rattle.x509_names.specs.UriSyntax.{IsHost, IsLiteral}
use Rattle.x509_names.specs.Uris.{before, host_and_port}
use Rattle.x509_names.specs.declared.forms.mark.Mark.TheVariants.{Colon}
use Rattle.x509_names.proofs.forms.uri_syntax.has_host.Goals as goal

pub returns-else-is_literal : goal.returns-else-is_literal
returns-else-is_literal c =
    let host = c.host_and_port-host.ensures ∙ ap host_and_port c.authority_of.ensures in
    given_with c.is_host.result (sym c.has_authority.ensures ∙ c.if-not-has_authority.false)
    (or_with c.is_host.result (fails c.is_literal.result c.if-is_literal.false (moved IsLiteral _ _ c.is_literal.result host c.is_literal.ensures))
    (moved IsHost _ _ c.is_host.result (c.before-else-is_literal.ensures ∙ ap (before Colon) host) c.is_host.ensures))
