use Rattle.std.proofs.Common.{sym, ◌∙◌}
use Rattle.x509_names.proofs.CheckLemmas.{given_with, moved}
use Rattle.x509_names.specs.UriSyntax.{IsAuthority}
use Rattle.x509_names.proofs.forms.uri_syntax.has_authority_of_form.Goals as goal

pub returns-else-not-has_authority : goal.returns-else-not-has_authority
returns-else-not-has_authority c =
    given_with c.is_authority.result (sym c.has_authority.ensures ∙ c.if-not-has_authority.false)
    (moved IsAuthority _ _ c.is_authority.result c.authority_of.ensures c.is_authority.ensures)
