use Rattle.x509_names.proofs.CheckLemmas.{and_first, and_with, moved}
use Rattle.x509_names.specs.UriSyntax.{IsPath}
use Rattle.x509_names.proofs.forms.uri_syntax.has_parts.Goals as goal

pub returns-then-has_authority_of_form : goal.returns-then-has_authority_of_form
returns-then-has_authority_of_form c =
    and_with c.is_path.result (c.has_authority_of_form.ensures.0 c.if-has_authority_of_form.true)
    (moved IsPath _ _ c.is_path.result c.path_of.ensures c.is_path.ensures)

pub returns-else-has_authority_of_form : goal.returns-else-has_authority_of_form
returns-else-has_authority_of_form c = and_first c.has_authority_of_form.result c.if-has_authority_of_form.false c.has_authority_of_form.ensures
