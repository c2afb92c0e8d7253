use Rattle.std.proofs.Common.{◌⊎◌, List, ℕ}
use Rattle.x509_names.proofs.CheckLemmas.{and_first, and_with, moved}
use Rattle.x509_names.specs.UriSyntax.{IsLiteral, IsNameAndPort}
use Rattle.x509_names.proofs.forms.uri_syntax.is_authority.Goals as goal

pub returns-then-has_user_of_form : goal.returns-then-has_user_of_form
returns-then-has_user_of_form c =
    and_with c.is_host_and_port.result (c.has_user_of_form.ensures.0 c.if-has_user_of_form.true)
    (moved (λ (x : List ℕ). IsLiteral x ⊎ IsNameAndPort x) _ _ c.is_host_and_port.result c.host_and_port.ensures c.is_host_and_port.ensures)

pub returns-else-has_user_of_form : goal.returns-else-has_user_of_form
returns-else-has_user_of_form c = and_first c.has_user_of_form.result c.if-has_user_of_form.false c.has_user_of_form.ensures
