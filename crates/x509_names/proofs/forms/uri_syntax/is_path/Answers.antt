use Rattle.x509_names.proofs.CheckLemmas.{and_first, and_with, moved}
use Rattle.x509_names.specs.UriSyntax.{AreOf}
use Rattle.x509_names.specs.declared.forms.uri_part.UriPart.TheVariants.{Path}
use Rattle.x509_names.proofs.forms.uri_syntax.is_path.Goals as goal

pub returns-then-are_of : goal.returns-then-are_of
returns-then-are_of c =
    and_with c.are_of-then-are_of.result ((moved (AreOf Path) _ _ c.are_of.result c.before-2.ensures c.are_of.ensures).0 c.if-are_of.true)
    (moved (AreOf Path) _ _ c.are_of-then-are_of.result c.after_mark.ensures c.are_of-then-are_of.ensures)

pub returns-else-are_of : goal.returns-else-are_of
returns-else-are_of c = and_first c.are_of.result c.if-are_of.false (moved (AreOf Path) _ _ c.are_of.result c.before-2.ensures c.are_of.ensures)
