use Rattle.std.proofs.Common.{◌∙◌, refl, append_assoc}
use Rattle.std.proofs.lemmas.Result.{IfOk-weaker}
use Rattle.der_tool_lib.proofs.head.header_lines.Goals as goal

pub returns : goal.returns
returns g c =
    IfOk-weaker c.format.result _ _
    (λ s printed. printed ∙ rw (c.yes_or_no-constructed.ensures, c.indefinite_suffix-eoc.ensures, c.in_ok-rest.ensures, c.is_indefinite.ensures, c.is_constructed.ensures, c.tag-tag.ensures, c.length-length.ensures) (simp append_assoc refl))
    c.format.ensures.ok
