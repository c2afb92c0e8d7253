use Rattle.der_core.proofs.BeforeLemmas.{element_certain_if_some}
use Rattle.der_core.proofs.encode.AnyEncode.len_before.Goals as goal

pub returns-in-Some : goal.returns-in-Some
returns-in-Some g c =
    let e = c.element_len.ensures in
    element_certain_if_some _ (g.T.Tagged.tag_of c.args.self.now) c.tag.result _ _ _ c.in-Some.count c.element_len.result c.tag.ensures e.count e.countable c.in-Some.ensures
