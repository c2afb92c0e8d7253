use Rattle.std.proofs.Common.{IfSome, IfNone, subst}
use Rattle.schema_types.specs.Table.{table_in}
use Rattle.schema_types.specs.Sought.{IsFound, FindsNone}
use Rattle.schema_types.specs.declared.sought.Sought.{Sought}
use Rattle.schema_types.proofs.TagLemmas.{share_if_found}
use Rattle.schema_types.proofs.shared.node_shares_tag.Goals as goal

pub returns : goal.returns
returns c =
    let t = table_in c.args.rows.now.octets.now in
    share_if_found c.find_selected.result c.requires.there c.requires.kind
    (subst (λ (s : Sought). IfSome c.find_selected.result (IsFound t c.args.second s)) c.tags_of.ensures c.find_selected.ensures.found)
    (subst (λ (s : Sought). IfNone c.find_selected.result (FindsNone t c.args.second s)) c.tags_of.ensures c.find_selected.ensures.none)
    c.is_some.ensures
