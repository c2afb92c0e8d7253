use Rattle.std.proofs.Common.{IfSome, IfNone, subst}
use Rattle.schema_types.specs.Table.{table_in}
use Rattle.schema_types.specs.Sought.{IsFound, FindsNone}
use Rattle.schema_types.specs.declared.sought.Sought.{Sought}
use Rattle.schema_types.proofs.TagLemmas.{tag_found, tag_not_found, node_found, via_found}
use Rattle.schema_types.proofs.schema.Schema.select.Goals as goal

pub returns-clause-found : goal.returns-clause-found
returns-clause-found c =
    tag_found (table_in c.args.self.now.octets.now) c.args.index c.args.class c.args.number c.find_selected.result (subst (λ (s : Sought). IfSome c.find_selected.result (IsFound (table_in c.args.self.now.octets.now) c.args.index s)) c.tag.ensures c.find_selected.ensures.found)

pub returns-clause-there : goal.returns-clause-there
returns-clause-there c = node_found c.args.self.now.octets.now c.args.index c.tag.result c.find_selected.result c.args.self.now.counted c.find_selected.ensures.found

pub returns-clause-field_there : goal.returns-clause-field_there
returns-clause-field_there c = via_found c.args.self.now.octets.now c.args.index c.tag.result c.find_selected.result c.args.self.now.counted c.find_selected.ensures.found

pub returns-clause-none : goal.returns-clause-none
returns-clause-none c =
    tag_not_found (table_in c.args.self.now.octets.now) c.args.index c.args.class c.args.number c.find_selected.result (subst (λ (s : Sought). IfNone c.find_selected.result (FindsNone (table_in c.args.self.now.octets.now) c.args.index s)) c.tag.ensures c.find_selected.ensures.none)
