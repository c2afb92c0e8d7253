use Rattle.schema_types.specs.Distinct.{not_before}
use Rattle.schema_types.proofs.nesting.check_alternative.Goals as goal

pub returns-in-Choice-clause-fault : goal.returns-in-Choice-clause-fault
returns-in-Choice-clause-fault c =
    rw (c.new.ensures, c.fields_at.ensures) (not_before c.args.index c.args.k c.field-alternative.result
    (record {
      outer = c.args.choice;
      row = c.requires.there;
      choice = c.requires.kind;
      field = record { part = c.requires.part; row = c.field-alternative.ensures.value };
      inner = c.node.result;
      inner_row = c.node.ensures.value;
      inner_choice = c.in-Choice.is;
    }) c.if-alternative-index.false)
