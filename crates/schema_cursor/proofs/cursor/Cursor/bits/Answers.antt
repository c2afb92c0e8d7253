use Rattle.schema_cursor.proofs.ValueLemmas.{some_inside}
use Rattle.schema_cursor.proofs.cursor.Cursor.bits.Goals as goal

pub returns : goal.returns
returns c = some_inside c.new.result (λ v. v.octets.now) c.in_ok-primitive.ensures c.new.ensures.same
