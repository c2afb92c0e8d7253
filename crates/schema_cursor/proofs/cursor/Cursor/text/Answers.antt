use Rattle.schema_cursor.proofs.ValueLemmas.{some_inside}
use Rattle.schema_cursor.proofs.cursor.Cursor.text.Goals as goal

pub returns-in_ok-primitive-in-Utf8String : goal.returns-in_ok-primitive-in-Utf8String
returns-in_ok-primitive-in-Utf8String c = some_inside c.as_text.result (λ s. s.now) c.in_ok-primitive-in-Utf8String.ensures c.as_text.ensures
