use Rattle.std.proofs.Common.{refl}
use Rattle.der_core.specs.Fields.{refused, continues}
use Rattle.der_core.proofs.encode.fields.Tuple2Encode.encode.Goals as goal

pub returns-in-Err-clause-exact : goal.returns-in-Err-clause-exact
returns-in-Err-clause-exact g c reliable = refused _ (c.in-Err.ensures.exact reliable) refl

pub returns-in-Err-encode-clause-exact : goal.returns-in-Err-encode-clause-exact
returns-in-Err-encode-clause-exact g c reliable = continues _ (c.in_default.ensures.exact reliable) (c.in-Err-encode.ensures.exact reliable)

pub returns-clause-exact : goal.returns-clause-exact
returns-clause-exact g c reliable = continues _ (c.in_default.ensures.exact reliable) (c.in_default-encode.ensures.exact reliable)
