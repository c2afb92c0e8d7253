use Rattle.std.proofs.Common.{◌∷◌, [], arith}
use Rattle.der_c_core.specs.CWriter.{writer_state}
use Rattle.der_c_core.proofs.ShortWriteLemmas.{short_written, not_refused}
use Rattle.der_c_core.proofs.writer.short.write_short.Goals as goal

pub returns-in-Ok-clause-written : goal.returns-in-Ok-clause-written
returns-in-Ok-clause-written c =
    λ _. short_written c.args.tag c.args.length (writer_state c.args.writer.now) (writer_state c.write.new.self) (c.is_identifier.ensures c.if-not-is_identifier.false).0 (omega arith) (omega arith)
    (c.has_space.ensures c.if-not-has_space.false) c.in-Ok.ensures.exact

pub returns-in-Err-clause-left : goal.returns-in-Err-clause-left
returns-in-Err-clause-left c =
    λ _. absurd (not_refused (c.args.tag ∷ c.args.length ∷ []) (writer_state c.args.writer.now) (writer_state c.write.new.self) _ (c.has_space.ensures c.if-not-has_space.false) c.in-Err.ensures.exact)
