use Rattle.der_c_core.specs.WriterCalls.{of_tag}
use Rattle.der_c_core.proofs.writer.calls.header_slowly.Goals as goal

pub returns-clause-writes : goal.returns-clause-writes
returns-clause-writes c = of_tag c.in-Some.tag c.encode_header.result c.in-Some.ensures.is c.encode_header.ensures.writes c.code.ensures
