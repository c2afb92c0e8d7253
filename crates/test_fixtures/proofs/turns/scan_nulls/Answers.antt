use Rattle.test_fixtures.proofs.NullLemmas.{nulls_scanned, nulls_turned}
use Rattle.test_fixtures.proofs.turns.scan_nulls.Goals as goal

pub returns-clause-answer : goal.returns-clause-answer
returns-clause-answer g c = nulls_scanned _ c.scan_indefinite.result c.in_ok-reader.ensures.ok c.scan_indefinite.ensures.scans

pub returns-clause-turned : goal.returns-clause-turned
returns-clause-turned g c = nulls_turned _ c.scan_indefinite.result _ _ c.in_ok-reader.ensures.ok c.scan_indefinite.ensures.scans c.scan_indefinite.ensures.turned
