use Rattle.std.proofs.Common.{length}
use Rattle.schema_write.proofs.generalized_time.shortened.Given as goal

abbrev pub decreases-zeros : goal.decreases-zeros
decreases-zeros l = length l.short
