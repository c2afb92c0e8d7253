-- The state of a C writer as a writer of `der_core` (`writer_state`), and the innermost element that
-- is open in it, which calls keep (`KeepsOpen`).
use Rattle.std.specs.Prelude.{◌≡◌, ◌^◌, ◌-◌, take, drop, length, min}
use Rattle.der_core.specs.Writer.{WriterState}
use Rattle.der_c_core.specs.declared.writer.DerWriter.{DerWriter}

abbrev pub writer_state : DerWriter → WriterState
writer_state w =
    record {
      octets = take w.position w.octets.now;
      following = drop w.position w.octets.now;
      start = 0;
      stop = min (length w.octets.now) (2 ^ 32 - 1);
      capacity = length w.octets.now;
      failed = w.failed;
      reference = w.octets.ghost_name;
    }

-- the same elements are open
abbrev pub KeepsOpen : DerWriter → DerWriter → Type 0
KeepsOpen old new = new.innermost ≡ old.innermost
