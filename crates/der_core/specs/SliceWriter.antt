-- The meaning of a `SliceWriter` (`slice_writer_state`).
use Rattle.std.specs.Prelude.{◌+◌, take, drop, length}
use Rattle.der_core.specs.Writer.{WriterState}
use Rattle.der_core.specs.declared.writer.slice.SliceWriter.{SliceWriter}

abbrev pub slice_writer_state : SliceWriter → WriterState
slice_writer_state w =
    record {
      octets = take (w.start + w.position) w.bytes.now;
      following = drop (w.start + w.position) w.bytes.now;
      start = w.start;
      stop = w.stop;
      capacity = length w.bytes.now;
      failed = w.failed;
      reference = w.bytes.ghost_name;
    }
