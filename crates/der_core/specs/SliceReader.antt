-- The meaning of a `SliceReader` (`slice_state`): once failed, it stays failed.
use Rattle.std.specs.Prelude.{true}
use Rattle.der_core.specs.ReaderState.{ReaderState}
use Rattle.der_core.specs.declared.reader.slice.SliceReader.{SliceReader}

abbrev pub slice_state : SliceReader → ReaderState
slice_state r =
    record {
      input = r.bytes.now;
      rules = r.encoding_rules;
      end = r.place.end;
      position = r.place.position;
      depth = r.place.depth;
      failed = r.failed;
      keeps_failure = true;
    }
