use Rattle.std.proofs.Common.{arith, sym, ap, Ok}
use Rattle.der.specs.Prelude.{definite_length}
use Rattle.der_segments.proofs.SegmentedLemmas.{octets_counted}
use Rattle.der_segments.proofs.WriteLemmas.{pieces_accepted}
use Rattle.der_segments.specs.Segmented.{segmented_pieces}
use Rattle.der_segments.proofs.segmented.written.SegmentedEncodeValue.value_len_before.Goals as goal

pub returns : goal.returns
returns c =
    let size = octets_counted c.args.self.now.formed in
    record {
      encodable = omega (arith, size);
      counted = sym size;
      sized = ap (λ n. Ok (definite_length n)) size;
      accepted = pieces_accepted (segmented_pieces c.args.self.now);
    }
