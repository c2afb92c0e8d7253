use Rattle.std.proofs.Common.{◌≤◌, length, arith}
use Rattle.der_segments.specs.Segmented.{segmented_octets}
use Rattle.der_segments.proofs.WriteLemmas.{piece_copied, piece_has_room}
use Rattle.der_segments.proofs.segmented.Segmented.copy_to.Goals as goal

pub pieces-preserved : goal.pieces-preserved
pieces-preserved c = piece_copied c.pieces.invariant c.in-Some.ensures.steps c.put-at.ensures.end c.put-at.ensures.octets c.put-at.ensures.following

pub put-at-requires : goal.put-at-requires
put-at-requires c =
    let room : length (segmented_octets c.args.self.now) ≤ length c.args.buffer.now = omega (arith, c.joined_len.ensures, c.if-buffer-joined_len.false) in
    piece_has_room c.pieces.invariant c.in-Some.ensures.steps room
