use Rattle.std.proofs.Common.{◌≡◌, inl, inr}
use Rattle.std.proofs.lemmas.Bool.{false≢true}
use Rattle.hex.proofs.HexLemmas.{decode_of-digits}
use Rattle.hex.specs.declared.error.FromHexError.TheVariants.{OutOfMemory}
use Rattle.der_tool_lib.proofs.program.octets_of.Goals as goal

-- the digits decode, so no other error is possible
pub unreachable-requires : goal.unreachable-requires
unreachable-requires g c =
    elim c.in-Err-2.ensures.err [
      | inl lacks ↦
          let same : c.in-Err.error ≡ OutOfMemory = cc in
          false≢true (rw same at c.if-eq.ensures)
      | inr refused ↦
          let spelled = decode_of-digits c.args.hex.now c.requires.0 c.requires.1 in
          let is = spelled.1 in
          absurd (cc)
    ]
