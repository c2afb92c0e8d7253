use Rattle.std.proofs.Common.{◌++◌, length}
use Rattle.der.specs.Prelude.{Sequence, header_octets}
use Rattle.x509.proofs.PartLemmas.{field_ends}
use Rattle.x509.proofs.parts.field.field_between.Goals as goal

pub part_before-requires-clause-ends : goal.part_before-requires-clause-ends
part_before-requires-clause-ends g c =
    field_ends (header_octets Sequence (length ((g.F.Encode.encoding c.args._first.now) ++ ((g.T.Encode.encoding c.args.value.now) ++ (g.U.Encode.encoding c.args.rest.now))))) (g.F.Encode.encoding c.args._first.now) ((g.T.Encode.encoding c.args.value.now) ++ (g.U.Encode.encoding c.args.rest.now)) _ c.requires.whole
