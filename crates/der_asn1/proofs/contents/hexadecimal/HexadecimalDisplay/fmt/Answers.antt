use Rattle.std.proofs.Common.{rules, [], get_or, take, sym, ap, ◌∙◌}
use Rattle.std.proofs.Output.{has_written_append, has_written_of_eq}
use Rattle.std.proofs.lemmas.List.{flat_map_more, take_more}
use Rattle.der_asn1.specs.Printed.{octet_text, octets_text}
use Rattle.der_asn1.proofs.contents.hexadecimal.HexadecimalDisplay.fmt.Goals as goal

pub loop-octet-preserved : goal.loop-octet-preserved
loop-octet-preserved g c =
    λ plain.
    let octets = c.args.self.now.0.now in
    let i = c.loop-octet.octet-index in
    has_written_of_eq _ _ _ _ _
    (flat_map_more octet_text [] (take i octets) (get_or octets i 0) ∙ ap octets_text (sym (take_more octets i 0 c.loop-octet-test.true)))
    (has_written_append _ _ _ _ _ _ (c.loop-octet.invariant plain) (search rules))
