use Rattle.std.proofs.Common.{refl}
use Rattle.der_c_values.proofs.OidContentsLemmas.{subidentifier_is, appended_after, no_space_after, no_space_before}
use Rattle.der_c_values.proofs.oid_contents.OidContents.append_digits.Goals as goal

pub returns-then-append_high-clause-there : goal.returns-then-append_high-clause-there
returns-then-append_high-clause-there c there =
    appended_after _ _ _ _ _ (c.if-append_high.ensures.there refl) (subidentifier_is c.args.number) (c.append_octet.ensures.there there)

pub returns-then-append_high-clause-full : goal.returns-then-append_high-clause-full
returns-then-append_high-clause-full c full =
    no_space_after _ _ _ _ _ (c.if-append_high.ensures.there refl) (subidentifier_is c.args.number) (c.append_octet.ensures.full full)

pub returns-else-append_high-clause-full : goal.returns-else-append_high-clause-full
returns-else-append_high-clause-full c full =
    no_space_before _ _ _ _ (subidentifier_is c.args.number) (c.append_high.ensures.full full)
