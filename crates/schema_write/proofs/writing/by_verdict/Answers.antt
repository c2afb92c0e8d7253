use Rattle.std.proofs.Common.{◌≡◌, false, sym, ap, subst, inl}
use Rattle.der_base.specs.declared.encoding_rules.EncodingRules.TheVariants.{Der, Ber}
use Rattle.schema_types.specs.Table.{table_in}
use Rattle.schema_read.specs.Encoding.{IsDer, IsBer}
use Rattle.schema_read.specs.Verdict.{holds}
use Rattle.schema_read.proofs.ResultLemmas.{if_ok}
use Rattle.schema_write.proofs.VerdictLemmas.{der_says, ber_says}
use Rattle.schema_write.proofs.writing.by_verdict.Goals as goal

pub returns-in-Der-clause-read : goal.returns-in-Der-clause-read
returns-in-Der-clause-read c =
    let is = (ber_says c.args.schema.now.octets.now c.args.node c.args.octets.now c.args.verdict c.requires.verdict).0 (ap (holds Ber) c.in-Der.is) in
    if_ok c.copied.result (λ w e. is) c.copied.ensures.copy

pub returns-in-Der-clause-written : goal.returns-in-Der-clause-written
returns-in-Der-clause-written c =
    let is = (ber_says c.args.schema.now.octets.now c.args.node c.args.octets.now c.args.verdict c.requires.verdict).0 (ap (holds Ber) c.in-Der.is) in
    if_ok c.copied.result (λ w e. subst (λ q. IsBer (table_in c.args.schema.now.octets.now) c.args.node q) (sym e.0) is) c.copied.ensures.copy

pub returns-in-Der-clause-der : goal.returns-in-Der-clause-der
returns-in-Der-clause-der c =
    let is = (der_says c.args.schema.now.octets.now c.args.node c.args.octets.now c.args.verdict c.requires.verdict).0 (ap (holds Der) c.in-Der.is) in
    if_ok c.copied.result (λ w e. ((λ _. subst (λ q. IsDer (table_in c.args.schema.now.octets.now) c.args.node q) (sym e.0) is), (λ _. e.1))) c.copied.ensures.copy

pub returns-in-Der-clause-same : goal.returns-in-Der-clause-same
returns-in-Der-clause-same c =
    let is = (der_says c.args.schema.now.octets.now c.args.node c.args.octets.now c.args.verdict c.requires.verdict).0 (ap (holds Der) c.in-Der.is) in
    if_ok c.copied.result (λ w e. inl (is, e.0)) c.copied.ensures.copy

pub returns-in-Ber-clause-read : goal.returns-in-Ber-clause-read
returns-in-Ber-clause-read c =
    let is = (ber_says c.args.schema.now.octets.now c.args.node c.args.octets.now c.args.verdict c.requires.verdict).0 (ap (holds Ber) c.in-Ber.is) in
    if_ok c.converted.result (λ w e. is) c.converted.ensures.written

pub returns-in-Ber-clause-copied : goal.returns-in-Ber-clause-copied
returns-in-Ber-clause-copied c is =
    let yes = (der_says c.args.schema.now.octets.now c.args.node c.args.octets.now c.args.verdict c.requires.verdict).1 is in
    let no : holds Der c.args.verdict ≡ false = ap (holds Der) c.in-Ber.is in
    absurd (cc)

pub returns-in-Neither-clause-refused : goal.returns-in-Neither-clause-refused
returns-in-Neither-clause-refused c e is =
    let yes = (ber_says c.args.schema.now.octets.now c.args.node c.args.octets.now c.args.verdict c.requires.verdict).1 is in
    let no : holds Ber c.args.verdict ≡ false = ap (holds Ber) c.in-Neither.is in
    absurd (cc)
