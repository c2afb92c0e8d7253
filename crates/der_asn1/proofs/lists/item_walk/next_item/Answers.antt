use Rattle.std.proofs.Common.{refl, sym, subst, ◌∙◌}
use Rattle.std.proofs.lemmas.Result.{err_from_is_err_and}
use Rattle.der_asn1.proofs.SequenceOfLemmas.{first_lacks, first_working, item_passed, item_keeps, uncons}
use Rattle.der_asn1.specs.ListAnswers.{ItemAnswer}
use Rattle.der_asn1.proofs.lists.item_walk.next_item.Goals as goal

pub returns-in_err-value-clause-first : goal.returns-in_err-value-clause-first
returns-in_err-value-clause-first g c v others reliable is split =
    let p = err_from_is_err_and c.from_residual.result c.from_residual.ensures.1 in
    rw (p.1, p.2) (first_lacks g.met.T.DecodeItem.is_item g.met.T.DecodeItem.decodes_items (g.R.Reader.state c.args.reader.now) (g.met.R.Reader.sound_state c.args.reader.now) c.requires v is others split g.T.Error.DecodeError.out_of_memory (g.R.Reader.state c.decode.new.reader) c.in_err-value.field-0.0 (λ w m. c.in_err-value.ensures.complete w m reliable))

pub returns-then-is_failed-clause-first : goal.returns-then-is_failed-clause-first
returns-then-is_failed-clause-first g c v others reliable is split =
    let works = first_working g.met.T.DecodeItem.is_item g.met.T.DecodeItem.decodes_items (g.R.Reader.state c.args.reader.now) (g.met.R.Reader.sound_state c.args.reader.now) c.requires v is others split g.T.Error.DecodeError.out_of_memory (g.R.Reader.state c.decode.new.reader) c.in_ok-value.value (λ w m. c.in_ok-value.ensures.complete w m reliable) in
    absurd (let failed = c.if-is_failed.true in let is = c.is_failed.ensures in cc)

pub returns-in_err-value-clause-complete : goal.returns-in_err-value-clause-complete
returns-in_err-value-clause-complete g c reliable l some =
    let p = err_from_is_err_and c.from_residual.result c.from_residual.ensures.1 in
    let f = uncons l some in
    rw (p.1, p.2) (first_lacks g.met.T.DecodeItem.is_item g.met.T.DecodeItem.decodes_items (g.R.Reader.state c.args.reader.now) (g.met.R.Reader.sound_state c.args.reader.now) c.requires f.first f.is_valid f.others f.split g.T.Error.DecodeError.out_of_memory (g.R.Reader.state c.decode.new.reader) c.in_err-value.field-0.0 (λ w m. c.in_err-value.ensures.complete w m reliable))

pub returns-then-is_failed-clause-complete : goal.returns-then-is_failed-clause-complete
returns-then-is_failed-clause-complete g c reliable l some =
    let f = uncons l some in
    let works = first_working g.met.T.DecodeItem.is_item g.met.T.DecodeItem.decodes_items (g.R.Reader.state c.args.reader.now) (g.met.R.Reader.sound_state c.args.reader.now) c.requires f.first f.is_valid f.others f.split g.T.Error.DecodeError.out_of_memory (g.R.Reader.state c.decode.new.reader) c.in_ok-value.value (λ w m. c.in_ok-value.ensures.complete w m reliable) in
    absurd (let failed = c.if-is_failed.true in let is = c.is_failed.ensures in cc)

pub returns-clause-ok : goal.returns-clause-ok
returns-clause-ok g c = item_passed g.met.T.DecodeItem.is_item g.met.T.DecodeItem.decodes_items (g.R.Reader.state c.args.reader.now) (g.met.R.Reader.sound_state c.args.reader.now) c.requires c.in_ok-value.value (g.R.Reader.state c.decode.new.reader) (c.in_ok-value.ensures.ok c.requires.working (sym c.is_failed.ensures ∙ c.if-is_failed.false))

pub returns-clause-keeps : goal.returns-clause-keeps
returns-clause-keeps g c l some =
    let passed = item_passed g.met.T.DecodeItem.is_item g.met.T.DecodeItem.decodes_items (g.R.Reader.state c.args.reader.now) (g.met.R.Reader.sound_state c.args.reader.now) c.requires c.in_ok-value.value (g.R.Reader.state c.decode.new.reader) (c.in_ok-value.ensures.ok c.requires.working (sym c.is_failed.ensures ∙ c.if-is_failed.false)) in
    item_keeps g.met.T.DecodeItem.is_item g.met.T.DecodeItem.decodes_items (g.R.Reader.state c.args.reader.now) (g.met.R.Reader.sound_state c.args.reader.now) c.requires c.in_ok-value.value (g.R.Reader.state c.decode.new.reader) passed.0 passed.1 l some

pub returns-in_err-value-clause-exact : goal.returns-in_err-value-clause-exact
returns-in_err-value-clause-exact g c reliable =
    let p = err_from_is_err_and c.from_residual.result c.from_residual.ensures.1 in
    rw (p.1, p.2) (ItemAnswer.item_refused c.in_err-value.field-0.0 (c.in_err-value.ensures.exact reliable) refl)

pub returns-then-is_failed-clause-exact : goal.returns-then-is_failed-clause-exact
returns-then-is_failed-clause-exact g c reliable =
    ItemAnswer.item_failed c.in_ok-value.value (g.R.Reader.state c.decode.new.reader) c.into.result (c.in_ok-value.ensures.exact reliable) (sym c.is_failed.ensures ∙ c.if-is_failed.true)
    (subst (λ e. g.T.Error.From.from_gives e c.into.result) c.error.ensures.at_position c.into.ensures) refl

pub returns-clause-exact : goal.returns-clause-exact
returns-clause-exact g c reliable = ItemAnswer.item_read c.in_ok-value.value (c.in_ok-value.ensures.exact reliable) (sym c.is_failed.ensures ∙ c.if-is_failed.false) refl
