use Rattle.std.proofs.Common.{◌≡◌, Ok, Err, inr, refl, subst, sym, ◌∙◌}
use Rattle.std.proofs.lemmas.Result.{err_from_is_err_and}
use Rattle.der.specs.DecodeValue.{IsInside}
use Rattle.der.specs.Prelude.{Der}
use Rattle.der.specs.Length.{number}
use Rattle.der.specs.Outcome.{Gives}
use Rattle.der.specs.Reader.{read_slice_outcome}
use Rattle.der_asn1.specs.SequenceOf.{IsListOf}
use Rattle.der_asn1.specs.ListAnswers.{ContentsWalked, ListRead, ListWalked, WalkAnswer}
use Rattle.der_asn1.proofs.ListAnswerLemmas.{ends_or_lacks, first_of, list_alone, merely_succeeds, walked_inside}
use Rattle.der_asn1.proofs.SequenceOfLemmas.{lacks_merely}
use Rattle.der_asn1.proofs.lists.sequence_of.SequenceOfDecodeValue.decode_value.Goals as goal

pub returns-in_err-items-clause-exact : goal.returns-in_err-items-clause-exact
returns-in_err-items-clause-exact g c reliable =
    let p = err_from_is_err_and c.from_residual.result c.from_residual.ensures.1 in
    ListRead.list_unread c.in_err-items.field-0.0 p.0
    (subst (λ l. Gives (read_slice_outcome (number l)) (g.R.Reader.state c.args.reader.now) (Err c.in_err-items.field-0.0) (g.R.Reader.state c.read_part.new.reader)) c.length.ensures (c.in_err-items.ensures.exact reliable)) p.2 p.1

pub returns-then-not-is_der-clause-complete : goal.returns-then-not-is_der-clause-complete
returns-then-not-is_der-clause-complete g c v reliable there deep =
    let whole = c.in_ok-items.ensures.ends (subst (λ l. IsInside (g.R.Reader.state c.args.reader.now) (number l)) (sym c.length.ensures) there.is_next) in
    ends_or_lacks g.T.Error.DecodeError.out_of_memory g.T.Item.item.allocates c.new.result (g.R.Reader.state c.read_part.new.reader) whole.0
    (merely_succeeds g.T.Error.DecodeError.out_of_memory g.T.Item.item.allocates c.new.result there.taken.0
    (λ l. c.new.ensures.complete c.in_ok-items.ensures.part.short (subst (IsListOf g.T.Item.item.valid g.T.Item.item.octets) (sym whole.1) l)))

pub returns-then-not-is_der-clause-exact : goal.returns-then-not-is_der-clause-exact
returns-then-not-is_der-clause-exact g c reliable =
    list_alone g.T.Error.From.from_gives (WalkAnswer g.T.Error.From.from_gives g.T.Decode-1.decode_answers) (ListWalked g.T.Error.From.from_gives g.T.Decode-2.decode_answers) _ _ (g.R.Reader.state c.args.reader.now) (g.R.Reader.state c.read_part.new.reader) c.in_ok-items.octets.now c.new.result
    (subst (λ l. Gives (read_slice_outcome (number l)) (g.R.Reader.state c.args.reader.now) (Ok c.in_ok-items.octets.now) (g.R.Reader.state c.read_part.new.reader)) c.length.ensures c.in_ok-items.ensures.exact)
    (λ e. (let is = c.is_der.ensures.1 (c.encoding_rules.ensures ∙ c.in_ok-items.ensures.same.rules ∙ e) in let other = c.if-not-is_der.true in cc))
    (c.new.ensures.exact c.in_ok-items.ensures.part.short) (first_of _ _ c.new.result c.new.ensures.ok)

pub returns-in_err-read_items-clause-complete : goal.returns-in_err-read_items-clause-complete
returns-in_err-read_items-clause-complete g c v reliable there deep =
    let p = err_from_is_err_and c.from_residual-in_err-read_items.result c.from_residual-in_err-read_items.ensures.1 in
    let whole = c.in_ok-items.ensures.ends (subst (λ l. IsInside (g.R.Reader.state c.args.reader.now) (number l)) (sym c.length.ensures) there.is_next) in
    rw (p.1, p.2) (inr (lacks_merely g.T.Error.DecodeError.out_of_memory g.T.Item.item.allocates c.in_err-read_items.field-0.0 there.taken.0
    (λ l. c.in_err-read_items.ensures.complete reliable (subst (IsListOf g.T.Item.item.valid g.T.Item.item.octets) (sym (c.in_ok-items.ensures.part.all ∙ whole.1)) l))))

pub returns-in_err-read_items-clause-exact : goal.returns-in_err-read_items-clause-exact
returns-in_err-read_items-clause-exact g c reliable =
    let p = err_from_is_err_and c.from_residual-in_err-read_items.result c.from_residual-in_err-read_items.ensures.1 in
    let der : (g.R.Reader.state c.args.reader.now).rules ≡ Der = sym (c.encoding_rules.ensures ∙ c.in_ok-items.ensures.same.rules) ∙ c.is_der.ensures.0 c.if-not-is_der.false in
    rw (p.1, p.2) (ListRead.list_refused c.in_ok-items.octets.now c.in_err-read_items.field-0.0
    (subst (λ l. Gives (read_slice_outcome (number l)) (g.R.Reader.state c.args.reader.now) (Ok c.in_ok-items.octets.now) (g.R.Reader.state c.read_part.new.reader)) c.length.ensures c.in_ok-items.ensures.exact)
    (subst (λ l. ContentsWalked (WalkAnswer g.T.Error.From.from_gives g.T.Decode-1.decode_answers) (ListWalked g.T.Error.From.from_gives g.T.Decode-2.decode_answers) (g.R.Reader.state c.args.reader.now).rules (g.R.Reader.state c.args.reader.now) (number l) c.in_ok-items.octets.now (Err c.in_err-read_items.field-0.0)) c.length.ensures
    (walked_inside (WalkAnswer g.T.Error.From.from_gives g.T.Decode-1.decode_answers) (ListWalked g.T.Error.From.from_gives g.T.Decode-2.decode_answers) (g.R.Reader.state c.args.reader.now) (number c.length.result) c.in_ok-items.octets.now (Err c.in_err-read_items.field-0.0) der
    (subst ((WalkAnswer g.T.Error.From.from_gives g.T.Decode-1.decode_answers) (Err c.in_err-read_items.field-0.0)) c.in_ok-items.ensures.part.state (c.in_err-read_items.ensures.exact reliable)))) refl)

pub returns-clause-exact : goal.returns-clause-exact
returns-clause-exact g c reliable =
    let der : (g.R.Reader.state c.args.reader.now).rules ≡ Der = sym (c.encoding_rules.ensures ∙ c.in_ok-items.ensures.same.rules) ∙ c.is_der.ensures.0 c.if-not-is_der.false in
    ListRead.list_read _
    (subst (λ l. Gives (read_slice_outcome (number l)) (g.R.Reader.state c.args.reader.now) (Ok c.in_ok-items.octets.now) (g.R.Reader.state c.read_part.new.reader)) c.length.ensures c.in_ok-items.ensures.exact)
    (subst (λ l. ContentsWalked (WalkAnswer g.T.Error.From.from_gives g.T.Decode-1.decode_answers) (ListWalked g.T.Error.From.from_gives g.T.Decode-2.decode_answers) (g.R.Reader.state c.args.reader.now).rules (g.R.Reader.state c.args.reader.now) (number l) c.in_ok-items.octets.now (Ok tt)) c.length.ensures (walked_inside (WalkAnswer g.T.Error.From.from_gives g.T.Decode-1.decode_answers) (ListWalked g.T.Error.From.from_gives g.T.Decode-2.decode_answers) (g.R.Reader.state c.args.reader.now) (number c.length.result) c.in_ok-items.octets.now (Ok tt) der (subst ((WalkAnswer g.T.Error.From.from_gives g.T.Decode-1.decode_answers) (Ok tt)) c.in_ok-items.ensures.part.state (c.in_ok-read_items.ensures.exact reliable)))) refl

pub invariant_of-result-clause-checked : goal.invariant_of-result-clause-checked
invariant_of-result-clause-checked g c = ∣ subst (IsListOf g.T.Item.item.valid g.T.Item.item.octets) c.in_ok-items.ensures.part.all c.in_ok-read_items.ensures.ok ∣₁
