use Rattle.std.proofs.Common.{rules, inl, inr, Ok, Err, length, refl, sym, ap, subst, ◌∙◌, ◌≡◌, ◌^◌, ◌<◌}
use Rattle.std.proofs.lemmas.Result.{err_from_is_err_and}
use Rattle.der.specs.Error.{unexpected_tag}
use Rattle.der.specs.Prelude.{ReaderState, definite_length, slice_state}
use Rattle.der.proofs.TagAssertedLemmas.{tag_asserted, another_tag, other_tag_reported}
use Rattle.der_asn1.specs.AnyRef.{any_contents}
use Rattle.der_asn1.specs.DecodesAs.{other_tag, too_long, decoded}
use Rattle.der_asn1.proofs.DecodesAsLemmas.{made_head, inside_all, contents_ready, answers_inside, levels_inside_all, ends_so_succeeds, ended_so_finishes}
use Rattle.der_asn1.proofs.elements.any.AnyRef.decode_as.Goals as goal

pub returns-in_err-assert_eq-clause-exact : goal.returns-in_err-assert_eq-clause-exact
returns-in_err-assert_eq-clause-exact g c =
    let p = err_from_is_err_and c.from_residual.result c.from_residual.ensures.1 in
    let any = c.args.self.now in
    let another = another_tag any.tag c.fixed_tag.result c.in_err-assert_eq.field-0.0 c.assert_eq.result c.in_err-assert_eq.was c.assert_eq.ensures.expected_tag in
    let reported : c.in_err-assert_eq.field-0.0 ≡ unexpected_tag c.fixed_tag.result any.tag = other_tag_reported any.tag c.fixed_tag.result c.in_err-assert_eq.field-0.0 c.assert_eq.result c.in_err-assert_eq.was another c.assert_eq.ensures.other_tag in
    let said : c.in_err-assert_eq.field-0.0 ≡ unexpected_tag g.T.FixedTag.tag_is any.tag = reported ∙ ap (λ x. unexpected_tag x any.tag) c.fixed_tag.ensures in
    rw (p.1) (other_tag (λ same. another (same ∙ sym c.fixed_tag.ensures)) (subst (λ e. g.T.Error.From.from_gives e p.0) said p.2))

pub returns-in_err-reader-clause-exact : goal.returns-in_err-reader-clause-exact
returns-in_err-reader-clause-exact g c =
    let p = err_from_is_err_and c.from_residual-in_err-reader.result c.from_residual-in_err-reader.ensures.1 in
    let tagged = tag_asserted c.args.self.now.tag c.fixed_tag.result c.in_ok-assert_eq.field-0 c.assert_eq.result c.in_ok-assert_eq.was c.assert_eq.ensures.other_tag ∙ c.fixed_tag.ensures in
    rw (p.1) (too_long tagged (search rules) (subst (λ e. g.T.Error.From.from_gives e p.0) c.in_err-reader.ensures.refused p.2))

pub returns-in_err-value-clause-complete : goal.returns-in_err-value-clause-complete
returns-in_err-value-clause-complete g c v short is few =
    let p = err_from_is_err_and c.from_residual-in_err-value.result c.from_residual-in_err-value.ensures.1 in
    let any = c.args.self.now in
    let begun = c.in_ok-reader.ensures.ok in
    let inside = inside_all c.args.rules (any_contents any) begun c.input_len-length.ensures c.in_ok-enter_nested.ensures.exact in
    let counted = c.input_len-length.ensures ∙ ap (λ (x : ReaderState). definite_length x.end) begun in
    let made = made_head any.tag (length (any_contents any)) counted c.new-header.ensures in
    rw (p.1, p.2) (ends_so_succeeds {A = g.row.T.Denot} g.T.Error.DecodeError.out_of_memory g.T.ReadValue.allocates (Err c.in_err-value.field-0.0) (slice_state c.decode_value.new.reader)
    (c.in_err-value.ensures.complete v refl (contents_ready any c.args.rules inside made g.T.ReadValue.takes v is.taken) (levels_inside_all any c.args.rules inside made g.T.ReadValue.value_levels few)))

pub returns-in_err-value-clause-exact : goal.returns-in_err-value-clause-exact
returns-in_err-value-clause-exact g c =
    let p = err_from_is_err_and c.from_residual-in_err-value.result c.from_residual-in_err-value.ensures.1 in
    let any = c.args.self.now in
    let begun = c.in_ok-reader.ensures.ok in
    let inside = inside_all c.args.rules (any_contents any) begun c.input_len-length.ensures c.in_ok-enter_nested.ensures.exact in
    let counted = c.input_len-length.ensures ∙ ap (λ (x : ReaderState). definite_length x.end) begun in
    let made = made_head any.tag (length (any_contents any)) counted c.new-header.ensures in
    let tagged = tag_asserted any.tag c.fixed_tag.result c.in_ok-assert_eq.field-0 c.assert_eq.result c.in_ok-assert_eq.was c.assert_eq.ensures.other_tag ∙ c.fixed_tag.ensures in
    let short : length (any_contents any) < 2 ^ 32 = c.in_ok-reader.ensures.fits.0 refl in
    rw (p.1, p.2) (decoded (Err c.in_err-value.field-0.0) (slice_state c.decode_value.new.reader) tagged short (answers_inside any c.args.rules inside made g.T.DecodeValue.decode_value_answers (c.in_err-value.ensures.exact refl)) refl)

pub returns-in_err-finish-clause-complete : goal.returns-in_err-finish-clause-complete
returns-in_err-finish-clause-complete g c v short is few =
    let any = c.args.self.now in
    let begun = c.in_ok-reader.ensures.ok in
    let inside = inside_all c.args.rules (any_contents any) begun c.input_len-length.ensures c.in_ok-enter_nested.ensures.exact in
    let counted = c.input_len-length.ensures ∙ ap (λ (x : ReaderState). definite_length x.end) begun in
    let made = made_head any.tag (length (any_contents any)) counted c.new-header.ensures in
    let finished = ended_so_finishes g.T.Error.DecodeError.out_of_memory g.T.ReadValue.allocates c.in_ok-value.value (slice_state c.decode_value.new.reader)
    (c.in_ok-value.ensures.complete v refl (contents_ready any c.args.rules inside made g.T.ReadValue.takes v is.taken) (levels_inside_all any c.args.rules inside made g.T.ReadValue.value_levels few)) in
    absurd (let no : Err c.in_err-finish.field-0.0 ≡ Ok tt = c.in_err-finish.ensures.exact refl ∙ finished in cc)

pub returns-in_err-finish-clause-exact : goal.returns-in_err-finish-clause-exact
returns-in_err-finish-clause-exact g c =
    let p = err_from_is_err_and c.from_residual-in_err-finish.result c.from_residual-in_err-finish.ensures.1 in
    let any = c.args.self.now in
    let begun = c.in_ok-reader.ensures.ok in
    let inside = inside_all c.args.rules (any_contents any) begun c.input_len-length.ensures c.in_ok-enter_nested.ensures.exact in
    let counted = c.input_len-length.ensures ∙ ap (λ (x : ReaderState). definite_length x.end) begun in
    let made = made_head any.tag (length (any_contents any)) counted c.new-header.ensures in
    let tagged = tag_asserted any.tag c.fixed_tag.result c.in_ok-assert_eq.field-0 c.assert_eq.result c.in_ok-assert_eq.was c.assert_eq.ensures.other_tag ∙ c.fixed_tag.ensures in
    let short : length (any_contents any) < 2 ^ 32 = c.in_ok-reader.ensures.fits.0 refl in
    rw (p.1) (decoded (Ok c.in_ok-value.value) (slice_state c.decode_value.new.reader) tagged short (answers_inside any c.args.rules inside made g.T.DecodeValue.decode_value_answers (c.in_ok-value.ensures.exact refl))
    (inr (c.in_err-finish.field-0.0, sym (c.in_err-finish.ensures.exact refl), p.2)))

pub returns-clause-exact : goal.returns-clause-exact
returns-clause-exact g c =
    let any = c.args.self.now in
    let begun = c.in_ok-reader.ensures.ok in
    let inside = inside_all c.args.rules (any_contents any) begun c.input_len-length.ensures c.in_ok-enter_nested.ensures.exact in
    let counted = c.input_len-length.ensures ∙ ap (λ (x : ReaderState). definite_length x.end) begun in
    let made = made_head any.tag (length (any_contents any)) counted c.new-header.ensures in
    let tagged = tag_asserted any.tag c.fixed_tag.result c.in_ok-assert_eq.field-0 c.assert_eq.result c.in_ok-assert_eq.was c.assert_eq.ensures.other_tag ∙ c.fixed_tag.ensures in
    let short : length (any_contents any) < 2 ^ 32 = c.in_ok-reader.ensures.fits.0 refl in
    decoded (Ok c.in_ok-value.value) (slice_state c.decode_value.new.reader) tagged short (answers_inside any c.args.rules inside made g.T.DecodeValue.decode_value_answers (c.in_ok-value.ensures.exact refl))
    (inl (sym (c.in_ok-finish.ensures.exact refl), refl))
