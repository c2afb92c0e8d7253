use Rattle.std.proofs.Common.{ℕ, List, ◌++◌, length, Ok, Err, sym, subst, ap, ◌∙◌}
use Rattle.std.proofs.lemmas.Result.{err_from_is_err_and}
use Rattle.der_base.specs.Length.{definite_length}
use Rattle.der_core.specs.Encode.{VecAnswer}
use Rattle.der_core.proofs.encode.vec.to_der_in.Goals as goal

pub returns-in_err-encode_to_vec_in-clause-exact : goal.returns-in_err-encode_to_vec_in-clause-exact
returns-in_err-encode_to_vec_in-clause-exact g c =
    let p = err_from_is_err_and c.from_residual.result c.from_residual.ensures.1 in
    let none = ap length c.new-out.ensures.items in
    rw (p.1, p.2)
    (subst (λ n. VecAnswer (g.T.Encode.size c.args.value.now) (g.T.Encode.encode_answers c.args.value.now) n (Err c.in_err-encode_to_vec_in.field-0.0)) none c.in_err-encode_to_vec_in.ensures.exact)

pub returns-clause-exact : goal.returns-clause-exact
returns-clause-exact g c =
    let none = ap length c.new-out.ensures.items in
    let whole = c.in_ok-encode_to_vec_in.ensures.ok ∙ ap (λ (l : List ℕ). l ++ g.T.Encode.encoding c.args.value.now) c.new-out.ensures.items in
    subst (λ r. VecAnswer (g.T.Encode.size c.args.value.now) (g.T.Encode.encode_answers c.args.value.now) 0 r) (ap Ok (c.in_ok-encode_to_vec_in.ensures.count ∙ ap (λ (l : List ℕ). definite_length (length l)) (sym whole)))
    (subst (λ n. VecAnswer (g.T.Encode.size c.args.value.now) (g.T.Encode.encode_answers c.args.value.now) n (Ok c.in_ok-encode_to_vec_in.field-0)) none c.in_ok-encode_to_vec_in.ensures.exact)
