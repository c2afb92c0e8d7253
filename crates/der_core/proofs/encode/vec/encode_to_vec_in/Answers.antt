use Rattle.std.proofs.Common.{arith, ◌≡◌, ◌-◌, ℕ, List, length, take, length-drop, drop, Ok, Err, sym, ap, ◌∙◌, refl}
use Rattle.std.proofs.lemmas.List.{take_rest}
use Rattle.std.proofs.lemmas.Result.{err_from_is_err_and}
use Rattle.der_base.specs.Length.{number, definite_length}
use Rattle.der_core.specs.Encode.{no_size, no_memory, written}
use Rattle.der_core.proofs.encode.vec.encode_to_vec_in.Goals as goal

pub returns-in_err-count-clause-exact : goal.returns-in_err-count-clause-exact
returns-in_err-count-clause-exact g c =
    let p = err_from_is_err_and c.from_residual.result c.from_residual.ensures.1 in
    rw (p.1, p.2) (no_size _ c.in_err-count.ensures.refused refl)

pub returns-in-Err-clause-exact : goal.returns-in-Err-clause-exact
returns-in-Err-clause-exact g c =
    let s = c.in-Some.ensures in
    let b = c.len-before.ensures in
    let h = c.in_ok-count.ensures.ok in
    no_memory h.len h.sized (omega (arith, s.0, h.same, b)) (ap Err c.to_error-in-Err.ensures)

pub returns-in-Err-fill-clause-exact : goal.returns-in-Err-fill-clause-exact
returns-in-Err-fill-clause-exact g c =
    let x = c.in-Err-fill.ensures.exact in
    let s = c.in-Some.ensures in
    let b = c.len-before.ensures in
    let h = c.in_ok-count.ensures.ok in
    let d : List ℕ = c.deref_mut.result.now in
    let len = c.deref_mut.ensures.len in
    let size = c.in-Ok.ensures.len in
    let space : length (take (length d - c.len-before.result) (drop c.len-before.result d)) ≡ number h.len = ap length (take_rest d c.len-before.result) ∙ length-drop c.len-before.result d ∙ omega (arith, len, size, s.1, h.same) in
    written h.len _ x.0 (Err c.in-Err-fill.error) x.1 h.sized (omega (arith, s.0, h.same, b)) space x.2 refl

pub returns-in-Ok-fill-clause-exact : goal.returns-in-Ok-fill-clause-exact
returns-in-Ok-fill-clause-exact g c =
    let x = c.in-Ok-fill.ensures.exact in
    let s = c.in-Some.ensures in
    let b = c.len-before.ensures in
    let h = c.in_ok-count.ensures.ok in
    let d : List ℕ = c.deref_mut.result.now in
    let len = c.deref_mut.ensures.len in
    let size = c.in-Ok.ensures.len in
    let space : length (take (length d - c.len-before.result) (drop c.len-before.result d)) ≡ number h.len = ap length (take_rest d c.len-before.result) ∙ length-drop c.len-before.result d ∙ omega (arith, len, size, s.1, h.same) in
    written h.len _ x.0 (Ok tt) x.1 h.sized (omega (arith, s.0, h.same, b)) space x.2
    (ap Ok (c.new.ensures ∙ ap definite_length (sym h.same)))
