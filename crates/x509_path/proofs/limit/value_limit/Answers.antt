use Rattle.std.proofs.Common.{◌≡◌, false, true, inl, inr}
use Rattle.x509_path.proofs.LimitLemmas.{found_limit, no_limit, short_if_read}
use Rattle.x509_path.proofs.limit.value_limit.Goals as goal

pub returns-in-Ok : goal.returns-in-Ok
returns-in-Ok c =
    found_limit c.args.value.now c.in-Ok.basic c.constraints_limit.result (short_if_read c.in-Ok.ensures.exact) c.in-Ok.ensures.ok.0 c.in-Ok.ensures.ok.1 c.constraints_limit.ensures

pub returns-in-Err : goal.returns-in-Err
returns-in-Err c n = (
  λ _ contents h. absurd (elim (c.in-Err.ensures.complete h.constraints h.short h.valid h.encoding) [ inl never ↦ (let f : false ≡ true = never in cc) | inr lacks ↦ (let f : false ≡ true = lacks.0 in cc) ]),
  λ _. no_limit n,
)
