use Rattle.x509_path.proofs.extensions.is_formed.Goals as goal

pub returns-then-value_keeps : goal.returns-then-value_keeps
returns-then-value_keeps c = (
  λ e. (c.value_keeps.ensures.0 c.if-value_keeps.true, c.value_keeps-then-value_keeps.ensures.0 e),
  λ h. c.value_keeps-then-value_keeps.ensures.1 h.1,
)
