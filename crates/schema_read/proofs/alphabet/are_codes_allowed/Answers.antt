use Rattle.std.proofs.Common.{ℕ, List, [], ◌∷◌, refl, sym, subst}
use Rattle.schema_rules.specs.Characters.{characters_of}
use Rattle.schema_types.proofs.TestLemmas.{refuted}
use Rattle.schema_types.specs.Allowed.{IsLimitOf, unlimited}
use Rattle.schema_types.specs.Table.{Table}
use Rattle.schema_types.specs.declared.limit.Limit.{Limit}
use Rattle.schema_types.specs.declared.limit_kind.LimitKind.TheVariants.{Alphabet}
use Rattle.schema_types.specs.declared.span.Span.{Span}
use Rattle.schema_read.specs.Constraints.{AreAllowedCodes}
use Rattle.schema_read.specs.Types.{types_in}
use Rattle.schema_read.proofs.alphabet.are_codes_allowed.Goals as goal

pub returns-then-not-is_code_allowed : goal.returns-then-not-is_code_allowed
returns-then-not-is_code_allowed c = (
  λ e. absurd (cc),
  λ all. let left = subst (AreAllowedCodes (types_in c.args.schema.now.octets.now) c.args.limits) c.in-Some.ensures.some (c.loop-code.invariant.0 all) in
      absurd (refuted c.is_code_allowed.ensures c.if-not-is_code_allowed.true left.0),
)

pub loop-code-preserved : goal.loop-code-preserved
loop-code-preserved c = (
  λ all. (subst (AreAllowedCodes (types_in c.args.schema.now.octets.now) c.args.limits) c.in-Some.ensures.some (c.loop-code.invariant.0 all)).1,
  λ left. c.loop-code.invariant.1 (subst (AreAllowedCodes (types_in c.args.schema.now.octets.now) c.args.limits) (sym c.in-Some.ensures.some) (c.is_code_allowed.ensures.0 c.if-not-is_code_allowed.false, left)),
)

-- where there is no permitted alphabet, all characters are allowed
all_allowed : {t : Table} {limits : Span} → ((k : ℕ) (l : Limit) → IsLimitOf t limits Alphabet k l → ⊥) → (codes : List ℕ) → AreAllowedCodes t limits codes
all_allowed none [] = tt
all_allowed none (code ∷ codes) = (unlimited none, all_allowed none codes)

pub returns-then-not-has_alphabet : goal.returns-then-not-has_alphabet
returns-then-not-has_alphabet c = ((λ e. all_allowed (c.has_alphabet.ensures c.if-not-has_alphabet.true) (characters_of c.args.universal c.args.contents.now)), (λ all. refl))
