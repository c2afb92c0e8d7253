use Rattle.std.proofs.Common.{◌≡◌, ◌∙◌, true, sym, refl, subst, Some}
use Rattle.schema_types.specs.declared.node.Node.{Node}
use Rattle.schema_types.specs.declared.node_kind.NodeKind.TheVariants.{Open}
use Rattle.schema_read.specs.Known.{known_in, IsUnknown}
use Rattle.schema_read.specs.Types.{types_in}
use Rattle.schema_read.proofs.typed.is_unknown.Goals as goal

pub returns-then-not-is_open : goal.returns-then-not-is_open
returns-then-not-is_open c = (
  (λ on. absurd (cc)),
  (λ is.
      let both : Some is.0 ≡ Some c.node_of-node.result = sym is.1 ∙ c.node_of-node.ensures.value in
      let it : is.0 ≡ c.node_of-node.result = cc in
      let on : c.is_open.result ≡ true = c.is_open.ensures.1 (subst (λ (n : Node). n.kind ≡ Open) it is.2) in
      let off = c.if-not-is_open.true in
      absurd (cc)),
)

pub returns-in-Some : goal.returns-in-Some
returns-in-Some c = (
  (λ on. absurd (cc)),
  (λ is.
      let both : Some is.0 ≡ Some c.node_of-node.result = sym is.1 ∙ c.node_of-node.ensures.value in
      let it : is.0 ≡ c.node_of-node.result = cc in
      absurd (subst (λ n. IsUnknown (types_in c.args.schema.now.octets.now) n (known_in c.args.known)) it is.3 _ c.in-Some.ensures.found)),
)

pub returns-in-None : goal.returns-in-None
returns-in-None c =
    let kind = c.is_open.ensures.0 c.if-not-is_open.false in
    ((λ on. (c.node_of-node.result, c.node_of-node.ensures.value, kind, c.in-None.ensures.none kind)), (λ is. refl))
