-- Judgements on the paths of chains.
use Rattle.std.proofs.Common.{◌≡◌, ◌<◌, ◌≤◌, ℕ, false, true, List, [], ◌∷◌, Option, None, Some, IsSomeAnd, length, inl, inr, ap, arith}
use Rattle.path_rules.specs.declared.answer.Answer.TheVariants.{Empty}
use Rattle.path_rules.specs.declared.facts.Facts.{Facts}
use Rattle.x509_build.proofs.PathLemmas.{path_length}
use Rattle.x509_build.specs.Builds.{HasNoPath, IsJudged}
use Rattle.x509_build.specs.Pools.{IsWhole, inputs_of, path_of}
use Rattle.x509_build.specs.declared.pool.Pool.{Pool}
use Rattle.x509_path.specs.Paths.{AreFactsFrom, IsAnswered}
use Rattle.x509_path.specs.declared.certificate.PathCertificate.{PathCertificate}
use Rattle.x509_path.specs.declared.inputs.Inputs.{Inputs}

-- a whole chain has a candidate
pub whole_pos : (p : Pool) (chain : List ℕ) → IsWhole p chain → 0 < length chain
whole_pos p [] whole = let wrong : false ≡ true = whole in cc
whole_pos p (c ∷ cs) whole = omega arith

no_facts : (i : Inputs) (path : List PathCertificate) (facts : List Facts) → AreFactsFrom i [] path facts → facts ≡ [] → 0 < length path → ⊥
no_facts i [] facts are none pos = omega (arith, pos)
no_facts i (c ∷ cs) [] are none pos = are
no_facts i (c ∷ cs) (f ∷ fs) are none pos = let never : length (f ∷ fs) ≡ 0 = ap length none in omega (arith, never)

empty_path : (i : Inputs) (path : List PathCertificate) → IsAnswered Empty i path → 0 < length path → ⊥
empty_path i path (facts, are, none) pos = no_facts i path facts are none pos

-- the path of a whole chain is not empty
pub not_empty : (p : Pool) (chain : List ℕ) → IsWhole p chain → IsJudged p chain Empty → ⊥
unfolding IsJudged
not_empty p chain whole judged = judged_empty (inputs_of p chain) judged
  where
    judged_empty : (i : Option Inputs) → IsSomeAnd i (λ x. IsAnswered Empty x (path_of p chain)) → ⊥
    judged_empty None h = h
    judged_empty (Some i) h = empty_path i (path_of p chain) h (let pos = whole_pos p chain whole in omega (arith, path_length p chain pos, pos))

-- a whole chain is judged, if the rooms are not smaller
pub has_path : (p : Pool) (chain : List ℕ) (path facts : ℕ) → IsWhole p chain → length chain ≤ path → length chain ≤ facts → HasNoPath p chain path facts → ⊥
has_path p chain path facts whole first second (inl never) = never whole
has_path p chain path facts whole first second (inr (inl short)) = omega (arith, first, short)
has_path p chain path facts whole first second (inr (inr short)) = omega (arith, second, short)
