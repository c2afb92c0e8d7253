use Rattle.std.proofs.Common.{◌≡◌, ℕ, ◌+◌, ◌/◌, ◌≤◌, Result, Ok, Err, List, length, ap, ◌∙◌, length-append, arith}
use Rattle.der.proofs.GrowthLemmas.{body_parts}
use Rattle.der.specs.Prelude.{Length, Error, Ber, rest_of}
use Rattle.der.specs.Scan.{IsTurned}
use Rattle.der.proofs.DecodeLemmas.{rest-beginning}
use Rattle.example_calls.proofs.message.indefinite_len.Goals as goal

-- a turn consumes two octets
bounded : (octets all : List ℕ) (r : Result Length Error) (before after : ℕ) → octets ≡ all → IsTurned octets r before after → after ≤ before + (length all / 2 + 1)
bounded octets all (Ok l) before after e (parts, (body, following, is, split), counted) = omega (arith, body_parts is, ap length split, ap length e, length-append body following, counted)
bounded octets all (Err x) before after e h = omega (arith, h.1, ap length e)

pub returns : goal.returns
returns g c = bounded _ c.args.octets.now c.scan_indefinite.result _ _ (ap rest_of c.in_ok-reader.ensures.ok ∙ rest-beginning Ber c.args.octets.now) c.scan_indefinite.ensures.turned
