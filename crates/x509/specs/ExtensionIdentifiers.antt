-- The identifiers of extensions (RFC 5280, 4.2), as contents octets: `id_ce` and `id_pe`.
use Rattle.std.specs.Prelude.{ℕ, List, [], ◌∷◌}
use Rattle.der_asn1.specs.Arcs.{oid_octets}

-- the identifier 2.5.29.n (4.2.1)
abbrev pub id_ce : ℕ → List ℕ
id_ce n = oid_octets (2 ∷ 5 ∷ 29 ∷ n ∷ [])

-- the identifier 1.3.6.1.5.5.7.1.n (4.2.2)
abbrev pub id_pe : ℕ → List ℕ
id_pe n = oid_octets (1 ∷ 3 ∷ 6 ∷ 1 ∷ 5 ∷ 5 ∷ 7 ∷ 1 ∷ n ∷ [])
