-- Host names with an asterisk (RFC 9525, 6.3): which names one stands for (`StandsFor`), and whether
-- they are within the constraint of a dNSName (RFC 5280, 4.2.1.10): `AreAllBelow`, `IsSomeBelow`.
use Rattle.std.specs.Prelude.{◌≡◌, ◌≢◌, ◌⊎◌, ◌++◌, List, [], ℕ, slice_index, drop, EachIndex}
use Rattle.x509_names.specs.Hosts.{IsBelowHost, IsSameHost}

-- the asterisk is the whole first label, before a dot
abbrev pub HasAsterisk : List ℕ → Type 0
HasAsterisk name = (slice_index name 0 ≡ 42) × (slice_index name 1 ≡ 46)

-- one label: octets without a dot
abbrev pub IsLabel : List ℕ → Type 0
IsLabel octets = (octets ≢ []) × EachIndex octets (λ k. slice_index octets k ≢ 46)

-- these octets after one label, which is anything
abbrev pub IsLabelBefore : List ℕ → List ℕ → Type 0
IsLabelBefore rest host = (label : List ℕ) × IsLabel label × (host ≡ label ++ rest)

-- an asterisk stands for exactly one label. A name without one stands for itself alone
abbrev pub StandsFor : List ℕ → List ℕ → Type 0
StandsFor name host =
    (HasAsterisk name × IsLabelBefore (drop 1 name) host) ⊎ ((HasAsterisk name → ⊥) × (host ≡ name))

-- all names for which a name stands are within a constraint
abbrev pub AreAllBelow : List ℕ → List ℕ → Type 0
AreAllBelow base name = (host : List ℕ) → StandsFor name host → IsBelowHost base host

-- one of them is
abbrev pub IsSomeBelow : List ℕ → List ℕ → Type 0
IsSomeBelow base name = (host : List ℕ) × StandsFor name host × IsBelowHost base host

-- a name is one label before others octets, but for the case of letters
abbrev pub HasLabelBefore : List ℕ → List ℕ → Type 0
HasLabelBefore end name =
    (label : List ℕ) × (rest : List ℕ) × (name ≡ label ++ rest) × IsLabel label × IsSameHost rest end
