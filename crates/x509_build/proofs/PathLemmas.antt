-- The path of a chain, one certificate after the other.
use Rattle.std.proofs.Common.{◌≡◌, ◌+◌, ◌-◌, ◌<◌, ◌≤◌, ℕ, List, [], ◌∷◌, ◌++◌, Some, length, map, get_or, take, refl, suc, sym, ap, subst, zero, ◌∙◌, arith}
use Rattle.std.proofs.lemmas.List.{get_or-map, get_or-reverse, get_or-take, length-map, length-reverse, length-take-le, take_all, take_more}
use Rattle.std.proofs.lemmas.Option.{slice_get-get_or}
use Rattle.x509_build.specs.Links.{last_of}
use Rattle.x509_build.specs.Pools.{certificate_at, path_of, subject_at}
use Rattle.x509_build.specs.declared.pool.Pool.{Pool}
use Rattle.x509_path.specs.declared.certificate.PathCertificate.{PathCertificate}

-- the last candidate of the front of a chain
last_taken : (chain : List ℕ) (m : ℕ) → 0 < m → m ≤ length chain → last_of (take m chain) ≡ Some (get_or chain (m - 1) 0)
last_taken chain m pos le =
    let size = length-take-le m chain le in
    slice_get-get_or (take m chain) (length (take m chain) - 1) 0 (omega (arith, size, pos))
    ∙ ap Some (ap (λ k. get_or (take m chain) (k - 1) 0) size ∙ get_or-take m chain (m - 1) 0 (omega (arith, pos)))

-- its certificate
subject_taken : (p : Pool) (chain : List ℕ) (m : ℕ) → m < length chain
    → subject_at p (last_of (take m chain)) ≡ get_or (p.target.now ∷ map (certificate_at p) (take (length chain - 1) chain)) m p.target.now
subject_taken p chain zero lt = refl
subject_taken p chain (suc j) lt =
    let front = take (length chain - 1) chain in
    let size = length-take-le (length chain - 1) chain (omega arith) in
    let before : suc j - 1 ≡ j = omega arith in
    ap (subject_at p) (last_taken chain (suc j) (omega arith) (omega (arith, lt)) ∙ ap (λ k. Some (get_or chain k 0)) before)
    ∙ (ap (certificate_at p) (sym (get_or-take (length chain - 1) chain j 0 (omega (arith, lt))))
    ∙ sym (get_or-map (certificate_at p) front j 0 p.target.now (omega (arith, size, lt))))

path_size : (p : Pool) (chain : List ℕ) → 0 < length chain → length (p.target.now ∷ map (certificate_at p) (take (length chain - 1) chain)) ≡ length chain
path_size p chain pos =
    let front = take (length chain - 1) chain in
    omega (arith, length-map front (certificate_at p), length-take-le (length chain - 1) chain (omega arith), pos)

pub path_length : (p : Pool) (chain : List ℕ) → 0 < length chain → length (path_of p chain) ≡ length chain
path_length p chain pos = length-reverse (p.target.now ∷ map (certificate_at p) (take (length chain - 1) chain)) ∙ path_size p chain pos

-- a path with one certificate more
pub path_more : (p : Pool) (chain : List ℕ) (i : ℕ) → i < length chain
    → take (i + 1) (path_of p chain) ≡ take i (path_of p chain) ++ subject_at p (last_of (take (length chain - 1 - i) chain)) ∷ []
path_more p chain i lt =
    let all = p.target.now ∷ map (certificate_at p) (take (length chain - 1) chain) in
    let size = path_size p chain (omega (arith, lt)) in
    let whole = path_length p chain (omega (arith, lt)) in
    take_more (path_of p chain) i p.target.now (omega (arith, whole, lt))
    ∙ ap (λ x. take i (path_of p chain) ++ x ∷ [])
    (get_or-reverse all i p.target.now (omega (arith, size, lt))
    ∙ (ap (λ k. get_or all (k - 1 - i) p.target.now) size ∙ sym (subject_taken p chain (length chain - 1 - i) (omega (arith, lt)))))

-- the whole path
pub path_whole : (p : Pool) (chain : List ℕ) (room : List PathCertificate) (i : ℕ) → 0 < length chain → i ≡ length chain → take i room ≡ take i (path_of p chain) → take (length chain) room ≡ path_of p chain
path_whole p chain room i pos end same =
    subst (λ n. take n room ≡ take n (path_of p chain)) end same ∙ take_all (length chain) (path_of p chain) (omega (arith, path_length p chain pos))
