-- Lemmas on the first item of a list without a property.
use Rattle.std.proofs.Common.{◌≡◌, ◌↔◌, ℕ, Bool, true, false, List, [], ◌∷◌, ◌++◌, Option, Some, None, is_some, not, All, refl, subst}
use Rattle.std.proofs.Math.Logic.{∥∥₁_map}
use Rattle.std.proofs.lemmas.Grind.{not_there}
use Rattle.std.proofs.lemmas.List.Elements.{All-head, All-tail}
use Rattle.der_asn1.specs.SequenceOf.{IsListOf}
use Rattle.x509.specs.Firsts.{FailsFirstAt, FirstFailing, IsFirstAt}

-- an item among others has the property that all have
pub at_middle : {A : Type 0} (P : A → Type 0) (before : List A) (item : A) (after : List A) → All P (before ++ item ∷ after) → P item
at_middle P [] item after h = All-head P item after h
at_middle P (x ∷ before) item after h = at_middle P before item after (All-tail P x (before ++ item ∷ after) h)

-- an item fails, so not all have the property
pub not_all : {A : Type 0} (P : A → Type 0) (items : List A) (place : ℕ) → FailsFirstAt P items place → All P items → ⊥
not_all P items place f h = f.stops (at_middle P f.before f.item f.after (subst (All P) f.split h))

-- there is no first item without the property exactly if all items have it
pub none_exactly : {A : Type 0} (valid : A → Type 0) (encoding : A → List ℕ) (octets : List ℕ) (P : List A → A → Type 0) (r : Option ℕ) (b : Bool)
    → is_some r ≡ not b → ∥ IsListOf valid encoding octets ∥₁ → ((l : IsListOf valid encoding octets) → FirstFailing (P l.items) l.items r)
    → (b ≡ true) ↔ ((l : IsListOf valid encoding octets) → All (P l.items) l.items)
none_exactly valid encoding octets P None true e there h = (λ _. h, λ _. refl)
none_exactly valid encoding octets P None false e there h = absurd (let no : false ≡ true = e in cc)
none_exactly valid encoding octets P (Some place) true e there h = absurd (let no : true ≡ false = e in cc)
none_exactly valid encoding octets P (Some place) false e there h = (
  λ f. absurd (let no : false ≡ true = f in cc),
  λ all. absurd (not_there there (λ l. not_all (P l.items) l.items place (h l) (all l))),
)

-- octets are a list all of whose items have the property
abbrev pub AllListed : {A : Type 0} (valid : A → Type 0) (encoding : A → List ℕ) (octets : List ℕ) → (List A → A → Type 0) → Type 0
AllListed valid encoding octets P = ∥ ((l : IsListOf valid encoding octets) × All (P l.items) l.items) ∥₁

-- there is such a list, and all its items have the property
pub all_listed : {A : Type 0} (valid : A → Type 0) (encoding : A → List ℕ) (octets : List ℕ) (P : List A → A → Type 0)
    → ∥ IsListOf valid encoding octets ∥₁ → ((l : IsListOf valid encoding octets) → All (P l.items) l.items) → AllListed valid encoding octets P
all_listed valid encoding octets P there h = ∥∥₁_map there (λ l. (l, h l))

-- an item of a list fails, so not all of its items have the property
pub some_refutes : {A : Type 0} (valid : A → Type 0) (encoding : A → List ℕ) (octets : List ℕ) (P : List A → A → Type 0) (place : ℕ)
    → ((l : IsListOf valid encoding octets) → FailsFirstAt (P l.items) l.items place) → AllListed valid encoding octets P → ⊥
some_refutes valid encoding octets P place h all = not_there all (λ x. not_all (P x.0.items) x.0.items place (h x.0) x.1)

-- there is no first item without the property exactly if octets are a list all of whose items have it
pub none_listed : {A : Type 0} (valid : A → Type 0) (encoding : A → List ℕ) (octets : List ℕ) (P : List A → A → Type 0) (r : Option ℕ) (b : Bool)
    → is_some r ≡ not b → ∥ IsListOf valid encoding octets ∥₁ → ((l : IsListOf valid encoding octets) → FirstFailing (P l.items) l.items r)
    → (b ≡ true) ↔ AllListed valid encoding octets P
none_listed valid encoding octets P None true e there h = (λ _. all_listed valid encoding octets P there h, λ _. refl)
none_listed valid encoding octets P None false e there h = absurd (let no : false ≡ true = e in cc)
none_listed valid encoding octets P (Some place) true e there h = absurd (let no : true ≡ false = e in cc)
none_listed valid encoding octets P (Some place) false e there h = (
  λ f. absurd (let no : false ≡ true = f in cc),
  λ all. absurd (some_refutes valid encoding octets P place h all),
)

-- there is no item with the second property where all have the first, which excludes it
pub not_first : {A : Type 0} (P Q : A → Type 0) (items : List A) (place : ℕ) → ((v : A) → P v → Q v → ⊥) → IsFirstAt P Q items place → All P items → ⊥
not_first P Q items place apart f h = apart f.item (at_middle P f.before f.item f.after (subst (All P) f.split h)) f.stops
