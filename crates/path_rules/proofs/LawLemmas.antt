-- Lemmas for the laws: a fault refutes a path, and the steps of the RFC agree with its definition.
use Rattle.std.proofs.Common.{◌-◌, ◌≡◌, ◌≢◌, ◌↔◌, ◌⊎◌, ◌+◌, ◌≤◌, ◌&&◌, ℕ, Bool, true, false, not, List, [], ◌∷◌, ◌++◌, length, Option, Some, None, refl, sym, subst, arith, inl, inr, if◌then◌else◌}
use Rattle.path_rules.specs.Machine.{Accepts, AcceptsFrom, IsOfProfile, IsSound, MayIssue, Takes, limited}
use Rattle.path_rules.specs.Path.{Asks, HasRoom, IsAnswer, IsFault, IsPath, KeepRules, Keeps, intermediates, issues, weight}
use Rattle.path_rules.specs.declared.answer.Answer.{Answer}
use Rattle.path_rules.specs.declared.answer.Answer.TheVariants.{Broken, Empty, Valid}
use Rattle.path_rules.specs.declared.facts.Facts.{Facts}
use Rattle.path_rules.specs.declared.fault.Fault.{Fault}
use Rattle.path_rules.specs.declared.rule.Rule.{Rule}
use Rattle.path_rules.specs.declared.rule.Rule.TheVariants as rule

-- a certificate among others keeps the rules that all keep
kept_among : (before : List Facts) (c : Facts) (after : List Facts) → KeepRules (before ++ c ∷ after) → (r : Rule) → Keeps r c after
kept_among [] c after h = h.0
kept_among (d ∷ before) c after h = kept_among before c after h.1

pub fault_refutes : (f : Fault) (p : List Facts) → IsFault f p → KeepRules p → ⊥
fault_refutes f p is all = is.broken.broken (kept_among is.before is.certificate is.after (subst KeepRules is.split all) f.rule)

pub answer_refutes : (a : Answer) (p : List Facts) → IsAnswer a p → a ≢ Valid → IsPath p → ⊥
answer_refutes Valid p is other path = other refl
answer_refutes Empty p is other path = path.0 is
answer_refutes (Broken f) p is other path = fault_refutes f p is path.1

-- what the steps ask, from the rules
profile_of : (c : Facts) (i : Bool) (n : ℕ) → ((r : Rule) → Asks r c i n) → IsOfProfile c
profile_of c i n h =
    record {
      algorithms = h rule.SignatureAlgorithm;
      identifiers = h rule.UniqueIdentifiers;
      extensions = h rule.ExtensionVersion;
      distinct = h rule.DistinctExtensions;
    }

last_sound : (c : Facts) (n : ℕ) → ((r : Rule) → Asks r c false n) → IsSound true c
last_sound c n h = record { validity = h rule.Validity; chain = h rule.Chain; names = names (h rule.Names); extensions = h rule.Extensions }
  where
    names : {A B : Type 0} → ((false ≡ true) × A) ⊎ B → ((true ≡ false) × A) ⊎ B
    names (inl x) = inl (sym x.0, x.1)
    names (inr x) = inr x

other_sound : (c : Facts) (n : ℕ) → ((r : Rule) → Asks r c true n) → IsSound false c
other_sound c n h = record { validity = h rule.Validity; chain = h rule.Chain; names = names (h rule.Names); extensions = h rule.Extensions }
  where
    names : {A B : Type 0} → ((true ≡ true) × A) ⊎ B → ((false ≡ false) × A) ⊎ B
    names (inl x) = inl (refl, x.1)
    names (inr x) = inr x

issue_of : (c : Facts) (n : ℕ) → ((r : Rule) → Asks r c true n) → MayIssue c
issue_of c n h = record { authority = h rule.Authority refl; usage = h rule.Usage refl }

wrong : {A : Type 0} → false ≡ true → A
wrong e = absurd (let no : false ≡ true = e in cc)

last_names : {A B : Type 0} → ((true ≡ false) × A) ⊎ B → ((false ≡ true) × A) ⊎ B
last_names (inl x) = inl (sym x.0, x.1)
last_names (inr x) = inr x

other_names : {A B : Type 0} → ((false ≡ false) × A) ⊎ B → ((true ≡ true) × A) ⊎ B
other_names (inl x) = inl (refl, x.1)
other_names (inr x) = inr x

-- the rules, from what the steps ask
last_of : (c : Facts) → IsOfProfile c → IsSound true c → (r : Rule) → Asks r c false 0
last_of c p s rule.SignatureAlgorithm = p.algorithms
last_of c p s rule.UniqueIdentifiers = p.identifiers
last_of c p s rule.ExtensionVersion = p.extensions
last_of c p s rule.DistinctExtensions = p.distinct
last_of c p s rule.Validity = s.validity
last_of c p s rule.Chain = s.chain
last_of c p s rule.Names = last_names s.names
last_of c p s rule.Authority = λ e. wrong e
last_of c p s rule.PathLength = λ k e. omega arith
last_of c p s rule.Usage = λ e. wrong e
last_of c p s rule.Extensions = s.extensions

both_of : (c : Facts) (n : ℕ) → IsOfProfile c → IsSound false c → MayIssue c → HasRoom c.path_limit n → (r : Rule) → Asks r c true n
both_of c n p s m room rule.SignatureAlgorithm = p.algorithms
both_of c n p s m room rule.UniqueIdentifiers = p.identifiers
both_of c n p s m room rule.ExtensionVersion = p.extensions
both_of c n p s m room rule.DistinctExtensions = p.distinct
both_of c n p s m room rule.Validity = s.validity
both_of c n p s m room rule.Chain = s.chain
both_of c n p s m room rule.Names = other_names s.names
both_of c n p s m room rule.Authority = λ _. m.authority
both_of c n p s m room rule.PathLength = room
both_of c n p s m room rule.Usage = λ _. m.usage
both_of c n p s m room rule.Extensions = s.extensions

-- what a pathLenConstraint and the room before allow, together
within_limited : (limit : Option ℕ) (room n : ℕ) → n ≤ limited limit room → (n ≤ room) × HasRoom limit n
within_limited None room n h = (h, λ k e. absurd (let no : None ≡ Some k = e in cc))
within_limited (Some l) room n h = (omega arith, λ k e. (let same : l ≡ k = cc in omega arith))

limited_within : (limit : Option ℕ) (room n : ℕ) → n ≤ room → HasRoom limit n → n ≤ limited limit room
limited_within None room n h has = h
limited_within (Some l) room n h has = (let small = has l refl in omega arith)

-- the room that a certificate takes is its weight
takes_weight : (c : Facts) (room next : ℕ) → Takes c room next → weight c true + next ≡ room
takes_weight c room next t = weigh c.is_self_issued t
  where
    weigh : (b : Bool) → ((b ≡ true) × (next ≡ room)) ⊎ ((b ≡ false) × (next + 1 ≡ room)) → (if true && not b then 1 else 0) + next ≡ room
    weigh true (inl t) = omega (arith, t.1)
    weigh true (inr t) = wrong (sym t.0)
    weigh false (inl t) = wrong t.0
    weigh false (inr t) = omega (arith, t.1)

room_taken : (c : Facts) (room n : ℕ) → weight c true + n ≤ room → (next : ℕ) × Takes c room next × (n ≤ next)
room_taken c room n h = take c.is_self_issued h
  where
    take : (b : Bool) → (if true && not b then 1 else 0) + n ≤ room → (next : ℕ) × (((b ≡ true) × (next ≡ room)) ⊎ ((b ≡ false) × (next + 1 ≡ room))) × (n ≤ next)
    take true h = (room, inl (refl, refl), omega arith)
    take false h = (room - 1, inr (refl, omega arith), omega arith)

-- the steps from a certificate on accept what keeps the rules and has room
pub accepted_kept : (room : ℕ) (p : List Facts) → AcceptsFrom room p → KeepRules p × (intermediates p ≤ room)
accepted_kept room [] h = absurd h
accepted_kept room (c ∷ []) h = ((last_of c h.0 h.1, tt), omega arith)
accepted_kept room (c ∷ d ∷ cs) h =
    let next = h.3.0 in
    let more = accepted_kept (limited c.path_limit next) (d ∷ cs) h.3.2 in
    let within = within_limited c.path_limit next (intermediates (d ∷ cs)) more.1 in
    let taken = takes_weight c room next h.3.1 in
    ((both_of c (intermediates (d ∷ cs)) h.0 h.1 h.2 within.1, more.0), omega (arith, taken, within.0))

pub kept_accepted : (room : ℕ) (c : Facts) (cs : List Facts) → KeepRules (c ∷ cs) → intermediates (c ∷ cs) ≤ room → AcceptsFrom room (c ∷ cs)
kept_accepted room c [] h small = (profile_of c false 0 h.0, last_sound c 0 h.0)
kept_accepted room c (d ∷ cs) h small =
    let t = room_taken c room (intermediates (d ∷ cs)) small in (
      profile_of c true (intermediates (d ∷ cs)) h.0,
      other_sound c (intermediates (d ∷ cs)) h.0,
      issue_of c (intermediates (d ∷ cs)) h.0,
      (t.0, t.1, kept_accepted (limited c.path_limit t.0) d cs h.1 (limited_within c.path_limit t.0 (intermediates (d ∷ cs)) t.2 (h.0 rule.PathLength))),
    )

weight_small : (c : Facts) (i : Bool) → weight c i ≤ 1
weight_small c i = small i c.is_self_issued
  where
    small : (i b : Bool) → (if i && not b then 1 else 0) ≤ 1
    small true true = omega arith
    small true false = omega arith
    small false b = omega arith

-- there are no more intermediate certificates than certificates
few : (p : List Facts) → intermediates p ≤ length p
few [] = omega arith
few (c ∷ cs) = omega (arith, weight_small c (issues cs), few cs)

pub steps_agree : (p : List Facts) → Accepts p ↔ IsPath p
steps_agree [] = (λ h. absurd h, λ h. h.0 refl)
steps_agree (c ∷ cs) = (
  λ h. (λ e. absurd (let no : c ∷ cs ≡ [] = e in cc), (accepted_kept (length (c ∷ cs)) (c ∷ cs) h).0),
  λ h. kept_accepted (length (c ∷ cs)) c cs h.1 (few (c ∷ cs)),
)
