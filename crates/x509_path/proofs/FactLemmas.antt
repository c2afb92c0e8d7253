-- Lemmas on two lists of facts of the same certificates: they agree in all that the rules ask. So an
-- answer that is not `Valid` refutes that the path keeps the rules.
use Rattle.std.proofs.Common.{◌≡◌, ◌≢◌, ◌↔◌, ◌⊎◌, ◌+◌, ◌&&◌, inl, inr, ℕ, Bool, true, false, not, List, [], ◌∷◌, ◌++◌, IsTrue, if◌then◌else◌, length, arith, refl, sym, ap, ap₂, subst, ◌∙◌}
use Rattle.std.proofs.lemmas.Grind.{not_there}
use Rattle.path_rules.specs.Path.{Asks, HasRoom, IsAnswer, IsFault, IsKnownAuthority, IsPath, KeepRules, Keeps, intermediates, issues, weight}
use Rattle.path_rules.specs.declared.answer.Answer.{Answer}
use Rattle.path_rules.specs.declared.answer.Answer.TheVariants.{Broken, Empty, Valid}
use Rattle.path_rules.specs.declared.facts.Facts.{Facts}
use Rattle.path_rules.specs.declared.fault.Fault.{Fault}
use Rattle.path_rules.specs.declared.rule.Rule.{Rule}
use Rattle.path_rules.specs.declared.rule.Rule.TheVariants as rule
use Rattle.x509.specs.declared.asn1.tbs_certificate.TbsCertificate.{TbsCertificate}
use Rattle.x509_names.specs.declared.matching.verdict.Verdict.{Verdict}
use Rattle.x509_names.specs.declared.matching.verdict.Verdict.TheVariants.{Permitted}
use Rattle.x509_path.proofs.SignedLemmas.{some_certificate}
use Rattle.x509_path.specs.CertificateFacts.{AreFacts, IsPermittedAs, part}
use Rattle.x509_path.specs.Judgements.{IsRefused}
use Rattle.x509_path.specs.Names.{HasPathVerdict}
use Rattle.x509_path.specs.Paths.{AreFactsFrom, HasPath, IsAnswered, IsValidPath, Verify}
use Rattle.x509_path.specs.declared.certificate.PathCertificate.{PathCertificate}
use Rattle.x509_path.specs.declared.inputs.Inputs.{Inputs}
use Rattle.x509_path.specs.declared.refusal.Refusal.{Refusal}
use Rattle.x509_path.specs.declared.refusal.Refusal.TheVariants as refusal

-- facts that agree in what the rules ask
record AreAlike (f g : Facts) : Type 0 where
  pub algorithms : f.has_same_algorithms ≡ g.has_same_algorithms
  pub version : f.version ≡ g.version
  pub identifiers : f.has_unique_identifiers ≡ g.has_unique_identifiers
  pub extensions : f.has_extensions ≡ g.has_extensions
  pub distinct : f.has_distinct_extensions ≡ g.has_distinct_extensions
  pub current : f.is_current ≡ g.is_current
  pub chained : f.is_chained ≡ g.is_chained
  pub permitted : f.is_permitted ≡ g.is_permitted
  pub self_issued : f.is_self_issued ≡ g.is_self_issued
  pub authority : f.is_authority ≡ g.is_authority
  pub other_means : f.is_known_authority ≡ g.is_known_authority
  pub limit : (n : ℕ) → HasRoom f.path_limit n → HasRoom g.path_limit n
  pub signs : f.may_sign ≡ g.may_sign
  pub understood : f.is_understood ≡ g.is_understood

-- two answers to one question
same_bool : {P : Type 0} (b d : Bool) → IsTrue b ↔ P → IsTrue d ↔ P → b ≡ d
same_bool true true h k = refl
same_bool false false h k = refl
same_bool true false h k = sym (k.1 (h.0 refl))
same_bool false true h k = h.1 (k.0 refl)

known_alike : (f g : Facts) → AreAlike f g → IsKnownAuthority f → IsKnownAuthority g
known_alike f g a (inl h) = inl (sym a.version ∙ h.0, sym a.authority ∙ h.1)
known_alike f g a (inr h) = inr ((λ e. h.0 (a.version ∙ e)), sym a.other_means ∙ h.1)

names_alike : (f g : Facts) (i : Bool) → AreAlike f g → ((i ≡ true) × (f.is_self_issued ≡ true)) ⊎ (f.is_permitted ≡ true) → ((i ≡ true) × (g.is_self_issued ≡ true)) ⊎ (g.is_permitted ≡ true)
names_alike f g i a (inl h) = inl (h.0, sym a.self_issued ∙ h.1)
names_alike f g i a (inr h) = inr (sym a.permitted ∙ h)

asks_alike : (r : Rule) (f g : Facts) (i : Bool) (n : ℕ) → AreAlike f g → Asks r f i n → Asks r g i n
asks_alike rule.SignatureAlgorithm f g i n a h = sym a.algorithms ∙ h
asks_alike rule.UniqueIdentifiers f g i n a h = λ e v. h (a.identifiers ∙ e) (a.version ∙ v)
asks_alike rule.ExtensionVersion f g i n a h = λ e. sym a.version ∙ h (a.extensions ∙ e)
asks_alike rule.DistinctExtensions f g i n a h = sym a.distinct ∙ h
asks_alike rule.Validity f g i n a h = sym a.current ∙ h
asks_alike rule.Chain f g i n a h = sym a.chained ∙ h
asks_alike rule.Names f g i n a h = names_alike f g i a h
asks_alike rule.Authority f g i n a h = λ e. known_alike f g a (h e)
asks_alike rule.PathLength f g i n a h = a.limit n h
asks_alike rule.Usage f g i n a h = λ e. sym a.signs ∙ h e
asks_alike rule.Extensions f g i n a h = sym a.understood ∙ h

-- facts that agree, one after the other
abbrev AreAllAlike : List Facts → List Facts → Type 0
AreAllAlike [] [] = Unit {0}
AreAllAlike [] (g ∷ gs) = ⊥
AreAllAlike (f ∷ fs) [] = ⊥
AreAllAlike (f ∷ fs) (g ∷ gs) = AreAlike f g × AreAllAlike fs gs

issues_alike : (fs gs : List Facts) → AreAllAlike fs gs → issues fs ≡ issues gs
issues_alike [] [] a = refl
issues_alike [] (g ∷ gs) a = absurd a
issues_alike (f ∷ fs) [] a = absurd a
issues_alike (f ∷ fs) (g ∷ gs) a = refl

weight_alike : (f g : Facts) (i j : Bool) → AreAlike f g → i ≡ j → weight f i ≡ weight g j
weight_alike f g i j a e = ap₂ (λ (b s : Bool). if b && not s then 1 else 0) e a.self_issued

intermediates_alike : (fs gs : List Facts) → AreAllAlike fs gs → intermediates fs ≡ intermediates gs
intermediates_alike [] [] a = refl
intermediates_alike [] (g ∷ gs) a = absurd a
intermediates_alike (f ∷ fs) [] a = absurd a
intermediates_alike (f ∷ fs) (g ∷ gs) a =
    ap₂ (λ (m n : ℕ). m + n) (weight_alike f g (issues fs) (issues gs) a.0 (issues_alike fs gs a.1)) (intermediates_alike fs gs a.1)

keeps_alike : (r : Rule) (f g : Facts) (fs gs : List Facts) → AreAlike f g → AreAllAlike fs gs → Keeps r f fs → Keeps r g gs
keeps_alike r f g fs gs a all h =
    subst (λ n. Asks r g (issues gs) n) (intermediates_alike fs gs all) (subst (λ i. Asks r g i (intermediates fs)) (issues_alike fs gs all) (asks_alike r f g (issues fs) (intermediates fs) a h))

kept_alike : (fs gs : List Facts) → AreAllAlike fs gs → KeepRules fs → KeepRules gs
kept_alike [] [] a h = h
kept_alike [] (g ∷ gs) a h = absurd a
kept_alike (f ∷ fs) [] a h = absurd a
kept_alike (f ∷ fs) (g ∷ gs) a h = ((λ r. keeps_alike r f g fs gs a.0 a.1 (h.0 r)), kept_alike fs gs a.1 h.1)

none_alike : (fs gs : List Facts) → AreAllAlike fs gs → gs ≡ [] → fs ≡ []
none_alike [] gs a e = refl
none_alike (f ∷ fs) [] a e = absurd a
none_alike (f ∷ fs) (g ∷ gs) a e = absurd (let wrong : g ∷ gs ≡ [] = e in cc)

path_alike : (fs gs : List Facts) → AreAllAlike fs gs → IsPath fs → IsPath gs
path_alike fs gs a h = ((λ e. h.0 (none_alike fs gs a e)), kept_alike fs gs a h.1)

-- a certificate among others keeps the rules that all keep
kept_among : (before : List Facts) (c : Facts) (after : List Facts) → KeepRules (before ++ c ∷ after) → (r : Rule) → Keeps r c after
kept_among [] c after h = h.0
kept_among (d ∷ before) c after h = kept_among before c after h.1

fault_refutes : (fault : Fault) (p : List Facts) → IsFault fault p → KeepRules p → ⊥
fault_refutes fault p is all = is.broken.broken (kept_among is.before is.certificate is.after (subst KeepRules is.split all) fault.rule)

answer_refutes : (a : Answer) (p : List Facts) → IsAnswer a p → a ≢ Valid → IsPath p → ⊥
answer_refutes Valid p is other path = other refl
answer_refutes Empty p is other path = path.0 is
answer_refutes (Broken fault) p is other path = fault_refutes fault p is path.1

-- names have one verdict
module _ (one : (c : TbsCertificate) (before : List PathCertificate) (v w : Verdict) → HasPathVerdict c before v → HasPathVerdict c before w → v ≡ w) where
  permitted_alike : (c : TbsCertificate) (before : List PathCertificate) (b d : Bool) → IsPermittedAs b c before → IsPermittedAs d c before → b ≡ d
  permitted_alike c before b d h k =
      same_bool b d h.2 (subst (λ v. IsTrue d ↔ (v ≡ Permitted)) (one c before k.0 h.0 k.1 h.1) k.2)

  -- facts of the same certificate after the same others agree
  facts_alike : (i : Inputs) (before : List PathCertificate) (c : PathCertificate) (f g : Facts) → AreFacts i before c f → AreFacts i before c g → AreAlike f g
  facts_alike i before c f g h k =
      record {
        algorithms = same_bool f.has_same_algorithms g.has_same_algorithms h.algorithms k.algorithms;
        version = h.version ∙ sym k.version;
        identifiers = same_bool f.has_unique_identifiers g.has_unique_identifiers h.identifiers k.identifiers;
        extensions = same_bool f.has_extensions g.has_extensions h.extensions k.extensions;
        distinct = same_bool f.has_distinct_extensions g.has_distinct_extensions h.distinct k.distinct;
        current = same_bool f.is_current g.is_current h.current k.current;
        chained = same_bool f.is_chained g.is_chained h.chained k.chained;
        permitted = permitted_alike (part c) before f.is_permitted g.is_permitted h.permitted k.permitted;
        self_issued = same_bool f.is_self_issued g.is_self_issued h.self_issued k.self_issued;
        authority = same_bool f.is_authority g.is_authority h.authority k.authority;
        other_means = h.other_means ∙ sym k.other_means;
        limit = λ n room. (k.limit n).1 ((h.limit n).0 room);
        signs = same_bool f.may_sign g.may_sign h.signs k.signs;
        understood = same_bool f.is_understood g.is_understood h.understood k.understood;
      }

  all_alike : (i : Inputs) (before path : List PathCertificate) (fs gs : List Facts) → AreFactsFrom i before path fs → AreFactsFrom i before path gs → AreAllAlike fs gs
  all_alike i before [] [] [] h k = tt
  all_alike i before [] [] (g ∷ gs) h k = k
  all_alike i before [] (f ∷ fs) gs h k = absurd h
  all_alike i before (c ∷ cs) [] gs h k = absurd h
  all_alike i before (c ∷ cs) (f ∷ fs) [] h k = absurd k
  all_alike i before (c ∷ cs) (f ∷ fs) (g ∷ gs) h k =
      (facts_alike i before c f g h.0 k.0, all_alike i (before ++ c ∷ []) cs fs gs h.1 k.1)

  -- facts with another answer than `Valid` refute that there are facts with which the path keeps the rules
  pub other_refutes : (a : Answer) (i : Inputs) (path : List PathCertificate) → IsAnswered a i path → a ≢ Valid → HasPath i path → ⊥
  other_refutes a i path is other has =
      answer_refutes a is.0 is.2 other (path_alike has.0 is.0 (all_alike i [] path has.0 is.0 has.1 is.1) has.2)

  pub refused_rightly : (verify : Verify) (a : Answer) (i : Inputs) (path : List PathCertificate) → IsAnswered a i path → a ≢ Valid → IsValidPath verify i path → ⊥
  refused_rightly verify a i path is other valid = not_there valid.0 (λ has. other_refutes a i path is other has)

  -- so does a refusal
  pub refusal_refutes : (verify : Verify) (why : Refusal) (i : Inputs) (path : List PathCertificate) → IsRefused why i path → IsValidPath verify i path → ⊥
  refusal_refutes verify refusal.Empty i path is valid =
      let none : length path ≡ 0 = ap length is in
      absurd (omega (arith, none, some_certificate i path valid.0))
  refusal_refutes verify (refusal.Broken fault) i path is valid =
      refused_rightly verify (Broken fault) i path is (λ e. absurd (let wrong : Broken fault ≡ Valid = e in cc)) valid
