-- Lemmas on the verdicts on the items of a list, with one item more.
use Rattle.std.proofs.Common.{List, [], ◌∷◌, ◌++◌, All, refl, ap, ◌∙◌, append_assoc}
use Rattle.std.proofs.lemmas.List.Elements.{All-cons, All-head, All-tail}
use Rattle.x509_names.specs.Judgements.{AreJudged, IsFirstRefused, first_refusal}
use Rattle.x509_names.specs.declared.matching.verdict.Verdict.{Verdict}
use Rattle.x509_names.specs.declared.matching.verdict.Verdict.TheVariants.{Excluded, Outside, Permitted, Unclear}

all_on : {A : Type 0} (P : A → Type 0) (vs : List A) (v : A) → All P vs → P v → All P (vs ++ v ∷ [])
all_on P [] v all h = All-cons P v [] h all
all_on P (w ∷ vs) v all h = All-cons P w (vs ++ v ∷ []) (All-head P w vs all) (all_on P vs v (All-tail P w vs all) h)

module _ {A : Type 0} (J : A → Verdict → Type 0) where
  -- the last item is the first that is not permitted
  last : (vs : List A) (v : A) (w : Verdict) → All (λ x. J x Permitted) vs → J v w → IsFirstRefused J (vs ++ v ∷ []) w
  last vs v w all h = record { before = vs; item = v; after = []; split = refl; permitted = all; verdict = h }

  -- an earlier one is
  earlier : (vs : List A) (v : A) (w : Verdict) → IsFirstRefused J vs w → IsFirstRefused J (vs ++ v ∷ []) w
  earlier vs v w f =
      record {
        before = f.before;
        item = f.item;
        after = f.after ++ v ∷ [];
        split = ap (λ x. x ++ v ∷ []) f.split ∙ append_assoc f.before (f.item ∷ f.after) (v ∷ []);
        permitted = f.permitted;
        verdict = f.verdict;
      }

  pub judged_on : (vs : List A) (v : A) (before w : Verdict) → AreJudged J vs before → J v w → AreJudged J (vs ++ v ∷ []) (first_refusal before w)
  judged_on vs v Permitted Permitted all h = all_on (λ x. J x Permitted) vs v all h
  judged_on vs v Permitted Outside all h = last vs v Outside all h
  judged_on vs v Permitted Excluded all h = last vs v Excluded all h
  judged_on vs v Permitted Unclear all h = last vs v Unclear all h
  judged_on vs v Outside w f h = earlier vs v Outside f
  judged_on vs v Excluded w f h = earlier vs v Excluded f
  judged_on vs v Unclear w f h = earlier vs v Unclear f
