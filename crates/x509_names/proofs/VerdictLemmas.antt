-- Lemmas on verdicts: what the answers for both lists of subtrees say of a name.
use Rattle.std.proofs.Common.{◌≡◌, ◌↔◌, ◌&&◌, ◌||◌, Bool, true, false, not, List, [], inl, inr, refl, if◌then◌else◌}
use Rattle.x509.specs.declared.asn1.general_name.GeneralName.{GeneralName}
use Rattle.x509.specs.declared.asn1.general_subtree.GeneralSubtree.{GeneralSubtree}
use Rattle.x509_names.specs.Constraints.{Answers, Concerns, Contains, ContainsPart, IsTally, IsUnclear}
use Rattle.x509_names.specs.Lists.{SomeItem}
use Rattle.x509_names.specs.Verdicts.{IsVerdict, verdict_of}
use Rattle.x509_names.specs.declared.matching.tally.Tally.{Tally}
use Rattle.x509_names.specs.declared.matching.verdict.Verdict.TheVariants.{Excluded, Outside, Permitted, Unclear}

never : {P : Type 0} → (false ≡ true) ↔ P → P → ⊥
never both p = (let wrong : false ≡ true = both.1 p in cc)

-- no answer is true for a list without subtrees
pub none_of : (n : GeneralName) → IsTally [] n (record { concerned = false; within = false; partly = false; unclear = false })
none_of n =
    record {
      list = record { items = []; are_valid = tt; joined = refl };
      answers = record {
        concerned = (λ e. (let wrong : false ≡ true = e in cc), λ h. absurd h);
        within = (λ e. (let wrong : false ≡ true = e in cc), λ h. absurd h);
        partly = (λ e. (let wrong : false ≡ true = e in cc), λ h. absurd h);
        unclear = (λ e. (let wrong : false ≡ true = e in cc), λ h. absurd h);
      };
    }

by_answers : (pu eu ew pc pw : Bool) (n : GeneralName) (ps es : List GeneralSubtree)
    → (pu ≡ true) ↔ SomeItem (IsUnclear n) ps → (eu ≡ true) ↔ SomeItem (IsUnclear n) es → (ew ≡ true) ↔ SomeItem (ContainsPart n) es
    → (pc ≡ true) ↔ SomeItem (Concerns n) ps → (pw ≡ true) ↔ SomeItem (Contains n) ps
    → IsVerdict ps es n (if pu || eu then Unclear else if pc && not pw then Outside else if ew then Excluded else Permitted)
by_answers true eu ew pc pw n ps es a b c d e = inl (a.0 refl)
by_answers false true ew pc pw n ps es a b c d e = inr (b.0 refl)
by_answers false false ew true false n ps es a b c d e = ((never a, never b), d.0 refl, never e)
by_answers false false true true true n ps es a b c d e = ((never a, never b), (λ _. e.0 refl), c.0 refl)
by_answers false false false true true n ps es a b c d e = ((never a, never b), (λ _. e.0 refl), never c)
by_answers false false true false pw n ps es a b c d e = ((never a, never b), (λ h. absurd (never d h)), c.0 refl)
by_answers false false false false pw n ps es a b c d e = ((never a, never b), (λ h. absurd (never d h)), never c)

pub judged : (p e : Tally) (n : GeneralName) (ps es : List GeneralSubtree) → Answers n ps p → Answers n es e → IsVerdict ps es n (verdict_of p e)
judged p e n ps es a b = by_answers p.unclear e.unclear e.partly p.concerned p.within n ps es a.unclear b.unclear b.partly a.concerned a.within
