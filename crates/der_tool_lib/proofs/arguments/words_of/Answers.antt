use Rattle.std.proofs.Common.{◌≡◌, List, [], ◌∷◌, Option, Some, None, Result, Ok, Err, IfOk, String, ap, ◌∙◌, refl, arith}
use Rattle.std.specs.Iterator.{Yields}
use Rattle.std.specs.Vec.Iter.{into_iter_steps, into_iter_len}
use Rattle.std.specs.declared.vec.IntoIter.{IntoIter}
use Rattle.std.specs.declared.vec.Vec.{Vec}
use Rattle.std.proofs.lemmas.Iterator.{IsCollectResult}
use Rattle.der_tool_lib.specs.ToolCommand.{texts}
use Rattle.der_tool_lib.specs.Arguments.{AreWordsOf}
use Rattle.der_tool_lib.proofs.arguments.words_of.Goals as goal

-- an iterator with no items left yields none
none_left : {A B : Type 0} (xs : List A) (s t : IntoIter A B) → into_iter_len s ≡ 0 → Yields into_iter_steps s xs t → xs ≡ []
none_left [] s t none y = refl
none_left (x ∷ xs) s t none y = absurd (omega (arith, none, y.1.1))

collected : {A B Z E : Type 0} (s after : IntoIter (String A) B) (first : Option (String A)) (r : Result (Vec (String A) Z) E)
    → into_iter_steps s first after → IsCollectResult into_iter_steps after r → IfOk r (λ words. AreWordsOf s (texts words.items))
collected s after (Some x) (Ok v) step (xs, (t, yields, ends), is) =
    (x ∷ xs, ((ends tt).0, (t, (after, step, yields), (ends tt).1)), ap texts is.0)
collected s after None (Ok v) step (xs, (t, yields, ends), is) =
    ([], (after, (s, refl, step)), ap texts (is.0 ∙ none_left xs after t step.1 yields))
collected s after first (Err e) step is = tt

pub returns : goal.returns
returns c = collected c.args.arguments c.next-name.new.self c.next-name.result c.collect.result c.next-name.ensures.cases c.collect.ensures.ran
