use Rattle.std.proofs.Common.{◌≡◌, ◌++◌, ◌-◌, ◌+◌, List, ℕ, length, take, drop, arith, refl, ap, ◌∙◌, append_assoc, take_all}
use Rattle.std.proofs.lemmas.Slice.{put_mid-paste}
use Rattle.der_c_core.proofs.PartLemmas.{length_put, state_put}
use Rattle.der_c_core.proofs.writer.part.put_length.Goals as goal

pub returns-clause-put : goal.returns-clause-put
returns-clause-put c =
    let r = c.requires in
    let w = c.args.writer.now in
    let octets : List ℕ = c.args.octets.now in
    let more : ℕ = length octets - 1 in
    let moved : List ℕ = c.move_contents.new.octets in
    let start : ℕ = c.args.start in
    let size : length octets ≡ start + more - (start - 1) = omega (arith, r.begun, r.some) in
    let pasted = put_mid-paste (start - 1) (start + more - (start - 1)) moved c.copy_from_slice.new.self octets (length octets) c.copy_from_slice.ensures.after size refl in
    let end : start - 1 + length octets ≡ start + more = omega (arith, r.begun, r.some) in
    let put = pasted ∙ ap (λ x. take (start - 1) moved ++ x ++ drop (start - 1 + length octets) moved) (take_all (length octets) octets (omega arith))
    ∙ append_assoc (take (start - 1) moved) octets (drop (start - 1 + length octets) moved) ∙ ap (λ k. take (start - 1) moved ++ (octets ++ drop k moved)) end in
    let both = length_put w.octets.now start w.position more r.begun r.written (omega (arith, r.space, r.some)) octets moved _ (omega (arith, r.some)) c.move_contents.ensures.moved put in
    state_put w octets _ start more refl both.0 both.1 both.2
