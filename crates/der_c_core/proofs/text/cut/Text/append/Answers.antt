use Rattle.std.proofs.Common.{◌≡◌, ◌+◌, ◌-◌, ℕ, List, min, take, length, refl, arith, rules, sym, ap, ◌∙◌, length-take-le}
use Rattle.std.proofs.lemmas.Slice.{put_mid-paste}
use Rattle.der_c_core.proofs.TextLemmas.{text_put}
use Rattle.der_c_core.proofs.text.cut.Text.append.Goals as goal

pub returns : goal.returns
returns c =
    let t = c.args.self.now in
    let text : List ℕ = c.args.s.now in
    let taken : ℕ = c.min-taken.result in
    let copied : List ℕ = c.copy_from_slice.new.self in
    let least : taken ≡ min (length text) (length t.octets.now - t.count) = search rules in
    let is : copied ≡ take taken text = search rules in
    let size : taken ≡ length copied = sym (ap length is ∙ length-take-le taken text (omega (arith, least))) in
    text_put t _ text copied taken refl least is (put_mid-paste t.count (t.count + taken - t.count) t.octets.now copied copied taken refl (omega arith) size) refl
