use Rattle.std.proofs.Common.{◌≡◌, ◌-◌, ◌<◌, [], take, inl, inr, sym, subst, arith, rules, ◌∙◌}
use Rattle.std.proofs.lemmas.List.{length-take-le}
use Rattle.path_search.proofs.AheadLemmas.{beyond}
use Rattle.path_search.proofs.LeftLemmas.{Left, last_of, next_level, next_level_back, passed_back, passed_not, passed_tried, passed_whole}
use Rattle.path_search.proofs.turn.passed.Goals as goal

pub returns-then-place-eq0-clause-left : goal.returns-then-place-eq0-clause-left
returns-then-place-eq0-clause-left c = λ chain known h.
    let zero : c.args.place.length ≡ 0 = search rules in
    subst (λ n. Left c.args.place.level (take n c.args.room.now) c.args.place.next chain) (sym zero) (next_level_back c.args.place.level c.args.place.next chain h)

pub returns-then-place-eq0-clause-tried : goal.returns-then-place-eq0-clause-tried
returns-then-place-eq0-clause-tried c = λ lt ge chain known h.
    let zero : c.args.place.length ≡ 0 = search rules in
    elim (next_level c.args.place.level c.args.place.next chain (subst (λ n. Left c.args.place.level (take n c.args.room.now) c.args.place.next chain) zero h)) [
      | inl (same, ahead) ↦ absurd (beyond c.args.count c.args.place.next [] chain known ge (omega (arith, same, lt)) ahead)
      | inr left ↦ left
    ]

pub returns-clause-left : goal.returns-clause-left
returns-clause-left c = λ chain known h.
    let room = c.args.room.now in
    let n = c.args.place.length in
    let pos : 0 < n = search rules in
    let size = length-take-le (n - 1) room (omega (arith, c.requires.fits)) in
    subst (λ p. Left c.args.place.level p c.args.place.next chain) (sym (last_of room n _ pos c.requires.fits))
    (passed_back (take (n - 1) room) [] _ c.args.place.next c.after.result c.args.count c.args.place.level chain (omega (arith, size, pos, c.args.place.within)) known
    (λ d lt. (c.after.ensures d lt).1) h)

pub returns-clause-whole : goal.returns-clause-whole
returns-clause-whole c = λ whole chain known h.
    let room = c.args.room.now in
    let n = c.args.place.length in
    let pos : 0 < n = search rules in
    let size = length-take-le (n - 1) room (omega (arith, c.requires.fits)) in
    let last = last_of room n _ pos c.requires.fits in
    elim (passed_whole (take (n - 1) room) _ c.args.place.next c.after.result c.args.count c.args.place.level chain (omega (arith, size, pos, whole)) known
    (λ d lt. (c.after.ensures d lt).0) (subst (λ p. Left c.args.place.level p c.args.place.next chain) last h)) [
      | inl same ↦ inl (same ∙ sym last)
      | inr left ↦ inr left
    ]

pub returns-clause-tried : goal.returns-clause-tried
returns-clause-tried c = λ short ge chain known h.
    let room = c.args.room.now in
    let n = c.args.place.length in
    let pos : 0 < n = search rules in
    let size = length-take-le (n - 1) room (omega (arith, c.requires.fits)) in
    passed_tried (take (n - 1) room) _ c.args.place.next c.after.result c.args.count c.args.place.level chain (omega (arith, size, pos, short)) ge known
    (λ d lt. (c.after.ensures d lt).0) (subst (λ p. Left c.args.place.level p c.args.place.next chain) (last_of room n _ pos c.requires.fits) h)

pub returns-clause-not : goal.returns-clause-not
returns-clause-not c = λ whole known h.
    let room = c.args.room.now in
    let n = c.args.place.length in
    let pos : 0 < n = search rules in
    let last = last_of room n _ pos c.requires.fits in
    let size = length-take-le n room c.requires.fits in
    passed_not (take (n - 1) room) _ c.after.result c.args.count c.args.place.level (take n room) last (omega (arith, size, whole)) known (λ d lt. (c.after.ensures d lt).1) h
