use Rattle.std.proofs.Common.{◌+◌, take, drop, sym, subst, arith, rules}
use Rattle.std.proofs.lemmas.List.{length-take-le, take_more}
use Rattle.path_search.proofs.ChainLemmas.{known, longer, no_chain}
use Rattle.path_search.proofs.LeftLemmas.{Left, cut_off, passed_back, split_at}
use Rattle.path_search.specs.Chains.{IsChain}
use Rattle.path_search.proofs.turn.trimmed.Goals as goal

pub loop-length-preserved : goal.loop-length-preserved
loop-length-preserved g c =
    let F = g.G.Candidates.follows c.args.candidates.now in
    let room = c.args.room.now in
    let i = c.loop-length.length in
    subst (IsChain F c.args.count) (sym (take_more room i _ (omega (arith, c.requires.fits))))
    (longer F c.args.count (take i room) _ c.loop-length.invariant (c.is_next.ensures.0 (search rules)))

pub returns-then-not-is_next-clause-left : goal.returns-then-not-is_next-clause-left
returns-then-not-is_next-clause-left g c = λ chain is.
    let F = g.G.Candidates.follows c.args.candidates.now in
    let room = c.args.room.now in
    let i = c.loop-length.length in
    let n = c.args.place.length in
    let level = c.args.place.level in
    let split = split_at room i n _ (omega (arith)) c.requires.fits in
    let size = length-take-le i room (omega (arith, c.requires.fits)) in (
      λ h. cut_off F c.args.count (take i room) (drop (i + 1) (take n room)) _ c.args.place.next c.after.result level chain is
          (λ next. let yes = c.is_next.ensures.1 next in let wrong = c.if-not-is_next.true in absurd (cc))
          (λ d lt. (c.after.ensures d lt).0) (subst (λ p. Left level p c.args.place.next chain) split h),
      λ h. subst (λ p. Left level p c.args.place.next chain) (sym split) (passed_back (take i room) (drop (i + 1) (take n room)) _ c.args.place.next c.after.result c.args.count level chain
          (omega (arith, size, c.args.place.within)) (known F c.args.count chain is) (λ d lt. (c.after.ensures d lt).1) h),
    )

pub loop-length-init : goal.loop-length-init
loop-length-init g c = no_chain (g.G.Candidates.follows c.args.candidates.now) c.args.count
