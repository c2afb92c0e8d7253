use Rattle.std.proofs.Common.{◌<◌, length, take, sym, subst, arith, rules}
use Rattle.std.proofs.lemmas.List.{length-take-le, take_more_set}
use Rattle.path_search.proofs.ChainLemmas.{longer}
use Rattle.path_search.proofs.LeftLemmas.{Left, left_out, left_out_back, put_behind, put_behind_back}
use Rattle.path_search.specs.Chains.{IsChain}
use Rattle.path_search.proofs.turn.tried.Goals as goal

pub returns-then-is_next-clause-chain : goal.returns-then-is_next-clause-chain
returns-then-is_next-clause-chain g c =
    let F = g.G.Candidates.follows c.args.candidates.now in
    let n = c.args.place.length in
    let more = take_more_set c.args.room.now n c.args.place.next (omega (arith, c.requires.fits, c.requires.short)) in
    subst (IsChain F c.args.count) (sym more) (longer F c.args.count (take n c.args.room.now) c.args.place.next c.requires.chain (c.is_next.ensures.0 (search rules)))

pub returns-then-is_next-clause-left : goal.returns-then-is_next-clause-left
returns-then-is_next-clause-left g c = λ chain is.
    let n = c.args.place.length in
    let room = c.args.room.now in
    let level = c.args.place.level in
    let j = c.args.place.next in
    let fits : n < length room = omega (arith, c.requires.fits, c.requires.short) in
    let more = take_more_set room n j fits in
    let size = length-take-le n room (omega (arith, fits)) in (
      λ h. subst (λ p. Left level p 0 chain) (sym more) (put_behind (take n room) j level chain (omega (arith, size, c.requires.short)) h),
      λ h. put_behind_back (take n room) j level chain (subst (λ p. Left level p 0 chain) more h),
    )

pub returns-clause-left : goal.returns-clause-left
returns-clause-left g c = λ chain is.
    let F = g.G.Candidates.follows c.args.candidates.now in
    let n = c.args.place.length in
    let room = c.args.room.now in
    let level = c.args.place.level in
    let size = length-take-le n room (omega (arith, c.requires.fits, c.requires.short)) in (
      λ h. left_out F c.args.count (take n room) c.args.place.next level chain (omega (arith, size, c.requires.short)) is
          (λ next. let yes = c.is_next.ensures.1 next in let wrong = c.if-is_next.false in absurd (cc)) h,
      λ h. left_out_back (take n room) c.args.place.next level chain h,
    )
