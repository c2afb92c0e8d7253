use Rattle.std.proofs.Common.{◌≡◌, take, inl, inr, sym, subst, arith, rules}
use Rattle.std.proofs.lemmas.List.{length-take-le}
use Rattle.path_search.proofs.AheadLemmas.{ahead_self}
use Rattle.path_search.proofs.ChainLemmas.{front, known}
use Rattle.path_search.specs.Places.{IsLeft}
use Rattle.path_search.proofs.turn.take_turn.Goals as goal

pub returns-then-is_whole-clause-turn : goal.returns-then-is_whole-clause-turn
returns-then-is_whole-clause-turn g c = λ depth le.
    let F = g.G.Candidates.follows c.args.candidates.now in
    let room = c.args.room.now in
    let n = c.args.place.length in
    let whole : n ≡ c.args.place.level = search rules in
    let size = length-take-le n room (omega (arith, c.requires.fits, whole)) in
    let here : IsLeft c.args.place room (take n room) = inr (omega (arith, size, whole), ahead_self (take n room) c.args.place.next) in
    record {
      path = record {
        linked = c.requires.chain;
        whole = c.is_whole.ensures.0 (search rules);
        short = omega (arith, size, whole, le);
      };
      left = here;
      passed = c.passed-after.ensures.not whole (known F c.args.count (take n room) c.requires.chain);
      others = λ chain is. (
        λ h. c.passed-after.ensures.whole whole chain (known F c.args.count chain is.linked) h,
        λ h. elim h [
          | inl same ↦ subst (IsLeft c.args.place room) (sym same) here
          | inr left ↦ c.passed-after.ensures.left chain (known F c.args.count chain is.linked) left
        ],
      );
      shortest = λ chain is h. elim h [
        | inl longer ↦ omega (arith, longer, size, whole)
        | inr (same, ahead) ↦ omega (arith, same, size, whole)
      ];
    }

pub returns-then-place-clause-on : goal.returns-then-place-clause-on
returns-then-place-clause-on g c =
    front (g.G.Candidates.follows c.args.candidates.now) c.args.count c.args.room.now c.passed-after.result.length c.args.place.length c.passed-after.ensures.shorter c.requires.chain

pub returns-then-place-count-clause-on : goal.returns-then-place-count-clause-on
returns-then-place-count-clause-on g c =
    front (g.G.Candidates.follows c.args.candidates.now) c.args.count c.args.room.now c.passed.result.length c.args.place.length c.passed.ensures.shorter c.requires.chain
