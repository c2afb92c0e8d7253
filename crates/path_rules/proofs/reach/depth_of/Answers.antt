use Rattle.std.proofs.Common.{IsTrue}
use Rattle.path_rules.proofs.StateLemmas.{depth_is}
use Rattle.path_rules.proofs.reach.depth_of.Goals as goal

pub returns-clause-some : goal.returns-clause-some
returns-clause-some c =
    λ start before is. depth_is start c.args.allowed.now c.args.is_last c.args.facts.now before c.args.state _ c.args.expected.now c.args.room.now c.put_nodes.new.room _
    (IsTrue c.any_counts-counts.result) c.any_counts-counts.ensures c.are_both-has_any.ensures c.in_ok-count.ensures.some is
