use Rattle.std.proofs.Common.{[], ◌∷◌, ◌++◌, ◌∙◌, ap, sym, take, arith}
use Rattle.x509_build.proofs.PathLemmas.{path_more, path_whole}
use Rattle.x509_build.specs.Pools.{path_of, subject_at}
use Rattle.x509_build.proofs.room.put_path.Goals as goal

pub loop-at-preserved : goal.loop-at-preserved
loop-at-preserved c =
    let p = c.args.pool.now in
    let chain = c.args.chain.now in
    let at = c.loop-at.at in
    let one = c.subject_at.ensures ∙ ap (subject_at p) c.last_of-last.ensures in (
      c.put_one.ensures ∙ (ap (λ r. r ++ c.subject_at.result.now ∷ []) c.loop-at.invariant.0 ∙ (ap (λ x. take at (path_of p chain) ++ x ∷ []) one ∙ sym (path_more p chain at c.loop-at-test.true))),
      omega (arith, c.loop-at-test.true),
    )

pub returns : goal.returns
returns c = path_whole c.args.pool.now c.args.chain.now c.loop-at.room c.loop-at.at c.requires.ends (omega arith) c.loop-at.invariant.0
