use Rattle.std.proofs.Common.{◌∙◌, ℕ, List, arith, inr, subst, take}
use Rattle.path_search.specs.Chains.{IsPath}
use Rattle.path_search.specs.Places.{Finds, IsLeft, LeavesAll}
use Rattle.x509_build.proofs.JudgedLemmas.{not_empty}
use Rattle.x509_build.proofs.PassLemmas.{all_refused, builds_later, passed_on, passed_refused}
use Rattle.x509_build.specs.Builds.{IsFound, IsJudged, IsKept, IsRefused}
use Rattle.x509_build.specs.Pools.{Follows, IsWhole}
use Rattle.x509_build.proofs.next.next_path.Goals as goal

pub loop-length-preserved : goal.loop-length-preserved
loop-length-preserved c =
    let p = c.args.pool.now in
    let s = c.args.search.now in
    let mid = c.loop-length.search in
    let found = take c.in-Path.length c.next.new.room in
    let finds : Finds (IsPath (Follows p) (IsWhole p) s.count s.depth) mid.place c.loop-length.chain c.next.new.self.place c.next.new.room found =
    subst (λ (n : ℕ). Finds (IsPath (Follows p) (IsWhole p) n s.depth) mid.place c.loop-length.chain c.next.new.self.place c.next.new.room found) c.loop-length.invariant.0
    (subst (λ (d : ℕ). Finds (IsPath (Follows p) (IsWhole p) mid.count d) mid.place c.loop-length.chain c.next.new.self.place c.next.new.room found) c.loop-length.invariant.1 c.in-Path.ensures.step) in (
      c.next.ensures.count ∙ c.loop-length.invariant.0,
      c.next.ensures.depth ∙ c.loop-length.invariant.1,
      inr (omega (arith, c.in-Path.ensures.counted.1, c.loop-length.invariant.1, c.next.auto.room, c.loop-length.auto.chain)),
      passed_refused (IsFound p s) (IsRefused p) s.place c.args.chain.now mid.place c.loop-length.chain c.next.new.self.place c.next.new.room found c.loop-length.invariant.3 finds
          (_, subst (IsJudged p found) c.in-Some-Broken.field-0-is c.in-Some-Broken.ensures.1),
    )

pub returns-in-Ended-clause-built : goal.returns-in-Ended-clause-built
returns-in-Ended-clause-built c =
    let p = c.args.pool.now in
    let s = c.args.search.now in
    let mid = c.loop-length.search in
    all_refused (IsFound p s) (IsRefused p) s.place c.args.chain.now mid.place c.loop-length.chain c.loop-length.invariant.3
    (subst (λ (n : ℕ). (a : List ℕ) → IsPath (Follows p) (IsWhole p) n s.depth a → IsLeft mid.place c.loop-length.chain a → ⊥) c.loop-length.invariant.0
    (subst (λ (d : ℕ). (a : List ℕ) → IsPath (Follows p) (IsWhole p) mid.count d a → IsLeft mid.place c.loop-length.chain a → ⊥) c.loop-length.invariant.1 c.in-Ended.ensures.step))

pub returns-in-StepsUsed-clause-built : goal.returns-in-StepsUsed-clause-built
returns-in-StepsUsed-clause-built c =
    let p = c.args.pool.now in
    let s = c.args.search.now in
    let mid = c.loop-length.search in (
      passed_on (IsFound p s) (IsRefused p) s.place c.args.chain.now mid.place c.loop-length.chain c.next.new.self.place c.next.new.room c.loop-length.invariant.3
          (subst (λ (n : ℕ). LeavesAll (IsPath (Follows p) (IsWhole p) n s.depth) mid.place c.loop-length.chain c.next.new.self.place c.next.new.room) c.loop-length.invariant.0
          (subst (λ (d : ℕ). LeavesAll (IsPath (Follows p) (IsWhole p) mid.count d) mid.place c.loop-length.chain c.next.new.self.place c.next.new.room) c.loop-length.invariant.1 c.in-StepsUsed.ensures.step.0)),
      c.in-StepsUsed.ensures.step.1,
    )

pub returns-in-Some-Valid-clause-built : goal.returns-in-Some-Valid-clause-built
returns-in-Some-Valid-clause-built c =
    let p = c.args.pool.now in
    let s = c.args.search.now in
    let mid = c.loop-length.search in
    let found = take c.in-Path.length c.next.new.room in
    let finds : Finds (IsPath (Follows p) (IsWhole p) s.count s.depth) mid.place c.loop-length.chain c.next.new.self.place c.next.new.room found =
    subst (λ (n : ℕ). Finds (IsPath (Follows p) (IsWhole p) n s.depth) mid.place c.loop-length.chain c.next.new.self.place c.next.new.room found) c.loop-length.invariant.0
    (subst (λ (d : ℕ). Finds (IsPath (Follows p) (IsWhole p) mid.count d) mid.place c.loop-length.chain c.next.new.self.place c.next.new.room found) c.loop-length.invariant.1 c.in-Path.ensures.step) in
    builds_later (IsFound p s) (IsKept p) (IsRefused p) s.place c.args.chain.now mid.place c.loop-length.chain c.next.new.self.place c.next.new.room found
    c.loop-length.invariant.3 finds (subst (IsJudged p found) c.in-Some-Valid.field-0-is c.in-Some-Valid.ensures.1)

pub returns-in-Some-Empty-clause-built : goal.returns-in-Some-Empty-clause-built
returns-in-Some-Empty-clause-built c =
    let p = c.args.pool.now in
    let found = take c.in-Path.length c.next.new.room in
    absurd (not_empty p found c.in-Path.ensures.step.path.whole (subst (IsJudged p found) c.in-Some-Empty.field-0-is c.in-Some-Empty.ensures.1))
