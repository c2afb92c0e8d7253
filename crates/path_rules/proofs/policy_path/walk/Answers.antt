use Rattle.std.proofs.Common.{◌≡◌, ◌-◌, ◌<◌, ◌≤◌, [], arith, length, subst, sym, take}
use Rattle.path_rules.proofs.WalkLemmas.{ends_after, entries_within, few_more, goes_on_after, issuers_more, last_split, no_room, no_room_end, onto_more, policy_fault_at}
use Rattle.path_rules.specs.Counters.{first_counters}
use Rattle.path_rules.specs.PolicyRules.{KeepIssuers, entries, onto}
use Rattle.path_rules.specs.States.{IsState}
use Rattle.path_rules.proofs.policy_path.walk.Goals as goal

pub returns-in-Broken : goal.returns-in-Broken
returns-in-Broken c =
    let p = c.args.path.now in
    let start = first_counters c.args.inputs.now (length p) in
    λ room _ _.
    policy_fault_at start c.args.inputs.now.allowed.now p c.loop-at.at _ c.in-Broken.rule _ (omega arith) (goes_on_after p c.loop-at.at (omega arith)) c.loop-at.invariant.kept
    (c.in-Broken.ensures.passed start (onto [] (take c.loop-at.at p)) c.loop-at.invariant.is)

pub returns-in-NoRoom : goal.returns-in-NoRoom
returns-in-NoRoom c =
    let p = c.args.path.now in
    λ room one other.
    no_room c.loop-at.state.count _ (entries (take c.loop-at.at p)) (entries p) (length c.loop-at.expected) (length c.loop-at.nodes) room c.in-NoRoom.ensures.fits c.loop-at.invariant.few
    (entries_within p c.loop-at.at _ (omega arith)) (omega arith) (omega arith)

pub loop-at-preserved : goal.loop-at-preserved
loop-at-preserved c =
    let p = c.args.path.now in
    let i = c.loop-at.at in
    let start = first_counters c.args.inputs.now (length p) in
    let allowed = c.args.inputs.now.allowed.now in
    let within : i < length p = omega arith in
    let passed = c.in-Next.ensures.passed start (onto [] (take i p)) c.loop-at.invariant.is in
    record {
      fits = omega (arith, c.in-Next.ensures.fits.0);
      few = few_more p i _ c.loop-at.state.count c.in-Next.next.count within c.loop-at.invariant.few c.in-Next.ensures.fits.1;
      kept = issuers_more start allowed p i _ within c.loop-at.invariant.kept passed.0;
      is = subst (λ b. IsState start allowed b c.in-Next.next (take c.in-Next.next.count c.pass.new.expected)) (sym (onto_more p i _ within)) passed.1;
    }

pub returns-in-Valid : goal.returns-in-Valid
returns-in-Valid c =
    let p = c.args.path.now in
    let n = length p - 1 in
    let start = first_counters c.args.inputs.now (length p) in
    let allowed = c.args.inputs.now.allowed.now in
    let at : c.loop-at.at ≡ n = omega arith in
    let ended = c.in-Valid.ensures.ended start (onto [] (take n p)) (subst (λ i. IsState start allowed (onto [] (take i p)) c.loop-at.state (take c.loop-at.state.count c.loop-at.expected)) at c.loop-at.invariant.is) in
    λ room _ _. (
      record {
        issuers = take n p;
        target = _;
        split = last_split p n _ (omega arith) (omega arith);
        issuers_keep = subst (λ i. KeepIssuers start allowed [] (take i p)) at c.loop-at.invariant.kept;
        target_keeps = ended.0;
      },
      ended.1,
    )

pub returns-in-Broken-end : goal.returns-in-Broken-end
returns-in-Broken-end c =
    let p = c.args.path.now in
    let n = length p - 1 in
    let start = first_counters c.args.inputs.now (length p) in
    let allowed = c.args.inputs.now.allowed.now in
    let at : c.loop-at.at ≡ n = omega arith in
    λ room _ _.
    policy_fault_at start allowed p n _ c.in-Broken-end.rule _ (omega arith) (ends_after p n (omega arith)) (subst (λ i. KeepIssuers start allowed [] (take i p)) at c.loop-at.invariant.kept)
    (c.in-Broken-end.ensures.ended start (onto [] (take n p)) (subst (λ i. IsState start allowed (onto [] (take i p)) c.loop-at.state (take c.loop-at.state.count c.loop-at.expected)) at c.loop-at.invariant.is))

pub returns-in-NoRoom-end : goal.returns-in-NoRoom-end
returns-in-NoRoom-end c =
    let p = c.args.path.now in
    let n = length p - 1 in
    let at : c.loop-at.at ≡ n = omega arith in
    let few : c.loop-at.state.count ≤ entries (take n p) = subst (λ i. c.loop-at.state.count ≤ entries (take i p)) at c.loop-at.invariant.few in
    λ room one other.
    no_room_end c.loop-at.expected c.loop-at.state.count _ (entries (take n p)) (entries p) (length c.loop-at.nodes) room c.in-NoRoom-end.ensures.fits c.loop-at.invariant.fits few
    (entries_within p n _ (omega arith)) (omega arith)
