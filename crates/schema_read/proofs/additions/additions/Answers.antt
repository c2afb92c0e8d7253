use Rattle.std.proofs.Common.{rules, ◌≡◌, ◌≢◌, ◌∙◌, ℕ, true, not, List, ◌++◌, sym, length, ap, arith}
use Rattle.der_base.specs.declared.encoding_rules.EncodingRules.{EncodingRules}
use Rattle.ber.specs.Header.{IsNext, end_header}
use Rattle.ber.specs.declared.header.Header.{Header}
use Rattle.schema_read.specs.Components.{IsTaken, IsAddition, AreComponents}
use Rattle.schema_read.specs.Types.{types_in}
use Rattle.schema_read.specs.Value.{IsValue, IsAny}
use Rattle.schema_read.proofs.AdditionLemmas.{addition_found, additions_end, none_taken, passed_on, taken_element, untaken_element}
use Rattle.schema_read.proofs.FindsLemmas.{finds_at, status_is, status_then}
use Rattle.schema_read.proofs.ItemLemmas.{none_at_end, goes_on, has_ended}
use Rattle.schema_read.proofs.ResultLemmas.{if_none, if_some}
use Rattle.schema_read.proofs.UntypedLemmas.{any_elements}
use Rattle.schema_read.proofs.ValueLemmas.{value_begins}
use Rattle.schema_read.proofs.VerdictLemmas.{worst_der, logs_is, logs_then}
use Rattle.schema_read.proofs.additions.additions.Goals.{then-additions-test+else-is_none, else-additions-test}
use Rattle.schema_read.proofs.additions.additions.Goals as goal

pub returns-then-not-is_insertion-clause-status : goal.returns-then-not-is_insertion-clause-status
returns-then-not-is_insertion-clause-status c left known size =
    additions_end (λ rules. AreComponents (IsValue (types_in c.args.schema.now.octets.now) c.args.depth) (IsAny c.args.depth) rules (types_in c.args.schema.now.octets.now) c.args.node left c.args.index known) c.args.opened.marked c.args.opened.beyond.now c.args.opened.inside.octets.now
    (λ rules x r e addition. let on : c.is_insertion.result ≡ true = c.is_insertion.ensures.1 addition.at in let off = c.if-not-is_insertion.true in absurd (cc))

pub additions-preserved : goal.additions-preserved
additions-preserved c =
    let now = c.additions.rest.now in
    let going = goes_on c.is_ended.result c.is_ended.ensures c.at.ensures.marked c.at.ensures.octets (search rules) in
    let point = c.is_insertion.ensures.0 (search rules) in
    record {
      status = λ left known size. status_is c.and-verdict.ensures (status_then (c.additions.invariant.status left known size)
          (addition_found (λ rules. AreComponents (IsValue (types_in c.args.schema.now.octets.now) c.args.depth) (IsAny c.args.depth) rules (types_in c.args.schema.now.octets.now) c.args.node left c.args.index known) c.args.opened.marked c.args.opened.beyond.now now c.in_ok-outcome.outcome.rest.now
          (λ rules r. none_taken (IsAny c.args.depth) (value_begins (types_in c.args.schema.now.octets.now) c.args.depth) c.args.node c.args.index point c.args.opened.marked c.args.opened.beyond.now now going untaken left c.args.index known (omega arith) (λ l g low high is. absurd (omega arith)) size rules r)
          (untaken_element (any_elements c.args.depth) c.args.node c.args.index point now untaken)
          (finds_at (IsAny c.args.depth) c.at-in-additions.ensures.octets c.in_ok-outcome.ensures.finds)));
      log = logs_is c.and-verdict.ensures (logs_then c.additions.invariant.log c.in_ok-outcome.ensures.log);
      end = c.in_ok-outcome.ensures.end ∙ c.additions.invariant.end;
      shorter = omega (arith, c.additions.invariant.shorter, c.in_ok-outcome.ensures.shorter, ap length c.at-in-additions.ensures.octets);
    }
  where
    untaken : (h : Header) → IsNext h c.additions.rest.now → h ≢ end_header → IsTaken (types_in c.args.schema.now.octets.now) c.args.node c.args.index h → ⊥
    untaken h next real taken =
        if_none c.find_next.result c.find_next.ensures.none (search rules) taken.index taken.by
        (c.first_taker-first.ensures.others taken.index taken.may.before taken.may.field.part.0) taken.may.field
        (passed_on c.first_taker-first.ensures.absent taken.may.after) h next real taken.begins

pub returns-clause-status : goal.returns-clause-status
returns-clause-status c left known size =
    status_is (sym (worst_der c.additions.verdict)) (status_then (c.additions.invariant.status left known size)
    (additions_end (λ rules. AreComponents (IsValue (types_in c.args.schema.now.octets.now) c.args.depth) (IsAny c.args.depth) rules (types_in c.args.schema.now.octets.now) c.args.node left c.args.index known) c.args.opened.marked c.args.opened.beyond.now now none))
  where
    now : List ℕ
    now = c.additions.rest.now

    none : (rules : EncodingRules) (x r : List ℕ) → now ≡ x ++ r → IsAddition (IsAny c.args.depth) rules (types_in c.args.schema.now.octets.now) c.args.node c.args.index x → ⊥
    none rules x r e addition =
        elim c.additions-test.branch [
          | then-additions-test+else-is_none w ↦
              let some = w.is_none.ensures ∙ ap not w.if-is_none.false in
              let found = if_some w.find_next.result w.find_next.ensures.found some in
              taken_element (any_elements c.args.depth) c.args.node c.args.index now found.1.3.1
              (record {
                index = found.0;
                by = found.1.0;
                may = record {
                  field = found.1.2;
                  before = λ l g low high is. c.first_taker-first.ensures.absent l g (omega (arith, found.1.1, low)) high is;
                  after = λ l g low high is. found.1.4 l g (omega (arith, c.first_taker-first.ensures.before, low)) high is;
                };
                begins = found.1.3.3;
              }) rules x r e addition
          | else-additions-test w ↦
              none_at_end (IsAny c.args.depth rules) (any_elements c.args.depth rules) c.args.opened.marked now x r
              (has_ended c.is_ended.result c.is_ended.ensures c.at.ensures.marked c.at.ensures.octets (search)) e addition.item
        ]
