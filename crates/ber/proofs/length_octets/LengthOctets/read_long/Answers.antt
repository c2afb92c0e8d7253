use Rattle.std.proofs.Common.{◌≡◌, ◌<◌, ◌++◌, get_or, take, drop, sym, ◌∙◌, subst, arith}
use Rattle.std.proofs.lemmas.Bool.{leb-true, le-leb, eqb-false, not-true}
use Rattle.std.proofs.lemmas.List.{take-append-drop}
use Rattle.ber.specs.Fault.{few}
use Rattle.ber.proofs.ListLemmas.{front_below}
use Rattle.ber.proofs.LengthLemmas.{length_long, length_too_large}
use Rattle.ber.proofs.length_octets.LengthOctets.read_long.Goals as goal
use Rattle.ber.proofs.length_octets.LengthOctets.read_long.Goals.{then-digits-ne0, else-digits-ne0}

pub returns-then-digits-count-clause-fault : goal.returns-then-digits-count-clause-fault
returns-then-digits-count-clause-fault c b = rw c.truncated.ensures (few c.args.count c.args.digits.now c.requires.some c.requires.most c.if-digits-count.true)

pub returns-after-digits-ne0-clause-found : goal.returns-after-digits-ne0-clause-found
returns-after-digits-ne0-clause-found c =
    let digits = c.args.digits.now in
    let count = c.args.count in
    let whole : take count digits ++ drop count digits ≡ digits = take-append-drop count digits in
    length_long digits count c.in-Some.number c.requires.some c.requires.most c.if-digits-count.false c.if-digits-ne0.result
    (front_below (take count digits) (drop count digits) (λ i. subst (λ l. get_or l i 0 < 256) (sym whole) (omega (arith, c.type_inv.digits i))))
    c.in-Some.ensures.found c.in-Some.ensures.small
    (λ t. elim c.if-digits-ne0.branch [ then-digits-ne0 w ↦ (w.if-digits-ne0.true, leb-true 128 c.in-Some.number (sym w.result-is ∙ t)) | else-digits-ne0 w ↦ absurd (eqb-false (get_or digits 0 0) 0 (not-true _ (sym w.result-is ∙ t)) w.if-digits-ne0.false) ])
    (λ ne many. elim c.if-digits-ne0.branch [ then-digits-ne0 w ↦ w.result-is ∙ le-leb 128 c.in-Some.number many | else-digits-ne0 w ↦ absurd (ne w.if-digits-ne0.false) ])

pub returns-in-None-clause-fault : goal.returns-in-None-clause-fault
returns-in-None-clause-fault c b = rw c.new.ensures (length_too_large c.args.digits.now c.args.count 0 c.requires.some c.requires.most c.if-digits-count.false c.args.at c.in-None.ensures.none b)
