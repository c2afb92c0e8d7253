use Rattle.std.proofs.Common.{rules, ◌≡◌, ◌∙◌, ◌++◌, length, drop, sym, ap, subst, append-nil}
use Rattle.std.proofs.lemmas.List.{take-append-drop}
use Rattle.schema_read.specs.Enclosed.{IsCounted, ending}
use Rattle.schema_write.proofs.PieceLemmas.{enclosed_ber}
use Rattle.schema_write.proofs.piece.definite.Goals as goal

pub returns-clause-piece : goal.returns-clause-piece
returns-clause-piece c =
    let after = c.args.after.now in
    let contents = c.split_at.result.0.now in
    let rest = c.split_at.result.1.now in
    let size : length contents ≡ c.args.count = search rules in
    let split : after ≡ contents ++ rest = sym (take-append-drop c.args.count after) ∙ ap (λ q. q ++ drop c.args.count after) (sym c.split_at.ensures.front) ∙ ap (λ q. contents ++ q) (sym c.split_at.ensures.back) in
    (enclosed_ber c.args.octets.now after contents rest c.requires.next c.requires.real c.requires.known
    (subst (λ l. IsCounted l contents) (sym c.requires.definite) size) c.requires.after
    (subst (λ l. after ≡ (contents ++ ending l) ++ rest) (sym c.requires.definite) (split ∙ ap (λ q. q ++ rest) (sym (append-nil contents))))).0
