use Rattle.std.proofs.Common.{◌≡◌, ◌∙◌, ◌-◌, ◌++◌, drop, sym, ap, subst}
use Rattle.std.proofs.lemmas.List.{take-append-drop}
use Rattle.schema_read.specs.Enclosed.{IsCounted, ending}
use Rattle.schema_write.proofs.PieceLemmas.{enclosed_ber}
use Rattle.schema_write.proofs.piece.indefinite.Goals as goal

pub returns-clause-piece : goal.returns-clause-piece
returns-clause-piece c =
    let after = c.args.after.now in
    let len = c.in-Ok.len in
    let body = c.split_at.result.0.now in
    let rest = c.split_at.result.1.now in
    let contents = c.split_at-2.result.0.now in
    let end = c.split_at-2.result.1.now in
    let whole : after ≡ body ++ rest = sym (take-append-drop len after) ∙ ap (λ q. q ++ drop len after) (sym c.split_at.ensures.front) ∙ ap (λ q. body ++ q) (sym c.split_at.ensures.back) in
    let inner : body ≡ contents ++ end = sym (take-append-drop (len - 2) body) ∙ ap (λ q. q ++ drop (len - 2) body) (sym c.split_at-2.ensures.front) ∙ ap (λ q. contents ++ q) (sym c.split_at-2.ensures.back) in
    let ended = c.is_ending.ensures.0 c.if-not-is_ending.false in
    (enclosed_ber c.args.octets.now after contents rest c.requires.next c.requires.real c.requires.known
    (subst (λ l. IsCounted l contents) (sym c.requires.indefinite) tt) c.requires.after
    (subst (λ l. after ≡ (contents ++ ending l) ++ rest) (sym c.requires.indefinite) (whole ∙ ap (λ q. q ++ rest) (inner ∙ ap (λ q. contents ++ q) ended)))).0
