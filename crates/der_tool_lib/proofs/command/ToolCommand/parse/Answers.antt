use Rattle.std.proofs.Common.{string_bytes, ◌↔◌, IsSome, sym, subst}
use Rattle.der_tool_lib.specs.ToolCommand.{IsCommand}
use Rattle.der_tool_lib.proofs.WordLemmas.{two_words, three_words}
use Rattle.der_tool_lib.proofs.command.ToolCommand.parse.Goals as goal

pub returns-in-len2-clause-found : goal.returns-in-len2-clause-found
returns-in-len2-clause-found c =
    let words = two_words string_bytes c.args.words.now c.name-item.result c.hex-item.result c.deref.result.now c.deref-in-len2.result.now c.in-len2.len_at_least c.in-len2.len_below c.name-item.is c.hex-item.is
    c.deref.ensures c.deref-in-len2.ensures in
    subst (λ it. IsSome c.of_two.result ↔ IsCommand it) (sym words) c.of_two.ensures.found

pub returns-in-len3-clause-found : goal.returns-in-len3-clause-found
returns-in-len3-clause-found c =
    let words = three_words string_bytes c.args.words.now c.first-item.result c.second-item.result c.third-item.result c.deref-in-len3.result.now c.deref-in-len3-2.result.now c.deref-in-len3-3.result.now
    c.in-len3.len_at_least c.in-len3.len_below c.first-item.is c.second-item.is c.third-item.is c.deref-in-len3.ensures c.deref-in-len3-2.ensures c.deref-in-len3-3.ensures in
    subst (λ it. IsSome c.of_three.result ↔ IsCommand it) (sym words) c.of_three.ensures.found
