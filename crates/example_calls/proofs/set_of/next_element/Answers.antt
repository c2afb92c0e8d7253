use Rattle.std.proofs.Common.{refl, arith}
use Rattle.der.specs.Prelude.{slice_state}
use Rattle.example_calls.proofs.SetReadLemmas.{slice_sound, borrowed_string, string_read, string_counted, next_string_is_element, not_lacking}
use Rattle.example_calls.proofs.set_of.next_element.Goals as goal

pub returns-clause-ok : goal.returns-clause-ok
returns-clause-ok c = string_read c.decode.result c.requires.der c.decode.ensures.ok c.decode.ensures.exact

pub returns-clause-complete : goal.returns-clause-complete
returns-clause-complete c x more next =
    let reader = c.args.reader.now in
    let sound = slice_sound reader in
    let v = borrowed_string reader.bytes x (string_counted (slice_state reader) x more sound next) in
    not_lacking _ _ _ _ c.decode.result
    (c.decode.ensures.complete v _ refl c.requires.working (next_string_is_element (slice_state reader) v more sound c.requires.der next) (omega (arith, c.requires.shallow)))
