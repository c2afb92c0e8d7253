-- What leaving a nested part restores: its `outer_end` and `outer_depth`.
use Rattle.std.specs.Prelude.{ℕ}
use Rattle.der_core.specs.declared.reader.position.Resumption.{Resumption}

abbrev pub outer_end : Resumption → ℕ
outer_end r = r.end

abbrev pub outer_depth : Resumption → ℕ
outer_depth r = r.depth

abbrev pub outer_place : Resumption → ℕ × ℕ
outer_place r = (r.end, r.depth)
