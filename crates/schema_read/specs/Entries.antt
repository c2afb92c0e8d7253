-- Lists of elements.
use Rattle.std.specs.Prelude.{ℕ, ◌+◌, ◌&&◌, not, nat_lt, Bool, true, List, [], ◌∷◌}
use Rattle.schema_read.specs.declared.entry.Entry.{Entry}

-- each is inside so many octets, with its header and its contents
abbrev pub are_placed : ℕ → List Entry → Bool
are_placed n [] = true
are_placed n (e ∷ es) =
    not (nat_lt n (e.offset + e.header_len + e.contents_len)) && are_placed n es
