-- Elements that are inside the octets.
use Rattle.std.proofs.Common.{◌≡◌, ℕ, zero, suc, ◌+◌, ◌<◌, ◌≤◌, ◌&&◌, not, nat_lt, Bool, true, false, List, [], ◌∷◌, ◌++◌, length, take, slice_set, refl}
use Rattle.std.proofs.lemmas.List.{take_more_set}
use Rattle.std.proofs.lemmas.Bool.{le-ltb}
use Rattle.schema_read.specs.Entries.{are_placed}
use Rattle.schema_read.specs.declared.entry.Entry.{Entry}

-- an element is inside so many octets
abbrev pub IsPlaced : ℕ → Entry → Type 0
IsPlaced n e = e.offset + e.header_len + e.contents_len ≤ n

and_first : (b c : Bool) → b && c ≡ true → b ≡ true
and_first true c on = refl
and_first false c on = absurd (cc)

and_second : (b c : Bool) → b && c ≡ true → c ≡ true
and_second true c on = on
and_second false c on = absurd (cc)

-- one more
pub placed_more : (n : ℕ) (es : List Entry) (e : Entry) → are_placed n es ≡ true → IsPlaced n e → are_placed n (es ++ e ∷ []) ≡ true
placed_more n [] e all here = rw (le-ltb n (e.offset + e.header_len + e.contents_len) here) refl
placed_more n (x ∷ xs) e all here =
    let b = not (nat_lt n (x.offset + x.header_len + x.contents_len)) in
    rw (and_first b (are_placed n xs) all) (placed_more n xs e (and_second b (are_placed n xs) all) here)

-- one that was added at the end of those which are kept
pub placed_added : (n : ℕ) (es : List Entry) (k : ℕ) (e : Entry) → k < length es → are_placed n (take k es) ≡ true → IsPlaced n e → are_placed n (take (k + 1) (slice_set es k e)) ≡ true
placed_added n es k e room all here = rw (take_more_set es k e room) (placed_more n (take k es) e all here)

-- one in the place of another, among those which are kept
pub placed_put : (n : ℕ) (es : List Entry) (k i : ℕ) (e : Entry) → are_placed n (take k es) ≡ true → IsPlaced n e → are_placed n (take k (slice_set es i e)) ≡ true
placed_put n [] k i e all here = all
placed_put n (x ∷ xs) zero i e all here = refl
placed_put n (x ∷ xs) (suc k) zero e all here =
    rw (le-ltb n (e.offset + e.header_len + e.contents_len) here) (and_second (not (nat_lt n (x.offset + x.header_len + x.contents_len))) (are_placed n (take k xs)) all)
placed_put n (x ∷ xs) (suc k) (suc i) e all here =
    let b = not (nat_lt n (x.offset + x.header_len + x.contents_len)) in
    rw (and_first b (are_placed n (take k xs)) all) (placed_put n xs k i e (and_second b (are_placed n (take k xs)) all) here)
