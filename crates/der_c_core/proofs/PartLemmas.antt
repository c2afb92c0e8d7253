-- A length in place of the octet before the contents.
use Rattle.std.proofs.Common.{◌≡◌, ℕ, ◌+◌, ◌-◌, ◌^◌, ◌≤◌, min, List, length, take, drop, ◌++◌, refl, sym, ap, ◌∙◌, arith, length-drop, length-take-le, length-append, append_assoc, take-take}
use Rattle.std.proofs.lemmas.List.{take-append-drop, take-append-le, drop-drop, drop-take}
use lib.Seq.{paste, take_at, drop_at}
use Rattle.der_c_core.specs.Part.{IsMoved, put_state}
use Rattle.der_c_core.specs.CWriter.{writer_state}
use Rattle.der_c_core.specs.declared.writer.DerWriter.{DerWriter}

module _ (buffer : List ℕ) (start position more : ℕ) (begun : 1 ≤ start) (written : start ≤ position) (space : position + more ≤ length buffer) where
  -- the contents
  abbrev contents : List ℕ
  contents = take (position - start) (drop start buffer)

  pub paste_moves : IsMoved start position more buffer (paste buffer (start + more) (drop start buffer) (position - start))
  paste_moves =
      let front = take (start + more) buffer in
      let end : start + more + (position - start) ≡ position + more = omega (arith, written) in
      let size : length front ≡ start + more = length-take-le (start + more) buffer (omega (arith, written, space)) in
      let tail = contents ++ drop (start + more + (position - start)) buffer in
      let split : paste buffer (start + more) (drop start buffer) (position - start) ≡ front ++ tail = append_assoc front contents (drop (start + more + (position - start)) buffer) in (
        ap (take (start - 1)) split ∙ take-append-le (start - 1) front tail (omega (arith, size)) ∙ take-take (start - 1) (start + more) buffer (omega arith),
        ap (drop (start + more)) split ∙ drop_at front tail (start + more) size ∙ ap (λ k. contents ++ drop k buffer) end,
      )

  pub stays_there : more ≡ 0 → IsMoved start position more buffer buffer
  stays_there none = (
    refl,
    ap (λ k. drop k buffer) (omega (arith, none)) ∙ sym (take-append-drop (position - start) (drop start buffer))
        ∙ ap (λ r. contents ++ r) (drop-drop (position - start) start buffer ∙ ap (λ k. drop k buffer) (omega (arith, none, written))),
  )

  -- the contents with their length before them
  pub length_put : (octets moved put : List ℕ) → length octets ≡ more + 1 → IsMoved start position more buffer moved → put ≡ take (start - 1) moved ++ (octets ++ drop (start + more) moved)
      → (take (position + more) put ≡ take (start - 1) (take position buffer) ++ (octets ++ drop start (take position buffer)))
      × (drop (position + more) put ≡ drop more (drop position buffer)) × (length put ≡ length buffer)
  length_put octets moved put count is e =
      let front = take (start - 1) (take position buffer) in
      let inside = drop start (take position buffer) in
      let following = drop (position + more) buffer in
      let next : take (start - 1) moved ≡ front = is.0 ∙ sym (take-take (start - 1) position buffer (omega (arith, written))) in
      let whole : start + (position - start) ≡ position = omega (arith, written) in
      let within : contents ≡ inside = sym (drop-take start (position - start) buffer) ∙ ap (λ k. drop start (take k buffer)) whole in
      let rest : drop (start + more) moved ≡ inside ++ following = is.1 ∙ ap (λ x. x ++ following) within in
      let joined : put ≡ (front ++ (octets ++ inside)) ++ following =
      e ∙ ap (λ x. x ++ (octets ++ drop (start + more) moved)) next ∙ ap (λ x. front ++ (octets ++ x)) rest
      ∙ ap (λ x. front ++ x) (sym (append_assoc octets inside following)) ∙ sym (append_assoc front (octets ++ inside) following) in
      let all : length (take position buffer) ≡ position = length-take-le position buffer (omega (arith, space)) in
      let size : length (front ++ (octets ++ inside)) ≡ position + more =
      length-append front (octets ++ inside) ∙ ap (λ k. length front + k) (length-append octets inside)
      ∙ omega (arith, length-take-le (start - 1) (take position buffer) (omega (arith, all, written)), length-drop start (take position buffer), all, count, begun, written) in (
        ap (take (position + more)) joined ∙ take_at (front ++ (octets ++ inside)) following (position + more) size,
        ap (drop (position + more)) joined ∙ drop_at (front ++ (octets ++ inside)) following (position + more) size ∙ sym (drop-drop more position buffer),
        ap length joined ∙ length-append (front ++ (octets ++ inside)) following ∙ omega (arith, size, length-drop (position + more) buffer, space),
      )

-- the state of a writer whose contents were moved and whose length was put is the one specified
pub state_put : (w : DerWriter) (octets put : List ℕ) (start more : ℕ) → more ≡ length octets - 1
    → take (w.position + more) put ≡ take (start - 1) (take w.position w.octets.now) ++ (octets ++ drop start (take w.position w.octets.now))
    → drop (w.position + more) put ≡ drop more (drop w.position w.octets.now) → length put ≡ length w.octets.now
    → record { octets = take (w.position + more) put; following = drop (w.position + more) put; start = 0; stop = min (length put) (2 ^ 32 - 1); capacity = length put; failed = w.failed; reference = w.octets.ghost_name } ≡ put_state start octets (writer_state w)
state_put w octets put start more count front following size =
    let rest : drop more (drop w.position w.octets.now) ≡ drop (length octets - 1) (drop w.position w.octets.now) = ap (λ k. drop k (drop w.position w.octets.now)) count in
    let last : drop (w.position + more) put ≡ drop (length octets - 1) (drop w.position w.octets.now) = following ∙ rest in
    let least : min (length put) (2 ^ 32 - 1) ≡ min (length w.octets.now) (2 ^ 32 - 1) = ap (λ k. min k (2 ^ 32 - 1)) size in
    cc
