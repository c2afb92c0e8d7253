-- A reader inside nested parts (`AreAround`), and the nodes it still has to write (`NodesFrom`,
-- `WalksNodes`), how it reads one (`Advances`), and how the walk over a tree ended (`FillsNodes`).
use Rattle.std.specs.Prelude.{◌≡◌, ◌≢◌, ◌⊎◌, ℕ, zero, suc, ◌<◌, ◌≤◌, ◌==◌, List, ◌++◌, length, if◌then◌else◌, get_or, not}
use Rattle.der_core.specs.ReaderState.{ReaderState}
use Rattle.der_c_core.specs.Tree.{Stop, finished, Nodes, WalksTree}
use Rattle.der_c_core.specs.declared.tree.DerNode.{DerNode}
use Rattle.der_c_core.specs.ElementCalls.{ReadsElement}
use Rattle.der_c_core.specs.declared.error.DerError.{DerError}
use Rattle.der_c_core.specs.declared.element.DerElement.{DerElement}
use Rattle.der_c_core.specs.declared.tree.Filled.{Filled}
use Rattle.der_c_core.specs.declared.tree.around.Around.{Around}

-- the reader in the k-th part around it, just after the part inside that one; `ends` are the ends
-- of the parts around, `following` the positions where reading continues in them
abbrev pub following_part : List ℕ → List ℕ → ℕ → ReaderState → ReaderState
following_part ends following k s = record s
    { end = get_or ends k 0; position = get_or following k 0 }

-- the nodes that a reader inside k parts still writes: they stop inside the innermost part; or that
-- part is complete, and the nodes after it follow
abbrev pub NodesFrom : List ℕ → List ℕ → ℕ → ReaderState → List DerNode → Stop → Type 0
NodesFrom ends following zero s more stop = Nodes zero s more stop
NodesFrom ends following (suc k) s more stop =
    ((stop ≢ finished) × Nodes (suc k) s more stop)
    ⊎ ((inner : List DerNode) × (after : List DerNode) × (more ≡ inner ++ after)
    × Nodes (suc k) s inner finished
    × NodesFrom ends following k (following_part ends following k s) after stop)

abbrev pub NodesAround : Around → ReaderState → List DerNode → Stop → Type 0
NodesAround a = NodesFrom a.ends a.following a.level

-- the k-th part around lies in the input, and in the outermost part, and so does the innermost part
pub record IsAround (a : Around) (s : ReaderState) (k : ℕ) : Type 0 where
  pub ordered : get_or a.following k 0 ≤ get_or a.ends k 0
  pub in_input : get_or a.ends k 0 ≤ length s.input
  pub in_outermost : get_or a.ends k 0 ≤ get_or a.ends 0 0
  pub innermost : s.end ≤ get_or a.ends 0 0

abbrev pub AreAround : Around → ReaderState → Type 0
AreAround a s = (k : ℕ) → k < a.level → IsAround a s k

-- the end of the outermost part
abbrev pub outermost_end : Around → ReaderState → ℕ
outermost_end a s = if a.level == 0 then s.end else get_or a.ends 0 0

-- the states differ at most in position and end
abbrev pub Moved : ReaderState → ReaderState → Type 0
Moved s t = t ≡ record s { position = t.position; end = t.end }

-- walking from `a`, `s` to `b`, `t` writes these nodes, and keeps the parts around sound
pub record WalksNodes (a : Around) (s : ReaderState) (nodes : List DerNode) (b : Around)
    (t : ReaderState) : Type 0 where
  pub moved : Moved s t
  pub around : AreAround b t
  pub outermost : outermost_end b t ≡ outermost_end a s
  pub walks : (more : List DerNode) (stop : Stop) → NodesAround b t more stop
      → NodesAround a s (nodes ++ more) stop

-- an element is read, by a reader that moves on only if there is no error
abbrev pub Advances : ReaderState → DerError → DerElement → DerElement → ReaderState → Type 0
Advances s result old new u =
    (t : ReaderState) × ReadsElement s result old new t × (result.kind ≡ 0 → u ≡ t)

-- the reader after a walk that ended so, which had not failed before
abbrev pub ended_reader : Filled → ReaderState → ReaderState
ended_reader f s = record s { position = f.at; failed = not (f.error.kind == 0) }

-- the nodes are written, by a walk that ended so
pub record FillsNodes (s : ReaderState) (old : List DerNode) (f : Filled) (new : List DerNode)
    : Type 0 where
  pub within : f.at ≤ s.end
  pub walks : WalksTree s old f.error f.count new (ended_reader f s)
