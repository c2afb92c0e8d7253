-- The result of reading a tree in C (`ReadsTree`): elements in order, each before those inside it
-- (`Nodes`), how they end (`Stop`), and the reader after them (`reader_after`).
use Rattle.std.specs.Prelude.{◌≡◌, ◌≢◌, ℕ, suc, ◌+◌, ◌<◌, ◌≤◌, true, false, List, [], ◌∷◌, ◌++◌, length, take, drop}
use Rattle.der_base.specs.Error.{error_at, error_of_kind}
use Rattle.der_base.specs.declared.error.ErrorKind.TheVariants.{Overlength, Failed}
use Rattle.der_core.specs.ReaderState.{ReaderState, reader_position, stopped_state}
use Rattle.der_c_core.specs.ErrorCode.{no_error, error_code}
use Rattle.der_c_core.specs.ElementCalls.{ReadsElement}
use Rattle.der_c_core.specs.declared.error.DerError.{DerError}
use Rattle.der_c_core.specs.declared.element.DerElement.{DerElement}
use Rattle.der_c_core.specs.declared.tree.DerNode.{DerNode}

-- the node of an element that is inside `level` others
abbrev pub node_of : ℕ → DerElement → DerNode
node_of level e =
    record {
      tag = e.tag;
      start = e.start;
      contents_start = e.contents_start;
      end = e.contents_start + length e.contents.now;
      depth = level;
      constructed = e.constructed;
      indefinite = e.indefinite;
    }

-- a reader inside the contents of an element that it has consumed
abbrev pub inside_state : DerElement → ReaderState → ReaderState
inside_state e s =
    record s { position = e.contents_start; end = e.contents_start + length e.contents.now }

-- an element is entered if it is constructed and inside fewer than 32 others
abbrev pub IsLookedInto : ℕ → DerElement → Type 0
IsLookedInto level e = (e.constructed ≡ true) × (level < 32)

-- the reader is not at its end, and an element is read
pub record ReadsNext (s : ReaderState) (e : DerElement) (t : ReaderState) : Type 0 where
  pub left : s.position ≢ s.end
  pub old : DerElement
  pub reads : ReadsElement s no_error old e t

-- how the nodes end: at the end of the part, or before an element at a position: because there is
-- no space for another, or because of an error
pub data Stop : Type 0 where
  finished : Stop
  full : ℕ → Stop
  refused : DerError → ℕ → Stop

abbrev pub stop_code : Stop → DerError
stop_code finished = no_error
stop_code (full at) = error_code (error_of_kind Overlength)
stop_code (refused e at) = e

-- the reader after the nodes: at its end; or failed, at the start of the element that was not read
abbrev pub reader_after : Stop → ReaderState → ReaderState
reader_after finished s = record s { position = s.end }
reader_after (full at) s = stopped_state s at
reader_after (refused e at) s = stopped_state s at

-- the nodes of a part that is inside `level` others, up to where they end: after an element that is
-- not entered, after one with all the nodes inside it, or inside one
pub data Nodes : ℕ → ReaderState → List DerNode → Stop → Type 0 where
  at_end : {level : ℕ} {s : ReaderState} → s.position ≡ s.end → Nodes level s [] finished
  no_space : {level : ℕ} {s : ReaderState} → s.position ≢ s.end
      → Nodes level s [] (full s.position)
  no_element : {level : ℕ} {s : ReaderState} (t : ReaderState) (old new : DerElement)
      (error : DerError) → s.position ≢ s.end → ReadsElement s error old new t → error ≢ no_error
      → Nodes level s [] (refused error s.position)
  closed : {level : ℕ} {s : ReaderState} (t : ReaderState) (e : DerElement) {more : List DerNode}
      {stop : Stop} → ReadsNext s e t → (IsLookedInto level e → ⊥) → Nodes level t more stop
      → Nodes level s (node_of level e ∷ more) stop
  passed : {level : ℕ} {s : ReaderState} (t : ReaderState) (e : DerElement)
      {inner more : List DerNode} {stop : Stop} → ReadsNext s e t → IsLookedInto level e
      → Nodes (suc level) (inside_state e t) inner finished → Nodes level t more stop
      → Nodes level s (node_of level e ∷ (inner ++ more)) stop
  within : {level : ℕ} {s : ReaderState} (t : ReaderState) (e : DerElement) {inner : List DerNode}
      {stop : Stop} → ReadsNext s e t → IsLookedInto level e
      → Nodes (suc level) (inside_state e t) inner stop → stop ≢ finished
      → Nodes level s (node_of level e ∷ inner) stop

-- the nodes of all that is left are written, up to where they end, and the other nodes are
-- unchanged
pub record WalksTree (s : ReaderState) (old : List DerNode) (result : DerError) (count : ℕ)
    (new : List DerNode) (t : ReaderState) : Type 0 where
  pub stop : Stop
  pub nodes : Nodes 0 s (take count new) stop
  pub reported : result ≡ stop_code stop
  pub space : count ≤ length old
  pub others : drop count new ≡ drop count old
  pub fills : (at : ℕ) → stop ≡ full at → count ≡ length old
  pub leaves : t ≡ reader_after stop s

-- the reader had failed, and nothing is written; or the tree is walked
pub data ReadsTree (s : ReaderState) (old : List DerNode) (result : DerError) (count : ℕ)
    (new : List DerNode) (t : ReaderState) : Type 0 where
  has_failed : s.failed ≡ true → result ≡ error_code (error_at Failed (reader_position s))
      → count ≡ 0 → new ≡ old → t ≡ s → ReadsTree s old result count new t
  walked : s.failed ≡ false → WalksTree s old result count new t → ReadsTree s old result count new t
