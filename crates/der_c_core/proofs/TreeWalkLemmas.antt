-- A walk over a tree, between two of its nodes.
use Rattle.std.proofs.Common.{◌≡◌, ◌≢◌, inr, ℕ, suc, ◌+◌, ◌<◌, ◌≤◌, ◌==◌, List, [], ◌∷◌, ◌++◌, length, take, drop, set, get_or, true, false, not, refl, sym, ap, ◌∙◌, subst, arith, append_assoc, append-nil, take-suc-set, drop-set-lt, ⊎_elim}
use Rattle.std.proofs.lemmas.List.{get_or-set_same, get_or-set_other, drop-drop}
use Rattle.std.proofs.lemmas.Bool.{cases_eq, eq-eqb, ne_eqb}
use Rattle.der_base.specs.Error.{error_of_kind}
use Rattle.der_base.specs.declared.error.ErrorKind.TheVariants.{Overlength}
use Rattle.der_core.specs.ReaderState.{ReaderState, stopped_state}
use Rattle.der_c_core.specs.ErrorCode.{no_error}
use Rattle.der_c_core.specs.ElementCalls.{ReadsElement}
use Rattle.der_c_core.specs.Tree.{Stop, finished, full, refused, stop_code, Nodes, at_end, no_space, no_element, ReadsNext, IsLookedInto, inside_state, node_of, WalksTree}
use Rattle.der_c_core.specs.Around.{Advances, ended_reader, FillsNodes, AreAround, NodesFrom, NodesAround, following_part, Moved, WalksNodes, outermost_end}
use Rattle.der_c_core.specs.declared.error.DerError.{DerError}
use Rattle.der_c_core.specs.declared.element.DerElement.{DerElement}
use Rattle.der_c_core.specs.declared.tree.DerNode.{DerNode}
use Rattle.der_c_core.specs.declared.tree.Filled.{Filled}
use Rattle.der_c_core.specs.declared.tree.around.Around.{Around}
use Rattle.der_c_core.proofs.ReadLemmas.{element_leaves_after, element_kind_zero, code_some}
use Rattle.der_c_core.proofs.TreeLemmas.{stops_from, closed_from, entered_from}

moved_on : (s t u : ReaderState) → Moved s t → Moved t u → Moved s u
moved_on s t u m n = n ∙ ap (λ (x : ReaderState). record x { position = u.position; end = u.end }) m

pub walks_nothing : {a : Around} {s : ReaderState} → AreAround a s → WalksNodes a s [] a s
walks_nothing parts = record { moved = refl; around = parts; outermost = refl; walks = λ more stop h. h }

outer_inside : (a : Around) (s : ReaderState) → 0 < a.level → outermost_end a s ≡ get_or a.ends 0 0
outer_inside a s inside = rw (ne_eqb a.level 0 (λ e. omega (arith, e, inside))) refl

outer_none : (a : Around) (s : ReaderState) → a.level ≡ 0 → outermost_end a s ≡ s.end
outer_none a s none = rw (eq-eqb a.level 0 none) refl

-- a part is left
module _ (a b : Around) (s t : ReaderState) (inside : 0 < a.level) (here : s.position ≡ s.end) (parts : AreAround a s) (ends : b.ends ≡ a.ends) (following : b.following ≡ a.following) (level : b.level + 1 ≡ a.level) (left : t ≡ following_part a.ends a.following b.level s) where
  left_moved : Moved s t
  left_moved = subst (Moved s) (sym left) refl

  left_around : AreAround b t
  left_around k below =
      let p = parts k (omega (arith, below, level)) in
      let e = ap (λ l. get_or l k 0) ends in
      let f = ap (λ l. get_or l k 0) following in
      let o = ap (λ l. get_or l 0 0) ends in
      let g : t.input ≡ s.input = ap (λ (x : ReaderState). x.input) left in
      let last : t.end ≡ get_or a.ends b.level 0 = ap (λ (x : ReaderState). x.end) left in
      let below_outermost = (parts b.level (omega (arith, level))).in_outermost in
      record {
        ordered = omega (arith, p.ordered, e, f);
        in_input = omega (arith, p.in_input, e, ap length g);
        in_outermost = omega (arith, p.in_outermost, e, o);
        innermost = omega (arith, last, below_outermost, o);
      }

  left_outermost : outermost_end b t ≡ outermost_end a s
  left_outermost =
      ⊎_elim
      (λ none. outer_none b t none ∙ ap (λ (x : ReaderState). x.end) left ∙ ap (λ k. get_or a.ends k 0) none ∙ sym (outer_inside a s inside))
      (λ some. outer_inside b t (omega (arith, some)) ∙ ap (λ l. get_or l 0 0) ends ∙ sym (outer_inside a s inside))
      (cases_eq b.level 0)

  leaving_keeps_nodes : (more : List DerNode) (stop : Stop) → NodesAround b t more stop → NodesAround a s more stop
  leaving_keeps_nodes more stop h =
      let deep : suc b.level ≡ a.level = omega (arith, level) in
      let same : NodesFrom a.ends b.following b.level t more stop = subst (λ l. NodesFrom l b.following b.level t more stop) ends h in
      let alike : NodesFrom a.ends a.following b.level t more stop = subst (λ l. NodesFrom a.ends l b.level t more stop) following same in
      let outer : NodesFrom a.ends a.following b.level (following_part a.ends a.following b.level s) more stop = subst (λ x. NodesFrom a.ends a.following b.level x more stop) left alike in
      subst (λ k. NodesFrom a.ends a.following k s more stop) deep (inr ([], more, refl, at_end here, outer))

  pub leaving_walks_nothing : WalksNodes a s [] b t
  leaving_walks_nothing = record { moved = left_moved; around = left_around; outermost = left_outermost; walks = leaving_keeps_nodes }

same_outer : (a : Around) (s t : ReaderState) → t.end ≡ s.end → outermost_end a t ≡ outermost_end a s
same_outer a s t e =
    ⊎_elim
    (λ none. outer_none a t none ∙ e ∙ sym (outer_none a s none))
    (λ some. outer_inside a t (omega (arith, some)) ∙ sym (outer_inside a s (omega (arith, some))))
    (cases_eq a.level 0)

-- an element is consumed, and not entered
pub skipped_element_walks_node : (a : Around) (s t : ReaderState) (e : DerElement) → ReadsNext s e t → AreAround a t → (IsLookedInto a.level e → ⊥) → WalksNodes a s (node_of a.level e ∷ []) a t
skipped_element_walks_node a s t e next parts not =
    let read = element_leaves_after next.reads in
    record {
      moved = read.moved;
      around = parts;
      outermost = same_outer a s t read.end;
      walks = λ more stop h. closed_from a.ends a.following a.level s t e more stop next read.moved not h;
    }

-- an element is entered
module _ (a b : Around) (s t u : ReaderState) (e : DerElement) (next : ReadsNext s e t) (parts : AreAround a t) (into : IsLookedInto a.level e) (ordered : t.position ≤ t.end) (within : t.end ≤ length t.input)
    (many : length a.ends ≡ 32) (more_of : length a.following ≡ 32) (ends : b.ends ≡ set a.ends a.level t.end) (following : b.following ≡ set a.following a.level t.position) (level : b.level ≡ a.level + 1) (inside : u ≡ inside_state e t) where
  end_here : get_or b.ends a.level 0 ≡ t.end
  end_here = ap (λ l. get_or l a.level 0) ends ∙ get_or-set_same a.ends a.level t.end 0 (omega (arith, many, into.1))

  after_at_level : get_or b.following a.level 0 ≡ t.position
  after_at_level = ap (λ l. get_or l a.level 0) following ∙ get_or-set_same a.following a.level t.position 0 (omega (arith, more_of, into.1))

  end_other : (k : ℕ) → k < a.level → get_or b.ends k 0 ≡ get_or a.ends k 0
  end_other k below = ap (λ l. get_or l k 0) ends ∙ get_or-set_other a.ends a.level k t.end 0 (λ same. omega (arith, same, below))

  after_below_level : (k : ℕ) → k < a.level → get_or b.following k 0 ≡ get_or a.following k 0
  after_below_level k below = ap (λ l. get_or l k 0) following ∙ get_or-set_other a.following a.level k t.position 0 (λ same. omega (arith, same, below))

  input_same : length u.input ≡ length t.input
  input_same = ap (λ (x : ReaderState). length x.input) inside

  -- the part around the element is inside the outermost part
  outer_bound : t.end ≤ get_or b.ends 0 0
  outer_bound =
      ⊎_elim
      (λ none. omega (arith, ap (λ j. get_or b.ends j 0) none, end_here))
      (λ some. omega (arith, end_other 0 (omega (arith, some)), (parts 0 (omega (arith, some))).innermost))
      (cases_eq a.level 0)

  inner_bound : u.end ≤ get_or b.ends 0 0
  inner_bound =
      let at : u.end ≡ e.contents_start + length e.contents.now = ap (λ (x : ReaderState). x.end) inside in
      omega (arith, at, (element_leaves_after next.reads).lies, ordered, outer_bound)

  entered_around : AreAround b u
  entered_around k below =
      ⊎_elim
      (λ last. (
      let end_k = ap (λ j. get_or b.ends j 0) last in
      record {
        ordered = omega (arith, end_k, ap (λ j. get_or b.following j 0) last, end_here, after_at_level, ordered);
        in_input = omega (arith, end_k, end_here, within, input_same);
        in_outermost = omega (arith, end_k, end_here, outer_bound);
        innermost = inner_bound;
      }))
      (λ other. (
      let lower : k < a.level = omega (arith, below, level, other) in
      let p = parts k lower in
      let first = end_other 0 (omega (arith, lower)) in
      record {
        ordered = omega (arith, p.ordered, end_other k lower, after_below_level k lower);
        in_input = omega (arith, p.in_input, end_other k lower, input_same);
        in_outermost = omega (arith, p.in_outermost, end_other k lower, first);
        innermost = inner_bound;
      }))
      (cases_eq k a.level)

  entered_outermost : outermost_end b u ≡ outermost_end a s
  entered_outermost =
      ⊎_elim
      (λ none. outer_inside b u (omega (arith, level)) ∙ ap (λ j. get_or b.ends j 0) (sym none) ∙ end_here ∙ (element_leaves_after next.reads).end ∙ sym (outer_none a s none))
      (λ some. outer_inside b u (omega (arith, level)) ∙ end_other 0 (omega (arith, some)) ∙ sym (outer_inside a s (omega (arith, some))))
      (cases_eq a.level 0)

  entering_adds_node : (more : List DerNode) (stop : Stop) → NodesAround b u more stop → NodesAround a s (node_of a.level e ∷ more) stop
  entering_adds_node more stop h =
      let deep : b.level ≡ suc a.level = omega (arith, level) in
      let from : NodesFrom b.ends b.following (suc a.level) u more stop = subst (λ k. NodesFrom b.ends b.following k u more stop) deep h in
      let at_contents : NodesFrom b.ends b.following (suc a.level) (inside_state e t) more stop = subst (λ x. NodesFrom b.ends b.following (suc a.level) x more stop) inside from in
      entered_from b.ends a.ends b.following a.following a.level s t e more stop next (element_leaves_after next.reads).moved into end_other after_below_level end_here after_at_level at_contents

  pub entered_element_walks_node : WalksNodes a s (node_of a.level e ∷ []) b u
  entered_element_walks_node =
      record {
        moved = moved_on s t u (element_leaves_after next.reads).moved (subst (Moved t) (sym inside) refl);
        around = entered_around;
        outermost = entered_outermost;
        walks = entering_adds_node;
      }

-- i nodes of the tree are written, and the others are unchanged
pub record Walked (s : ReaderState) (old : List DerNode) (i : ℕ) (nodes : List DerNode) (a : Around) (t : ReaderState) : Type 0 where
  pub moved : Moved s t
  pub around : AreAround a t
  pub outermost : outermost_end a t ≡ s.end
  pub within : i ≤ length old
  pub others : drop i nodes ≡ drop i old
  pub walks : (more : List DerNode) (stop : Stop) → NodesAround a t more stop → Nodes 0 s (take i nodes ++ more) stop

-- parts are left
pub walked_on : {s : ReaderState} {old nodes : List DerNode} {i : ℕ} {a b : Around} {t u : ReaderState} → Walked s old i nodes a t → WalksNodes a t [] b u → Walked s old i nodes b u
walked_on {s} {t = t} {u = u} w q =
    record {
      moved = moved_on s t u w.moved q.moved;
      around = q.around;
      outermost = q.outermost ∙ w.outermost;
      within = w.within;
      others = w.others;
      walks = λ more stop h. w.walks more stop (q.walks more stop h);
    }

-- one more node is written
pub walked_node : {s : ReaderState} {old nodes : List DerNode} {i : ℕ} {a b : Around} {t u : ReaderState} (n : DerNode) → Walked s old i nodes a t → WalksNodes a t (n ∷ []) b u → i < length nodes → i < length old
    → Walked s old (i + 1) (set nodes i n) b u
walked_node {s} {old} {nodes} {i} {t = t} {u = u} n w q below within =
    let one : i + 1 ≡ suc i = omega arith in
    let reported : take (i + 1) (set nodes i n) ≡ take i nodes ++ n ∷ [] = ap (λ k. take k (set nodes i n)) one ∙ take-suc-set nodes i n below in
    record {
      moved = moved_on s t u w.moved q.moved;
      around = q.around;
      outermost = q.outermost ∙ w.outermost;
      within = omega (arith, within);
      others = drop-set-lt (i + 1) nodes i n (omega arith) ∙ sym (drop-drop 1 i nodes) ∙ ap (drop 1) w.others ∙ drop-drop 1 i old;
      walks = λ more stop h. subst (λ l. Nodes 0 s l stop) (sym (ap (λ l. l ++ more) reported ∙ append_assoc (take i nodes) (n ∷ []) more)) (w.walks (n ∷ more) stop (q.walks more stop h));
    }

-- the array is full
pub all_walked : {s : ReaderState} {old nodes : List DerNode} {i : ℕ} {a : Around} {t : ReaderState} → Walked s old i nodes a t → length old ≤ i → Walked s old (length old) nodes a t
all_walked {s} {old} {nodes} {i} {a} {t} w all = subst (λ k. Walked s old k nodes a t) (omega (arith, w.within, all)) w

nothing_more : {s : ReaderState} {old nodes : List DerNode} {i : ℕ} {a : Around} {t : ReaderState} → Walked s old i nodes a t → (stop : Stop) → NodesAround a t [] stop → Nodes 0 s (take i nodes) stop
nothing_more {s} {nodes = nodes} {i = i} w stop h = subst (λ l. Nodes 0 s l stop) (append-nil (take i nodes)) (w.walks [] stop h)

-- the parts around are the same after an element in the innermost part
pub around_after_element : {a : Around} {s t : ReaderState} → AreAround a s → t.input ≡ s.input → t.end ≡ s.end → AreAround a t
around_after_element parts input end k below =
    let p = parts k below in
    record {
      ordered = p.ordered;
      in_input = omega (arith, p.in_input, ap length input);
      in_outermost = p.in_outermost;
      innermost = omega (arith, p.innermost, end);
    }

-- a walk stays before the end of the whole
pub walk_within : {s : ReaderState} {old nodes : List DerNode} {i : ℕ} {a : Around} {t : ReaderState} → Walked s old i nodes a t → t.position ≤ t.end → t.position ≤ s.end
walk_within {a = a} {t = t} w ordered =
    ⊎_elim
    (λ none. omega (arith, ordered, w.outermost, outer_none a t none))
    (λ some. omega (arith, ordered, w.outermost, outer_inside a t (omega (arith, some)), (w.around 0 (omega (arith, some))).innermost))
    (cases_eq a.level 0)

-- an element that was read without an error is the next one
next_read : {s t : ReaderState} {r : DerError} {old e : DerElement} → s.position ≢ s.end → ReadsElement s r old e t → r.kind ≡ 0 → ReadsNext s e t
next_read {s} {t} {r} {old} {e} left reads none =
    record { left = left; old = old; reads = subst (λ x. ReadsElement s x old e t) (element_kind_zero reads none) reads }

pub next_advanced : {s u : ReaderState} {r : DerError} {old e : DerElement} → s.position ≢ s.end → Advances s r old e u → r.kind ≡ 0 → ReadsNext s e u
next_advanced {s} {u} {r} {old} {e} left reads none = subst (λ x. ReadsNext s e x) (sym (reads.2 none)) (next_read left reads.1 none)

-- all nodes are written
finished_walk : {s v : ReaderState} {old nodes : List DerNode} {i : ℕ} {a : Around} {t : ReaderState} → Walked s old i nodes a t → t.position ≡ t.end → a.level ≡ 0 → v ≡ record s { position = t.position } → WalksTree s old no_error i nodes v
finished_walk {s} {a = a} {t = t} w here none leaves =
    let ends : t.end ≡ s.end = sym (outer_none a t none) ∙ w.outermost in
    record {
      stop = finished;
      nodes = nothing_more w finished (subst (λ k. NodesFrom a.ends a.following k t [] finished) (sym none) (at_end here));
      reported = refl;
      space = w.within;
      others = w.others;
      fills = λ at e. absurd (let no : finished ≡ full at = e in cc);
      leaves = leaves ∙ ap (λ k. record s { position = k }) (here ∙ ends);
    }

-- reading an element is an error
failed_walk : {s v : ReaderState} {old nodes : List DerNode} {i : ℕ} {a : Around} {t u : ReaderState} {r : DerError} {none e : DerElement} → Walked s old i nodes a t → t.position ≢ t.end → ReadsElement t r none e u → r.kind ≢ 0
    → v ≡ stopped_state s t.position → WalksTree s old r i nodes v
failed_walk {s} {a = a} {t = t} {u = u} {r = r} {none} {e} w left reads some leaves =
    let stop = refused r t.position in
    let unfinished : stop ≢ finished = λ q. (let no : refused r t.position ≡ finished = q in cc) in
    record {
      stop = stop;
      nodes = nothing_more w stop (stops_from a.ends a.following a.level unfinished (no_element u none e r left reads (λ q. some (ap (λ (c : DerError). c.kind) q))));
      reported = refl;
      space = w.within;
      others = w.others;
      fills = λ at q. absurd (let no : refused r t.position ≡ full at = q in cc);
      leaves = leaves;
    }

-- there is no space for another node
full_walk : {s v : ReaderState} {old nodes : List DerNode} {i : ℕ} {a : Around} {t : ReaderState} {r : DerError} → Walked s old i nodes a t → t.position ≢ t.end → i ≡ length old → r ≡ stop_code (full t.position)
    → v ≡ stopped_state s t.position → WalksTree s old r i nodes v
full_walk {s} {a = a} {t = t} w left all reported leaves =
    let unfinished : full t.position ≢ finished = λ q. (let no : full t.position ≡ finished = q in cc) in
    record {
      stop = full t.position;
      nodes = nothing_more w (full t.position) (stops_from a.ends a.following a.level unfinished (no_space left));
      reported = reported;
      space = w.within;
      others = w.others;
      fills = λ at q. all;
      leaves = leaves;
    }

abbrev pub ended : ℕ → ℕ → DerError → Filled
ended i at r = record { count = i; at = at; error = r }

module _ {s : ReaderState} {old nodes : List DerNode} {i : ℕ} {a : Around} {t : ReaderState} (w : Walked s old i nodes a t) (ordered : t.position ≤ t.end) (working : s.failed ≡ false) (keeps : s.keeps_failure ≡ true) where
  stopped_reader : (r : DerError) → r.kind ≢ 0 → ended_reader (ended i t.position r) s ≡ stopped_state s t.position
  stopped_reader r some =
      let other : (r.kind == 0) ≡ false = ne_eqb r.kind 0 some in
      let over : not (r.kind == 0) ≡ s.keeps_failure = ap not other ∙ sym keeps in
      ap (λ b. record s { position = t.position; failed = b }) over

  pub finished_fill : t.position ≡ t.end → a.level ≡ 0 → FillsNodes s old (ended i t.position no_error) nodes
  finished_fill here none =
      record { within = walk_within w ordered; walks = finished_walk w here none (ap (λ b. record s { position = t.position; failed = b }) (sym working)) }

  pub failed_fill : {u : ReaderState} {r : DerError} {none e : DerElement} → t.position ≢ t.end → ReadsElement t r none e u → r.kind ≢ 0 → FillsNodes s old (ended i t.position r) nodes
  failed_fill {r = r} left reads some = record { within = walk_within w ordered; walks = failed_walk w left reads some (stopped_reader r some) }

  pub full_fill : {r : DerError} → t.position ≢ t.end → i ≡ length old → r ≡ stop_code (full t.position) → FillsNodes s old (ended i t.position r) nodes
  full_fill {r = r} left all reported =
      let some : r.kind ≢ 0 = λ none. code_some (error_of_kind Overlength) (sym (ap (λ (c : DerError). c.kind) reported) ∙ none) in
      record { within = walk_within w ordered; walks = full_walk w left all reported (stopped_reader r some) }
