-- What nodes select, which tags they share, and that a tag selects one node.
use Rattle.std.proofs.Common.{◌≡◌, ◌≢◌, ℕ, ◌<◌, inl, inr, ◌↔◌, Bool, true, false, IsTrue, IfSome, IfNone, is_some, List, slice_get, Option, Some, None, unwrap_or, refl, sym, ap, ◌∙◌, subst, ⊎_elim, arith}
use Rattle.std.proofs.lemmas.Bool.{cases_lt}
use Rattle.der_base.specs.declared.tag.class.Class.{Class}
use Rattle.schema_types.specs.NodeKind.{parts_room}
use Rattle.schema_types.specs.Span.{IsWithin}
use Rattle.schema_types.specs.Counts.{counts_in}
use Rattle.schema_types.specs.Table.{Table, table_in}
use Rattle.schema_types.specs.Tags.{IsFieldOf, Selects, itself, alternative, HasTag, own, each, SelectsOne, IsSelected, Begins, ShareTag, AreApart}
use Rattle.schema_types.specs.Distinct.{may_be_missing, AreDistinct}
use Rattle.schema_types.specs.Sought.{one_tag, tags_of, IsMet, IsFound, FindsNone}
use Rattle.schema_types.specs.declared.counts.Counts.{Counts}
use Rattle.schema_types.specs.declared.field.Field.{Field}
use Rattle.schema_types.specs.declared.node.Node.{Node}
use Rattle.schema_types.specs.declared.node_kind.NodeKind.{NodeKind}
use Rattle.schema_types.specs.declared.node_kind.NodeKind.TheVariants.{Choice}
use Rattle.schema_types.specs.declared.selected.Selected.{Selected}
use Rattle.schema_types.specs.declared.sought.Sought.{Sought}
use Rattle.schema_types.proofs.RowLemmas.{node_there, field_there}

some_same : {A : Type 0} {x y : A} → Some x ≡ Some y → x ≡ y
some_same e = cc

-- an index has one row
pub same_row : {A : Type 0} (l : List A) (k : ℕ) {x y : A} → slice_get l k ≡ Some x → slice_get l k ≡ Some y → x ≡ y
same_row l k a b = some_same (sym a ∙ b)

-- the parts of a node of a kind are among the rows that the kind names
pub kind_parts : (c : Counts) (n : Node) (kind : NodeKind) → n.kind ≡ kind → IsWithin n.parts (parts_room c n.kind) → IsWithin n.parts (parts_room c kind)
kind_parts c n kind e within = subst (λ (x : NodeKind). IsWithin n.parts (parts_room c x)) e within

module _ {t : Table} {i : ℕ} {n : Node} (row : slice_get t.nodes i ≡ Some n) (Fact : Node → Type 0) where
  -- a node that is no CHOICE selects itself
  pub selects_itself : n.kind ≢ Choice → Fact n → SelectsOne t Fact i None i
  selects_itself isnt fact = record { node = n; selects = itself row isnt; row = row; fact = fact }

  -- and nothing else
  pub selects_no_other : n.kind ≢ Choice → (Fact n → ⊥) → (via : Option ℕ) (m : ℕ) → SelectsOne t Fact i via m → ⊥
  selects_no_other isnt none via m s = go s.selects s.row
    where
      go : {via : Option ℕ} {m : ℕ} → Selects t i via m → slice_get t.nodes m ≡ Some s.node → ⊥
      go (itself _ _) e = none (subst Fact (same_row t.nodes i e row) s.fact)
      go (alternative other choice _ _) e = isnt (ap (λ (x : Node). x.kind) (same_row t.nodes i row other) ∙ choice)

  -- a CHOICE selects what its alternatives select
  pub selects_through : {k : ℕ} {f : Field} {via : Option ℕ} {m : ℕ} → n.kind ≡ Choice → IsFieldOf t n k f → SelectsOne t Fact f.node via m → SelectsOne t Fact i (Some (unwrap_or via k)) m
  selects_through choice field s = record { node = s.node; selects = alternative row choice field s.selects; row = s.row; fact = s.fact }

  -- and nothing else
  pub selects_none_through : n.kind ≡ Choice → ((k : ℕ) (f : Field) → IsFieldOf t n k f → (via : Option ℕ) (m : ℕ) → SelectsOne t Fact f.node via m → ⊥) → (via : Option ℕ) (m : ℕ) → SelectsOne t Fact i via m → ⊥
  selects_none_through choice none via m s = go s.selects s.row
    where
      go : {via : Option ℕ} {m : ℕ} → Selects t i via m → slice_get t.nodes m ≡ Some s.node → ⊥
      go (itself other isnt) e = isnt (ap (λ (x : Node). x.kind) (same_row t.nodes i other row) ∙ choice)
      go (alternative {k = k} {f = f} {via = via} other _ field inner) e =
          none k f (subst (λ (x : Node). IsFieldOf t x k f) (same_row t.nodes i other row) field) via _ (record { node = s.node; selects = inner; row = e; fact = s.fact })

-- a node that may have a tag of another shares one with it
meets : (n m : Node) → IsMet (tags_of n) m → (class : Class) × (number : ℕ) × HasTag n class number × HasTag m class number
meets n m (inl any) = (m.class, m.number, each any, own refl refl)
meets n m (inr tag) = (n.class, n.number, own refl refl, tag)

-- and the other way round
pub met : {class : Class} {number : ℕ} (n m : Node) → HasTag n class number → HasTag m class number → IsMet (tags_of n) m
met n m (own a b) tag = inr (rw (a, b) tag)
met n m (each any) tag = inl any

-- a tag that a node shares with one that another selects
pub share_found : {t : Table} {i j : ℕ} {n : Node} {s : Selected} → slice_get t.nodes i ≡ Some n → n.kind ≢ Choice → IsFound t j (tags_of n) s → ShareTag t i j
share_found {n = n} {s = s} row isnt found =
    let m = meets n found.node found.fact in
    record {
      class = m.0;
      number = m.1;
      first = record { via = None; node = _; selected = selects_itself row (λ x. HasTag x m.0 m.1) isnt m.2 };
      second = record { via = s.field; node = s.node; selected = record { node = found.node; selects = found.selects; row = found.row; fact = m.3 } };
    }

-- there is none if the other selects none that has such a tag
pub share_none : {t : Table} {i j : ℕ} {n : Node} → slice_get t.nodes i ≡ Some n → n.kind ≢ Choice → FindsNone t j (tags_of n) → ShareTag t i j → ⊥
share_none {t} {i} {j} {n} row isnt none share =
    let s = share.second.selected in
    selects_no_other row (λ x. HasTag x share.class share.number) isnt
    (λ tag. none share.second.via share.second.node (record { node = s.node; selects = s.selects; row = s.row; fact = met n s.node tag s.fact }))
    share.first.via share.first.node share.first.selected

-- a CHOICE shares the tags that its alternatives share
pub share_through : {t : Table} {i j k : ℕ} {n : Node} {f : Field} → slice_get t.nodes i ≡ Some n → n.kind ≡ Choice → IsFieldOf t n k f → ShareTag t f.node j → ShareTag t i j
share_through row choice field share =
    record {
      class = share.class;
      number = share.number;
      first = record { via = _; node = _; selected = selects_through row (λ x. HasTag x share.class share.number) choice field share.first.selected };
      second = share.second;
    }

-- and no other
pub share_none_through : {t : Table} {i j : ℕ} {n : Node} → slice_get t.nodes i ≡ Some n → n.kind ≡ Choice → ((k : ℕ) (f : Field) → IsFieldOf t n k f → ShareTag t f.node j → ⊥) → ShareTag t i j → ⊥
share_none_through row choice none share =
    selects_none_through row (λ x. HasTag x share.class share.number) choice
    (λ k f field via m s. none k f field (record { class = share.class; number = share.number; first = record { via = via; node = m; selected = s }; second = share.second }))
    share.first.via share.first.node share.first.selected

-- alternatives are apart
apart : {t : Table} → AreDistinct t → (i : ℕ) {j k : ℕ} {n : Node} {f g : Field} → slice_get t.nodes i ≡ Some n → n.kind ≡ Choice → IsFieldOf t n j f → IsFieldOf t n k g → j < k → AreApart t f.node g.node
apart distinct i {j} {k} {n} {f} {g} row choice first second before =
    distinct i n row k j f g
    (record { earlier = first; later = second; before = before; missing = λ l h _ _ _. ap (λ (x : NodeKind). may_be_missing x h) choice })

-- a tag selects one node, through one field
pub one_selected : {t : Table} → AreDistinct t → {i : ℕ} {class : Class} {number : ℕ} {via also : Option ℕ} {m o : ℕ} → IsSelected t i class number via m → IsSelected t i class number also o → (via ≡ also) × (m ≡ o)
one_selected {t} distinct {class = class} {number = number} s u = go s.selects s.row s.fact u.selects u.row u.fact
  where
    starts : {i m : ℕ} {via : Option ℕ} {n : Node} → Selects t i via m → slice_get t.nodes m ≡ Some n → HasTag n class number → Begins t i class number
    starts selects row tag = record { via = _; node = _; selected = record { node = _; selects = selects; row = row; fact = tag } }

    go : {i m o : ℕ} {via also : Option ℕ} {x y : Node} → Selects t i via m → slice_get t.nodes m ≡ Some x → HasTag x class number → Selects t i also o → slice_get t.nodes o ≡ Some y → HasTag y class number → (via ≡ also) × (m ≡ o)
    go (itself _ _) e tag (itself _ _) e' tag' = (refl, refl)
    go {i} (itself row isnt) e tag (alternative row' choice _ _) e' tag' = absurd (isnt (ap (λ (x : Node). x.kind) (same_row t.nodes i row row') ∙ choice))
    go {i} (alternative row choice _ _) e tag (itself row' isnt) e' tag' = absurd (isnt (ap (λ (x : Node). x.kind) (same_row t.nodes i row' row) ∙ choice))
    go {i} {o = m'} (alternative {k = k} {n = n} {f = f} {via = via} row choice field inner) e tag (alternative {k = k'} {f = f'} {via = also} row' choice' field' inner') e' tag' =
        let there : IsFieldOf t n k' f' = subst (λ (x : Node). IsFieldOf t x k' f') (same_row t.nodes i row' row) field' in
        ⊎_elim
        (λ lt. absurd (apart distinct i row choice field there lt (record { class = class; number = number; first = starts inner e tag; second = starts inner' e' tag' })))
        (λ ge. ⊎_elim
        (λ gt. absurd (apart distinct i row choice there field gt (record { class = class; number = number; first = starts inner' e' tag'; second = starts inner e tag })))
        (λ le. let q : k' ≡ k = omega arith in
        let r : f' ≡ f = same_row t.fields k (subst (λ (x : ℕ). slice_get t.fields x ≡ Some f') q there.row) field.row in
        let p = go inner e tag (subst (λ (x : Field). Selects t x.node also m') r inner') e' tag' in
        (ap (λ x. Some (unwrap_or x k)) p.0 ∙ ap (λ x. Some (unwrap_or also x)) (sym q), p.1))
        (cases_lt k' k))
        (cases_lt k k')

-- whether a search finds one tells whether it shares a tag
pub share_if_found : {t : Table} {i j : ℕ} {n : Node} {b : Bool} (o : Option Selected) → slice_get t.nodes i ≡ Some n → n.kind ≢ Choice → IfSome o (IsFound t j (tags_of n)) → IfNone o (FindsNone t j (tags_of n)) → b ≡ is_some o → IsTrue b ↔ ShareTag t i j
share_if_found (Some s) row isnt found none e = (λ _. share_found row isnt found, λ _. e)
share_if_found None row isnt found none e = (λ f. absurd (let g : false ≡ true = sym e ∙ f in cc), λ share. absurd (share_none row isnt none share))

-- one tag is sought
pub one_met : {class : Class} {number : ℕ} {n : Node} → IsMet (one_tag class number) n → HasTag n class number
one_met (inl e) = cc
one_met (inr tag) = tag

-- a field on the way is there
via_there : (octets : List ℕ) {c : Counts} {i m : ℕ} {via : Option ℕ} → c ≡ counts_in octets → Selects (table_in octets) i via m → IfSome via (λ k. k < c.fields)
via_there octets e (itself _ _) = tt
via_there octets e (alternative {k = k} {via = None} _ _ field _) = field_there octets k e field.row
via_there octets e (alternative {via = Some x} _ _ _ inner) = via_there octets e inner

-- what a search for one tag finds
pub tag_found : (t : Table) (i : ℕ) (class : Class) (number : ℕ) (o : Option Selected) → IfSome o (IsFound t i (one_tag class number)) → IfSome o (λ s. IsSelected t i class number s.field s.node)
tag_found t i class number (Some s) f = record { node = f.node; selects = f.selects; row = f.row; fact = one_met f.fact }
tag_found t i class number None f = tt

pub tag_not_found : (t : Table) (i : ℕ) (class : Class) (number : ℕ) (o : Option Selected) → IfNone o (FindsNone t i (one_tag class number)) → IfNone o (Begins t i class number → ⊥)
tag_not_found t i class number (Some s) f = tt
tag_not_found t i class number None f = λ b. f b.via b.node (record { node = b.selected.node; selects = b.selected.selects; row = b.selected.row; fact = inr b.selected.fact })

-- what a search finds is there
pub node_found : (octets : List ℕ) {c : Counts} (i : ℕ) (sought : Sought) (o : Option Selected) → c ≡ counts_in octets → IfSome o (IsFound (table_in octets) i sought) → IfSome o (λ s. s.node < c.nodes)
node_found octets i sought (Some s) e f = node_there octets s.node e f.row
node_found octets i sought None e f = tt

pub via_found : (octets : List ℕ) {c : Counts} (i : ℕ) (sought : Sought) (o : Option Selected) → c ≡ counts_in octets → IfSome o (IsFound (table_in octets) i sought) → IfSome o (λ s. IfSome s.field (λ k. k < c.fields))
via_found octets i sought (Some s) e f = via_there octets e f.selects
via_found octets i sought None e f = tt
