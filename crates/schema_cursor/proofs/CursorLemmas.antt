-- Elements of one tree.
use Rattle.std.proofs.Common.{◌∙◌, ℕ, List, refl, subst, sym}
use Rattle.schema_read.specs.Types.{types_in}
use Rattle.schema_cursor.specs.Cursor.{IsAt}
use Rattle.schema_cursor.specs.Names.{IsNamed}
use Rattle.schema_cursor.specs.declared.cursor.Cursor.{Cursor}

pub at_itself : (c : Cursor) → IsAt c c.index c
at_itself c = record { of = record { octets_are = refl; schema_is = refl; entries_are = refl }; index_is = refl }

pub at_again : {a b c : Cursor} {i j : ℕ} → IsAt a i b → IsAt b j c → IsAt a j c
at_again x y = record {
  of = record {
    octets_are = y.of.octets_are ∙ x.of.octets_are;
    schema_is = y.of.schema_is ∙ x.of.schema_is;
    entries_are = y.of.entries_are ∙ x.of.entries_are;
  };
  index_is = y.index_is;
}

-- a name of an element is one by any other element
pub named_here : {c d : Cursor} {i : ℕ} (s : List ℕ) (k : ℕ) → IsAt c i d → IsNamed (types_in d.schema.now.octets.now) d.entries.now s k → IsNamed (types_in c.schema.now.octets.now) c.entries.now s k
named_here {c} {d} s k at n =
    subst (λ t. IsNamed (types_in t.octets.now) c.entries.now s k) at.of.schema_is
    (subst (λ es. IsNamed (types_in d.schema.now.octets.now) es s k) at.of.entries_are n)

pub named_there : {c d : Cursor} {i : ℕ} (s : List ℕ) (k : ℕ) → IsAt c i d → IsNamed (types_in c.schema.now.octets.now) c.entries.now s k → IsNamed (types_in d.schema.now.octets.now) d.entries.now s k
named_there {c} {d} s k at n =
    subst (λ t. IsNamed (types_in t.octets.now) d.entries.now s k) (sym at.of.schema_is)
    (subst (λ es. IsNamed (types_in c.schema.now.octets.now) es s k) (sym at.of.entries_are) n)
