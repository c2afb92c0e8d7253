-- Lemmas on what is noted of the policies of the certificates of a path.
use Rattle.std.proofs.Common.{◌≡◌, ◌↔◌, ◌≤◌, ◌<◌, ◌+◌, ◌-◌, ℕ, zero, suc, List, [], ◌∷◌, ◌++◌, length, get_or, take, drop, refl, sym, ap, subst, ◌∙◌, append-nil, append_assoc, length-append, arith, IsTrue, None, false}
use Rattle.std.specs.Prelude.{slice_range}
use Rattle.std.proofs.lemmas.List.{drop_at, drop_more, length-take-le, take-append-drop, take_all, take_at, take_more}
use Rattle.path_rules.specs.declared.mapping.Mapping.{Mapping}
use Rattle.path_rules.specs.declared.policy_facts.PolicyFacts.{PolicyFacts}
use Rattle.x509.specs.declared.asn1.tbs_certificate.TbsCertificate.{TbsCertificate}
use Rattle.x509_path.specs.CertificateFacts.{IsSelfIssued, part}
use Rattle.x509_path.specs.PolicyFactsOf.{ArePolicyFacts, HasAnySkip, HasMappings, HasPolicies, HasSkips}
use Rattle.x509_path.specs.PolicyNotes.{AreAllPolicyFacts, AreFactsFromNote, AreNotes, IsNote, IsNoteAfter, IsPart, IsUnreadableAt, Policies}
use Rattle.x509_path.specs.PolicyRooms.{Grows}
use Rattle.x509_path.specs.declared.certificate.PathCertificate.{PathCertificate}
use Rattle.x509_path.specs.declared.policy_note.PolicyNote.{PolicyNote}

-- a part of a room is one of a longer room
part_more : {X : Type 0} (room more : List X) (from to : ℕ) (xs : List X) → IsPart room from to xs → IsPart (room ++ more) from to xs
part_more room more from to xs p =
    record {
      front = p.front;
      after = p.after ++ more;
      split = ap (λ r. r ++ more) p.split ∙ append_assoc p.front (xs ++ p.after) more ∙ ap (λ r. p.front ++ r) (append_assoc xs p.after more);
      start = p.start;
      end = p.end;
    }

-- what was added last is a part
part_added : {X : Type 0} (old new : List X) (from to : ℕ) (xs : List X) → from ≤ length old → Grows old new from to xs → IsPart (take to new) from to xs
part_added old new from to xs within g =
    record {
      front = take from old;
      after = [];
      split = g.front ∙ ap (λ r. take from old ++ r) (sym (append-nil xs));
      start = sym (length-take-le from old within);
      end = g.end;
    }

note_more : (ps xs : Policies) (ms ys : List Mapping) (c : TbsCertificate) (n : PolicyNote) → IsNote ps ms c n → IsNote (ps ++ xs) (ms ++ ys) c n
note_more ps xs ms ys c n h =
    record {
      policies_there = (h.policies_there.0, part_more ps xs n.policies_from n.policies_to h.policies_there.0 h.policies_there.1, h.policies_there.2);
      mappings_there = (h.mappings_there.0, part_more ms ys n.mappings_from n.mappings_to h.mappings_there.0 h.mappings_there.1, h.mappings_there.2);
      numbers = h.numbers;
    }

notes_more : (ps xs : Policies) (ms ys : List Mapping) (cs : List PathCertificate) (ns : List PolicyNote) → AreNotes ps ms cs ns → AreNotes (ps ++ xs) (ms ++ ys) cs ns
notes_more ps xs ms ys [] [] h = tt
notes_more ps xs ms ys [] (n ∷ ns) h = absurd h
notes_more ps xs ms ys (c ∷ cs) [] h = absurd h
notes_more ps xs ms ys (c ∷ cs) (n ∷ ns) h = (note_more ps xs ms ys (part c) n h.0, notes_more ps xs ms ys cs ns h.1)

-- a note more at the end
notes_push : (ps : Policies) (ms : List Mapping) (cs : List PathCertificate) (ns : List PolicyNote) (c : PathCertificate) (n : PolicyNote) → AreNotes ps ms cs ns → IsNote ps ms (part c) n → AreNotes ps ms (cs ++ c ∷ []) (ns ++ n ∷ [])
notes_push ps ms [] [] c n h one = (one, tt)
notes_push ps ms [] (m ∷ ns) c n h one = absurd h
notes_push ps ms (d ∷ cs) [] c n h one = absurd h
notes_push ps ms (d ∷ cs) (m ∷ ns) c n h one = (h.0, notes_push ps ms cs ns c n h.1 one)

-- the note of one certificate more, whose lists were put into the rooms after those that are there
pub notes_after : (old new : Policies) (older newer : List Mapping) (p m : ℕ) (cs : List PathCertificate) (ns : List PolicyNote) (c : PathCertificate) (n : PolicyNote) → p ≤ length old → m ≤ length older
    → AreNotes (take p old) (take m older) cs ns → IsNoteAfter old new older newer p m (part c) n → AreNotes (take n.policies_to new) (take n.mappings_to newer) (cs ++ c ∷ []) (ns ++ n ∷ [])
notes_after old new older newer p m cs ns c n within there h a =
    let ps = a.policies in
    let ms = a.mappings in
    let grown : take n.policies_to new ≡ take p old ++ ps.0 = ps.1.front in
    let mapped : take n.mappings_to newer ≡ take m older ++ ms.0 = ms.1.front in
    let before : AreNotes (take n.policies_to new) (take n.mappings_to newer) cs ns =
    subst (λ r. AreNotes r (take n.mappings_to newer) cs ns) (sym grown) (subst (λ r. AreNotes (take p old ++ ps.0) r cs ns) (sym mapped) (notes_more (take p old) ps.0 (take m older) ms.0 cs ns h)) in
    let one : IsNote (take n.policies_to new) (take n.mappings_to newer) (part c) n = record {
      policies_there = (ps.0, subst (λ f. IsPart (take n.policies_to new) f n.policies_to ps.0) (sym a.first_policy) (part_added old new p n.policies_to ps.0 within ps.1), ps.2);
      mappings_there = (ms.0, subst (λ f. IsPart (take n.mappings_to newer) f n.mappings_to ms.0) (sym a.first_mapping) (part_added older newer m n.mappings_to ms.0 there ms.1), ms.2);
      numbers = a.numbers;
    } in
    notes_push (take n.policies_to new) (take n.mappings_to newer) cs ns c n before one

-- notes of the fronts of rooms are notes of the rooms
pub notes_whole : (room : Policies) (rooms : List Mapping) (p m : ℕ) (cs : List PathCertificate) (ns : List PolicyNote) → AreNotes (take p room) (take m rooms) cs ns → AreNotes room rooms cs ns
notes_whole room rooms p m cs ns h =
    subst (λ r. AreNotes r rooms cs ns) (take-append-drop p room) (subst (λ r. AreNotes (take p room ++ drop p room) r cs ns) (take-append-drop m rooms) (notes_more (take p room) (drop p room) (take m rooms) (drop m rooms) cs ns h))

-- a part of a room is what is between its places
range_part : {X : Type 0} (room : List X) (from to : ℕ) (xs : List X) → IsPart room from to xs → slice_range room from to ≡ xs
range_part room from to xs p =
    let count : to - from ≡ length xs = omega (arith, p.end) in
    let rest : drop (length p.front) room ≡ xs ++ p.after = ap (drop (length p.front)) p.split ∙ drop_at p.front (xs ++ p.after) (length p.front) refl in
    ap (λ n. take n (drop from room)) count ∙ ap (λ n. take (length xs) (drop n room)) p.start ∙ ap (take (length xs)) rest ∙ take_at xs p.after (length xs) refl

-- what a certificate says of policies, from its note
noted_facts : (ps : Policies) (ms : List Mapping) (c : TbsCertificate) (n : PolicyNote) (f : PolicyFacts) → IsNote ps ms c n → AreFactsFromNote ps ms n f → ArePolicyFacts c f
noted_facts ps ms c n f h a =
    record {
      policies = subst (λ x. HasPolicies x c) (sym (a.own_policies ∙ range_part ps n.policies_from n.policies_to h.policies_there.0 h.policies_there.1)) h.policies_there.2;
      mappings = subst (λ x. HasMappings x c) (sym (a.own_mappings ∙ range_part ms n.mappings_from n.mappings_to h.mappings_there.0 h.mappings_there.1)) h.mappings_there.2;
      skips = subst (λ x. HasSkips x f.inhibit_mapping c) (sym a.explicit) (subst (λ x. HasSkips n.require_explicit x c) (sym a.inhibit) h.numbers.skips);
      any = subst (λ x. HasAnySkip x c) (sym a.any) h.numbers.any;
      self_issued = subst (λ b. IsTrue b ↔ IsSelfIssued c) (sym a.self_issued) h.numbers.self_issued;
    }

-- facts are those of each note
abbrev pub AreFromNotes : Policies → List Mapping → List PolicyNote → List PolicyFacts → Type 0
AreFromNotes ps ms [] [] = Unit {0}
AreFromNotes ps ms [] (f ∷ fs) = ⊥
AreFromNotes ps ms (n ∷ ns) [] = ⊥
AreFromNotes ps ms (n ∷ ns) (f ∷ fs) = AreFactsFromNote ps ms n f × AreFromNotes ps ms ns fs

pub from_push : (ps : Policies) (ms : List Mapping) (ns : List PolicyNote) (fs : List PolicyFacts) (n : PolicyNote) (f : PolicyFacts) → AreFromNotes ps ms ns fs → AreFactsFromNote ps ms n f → AreFromNotes ps ms (ns ++ n ∷ []) (fs ++ f ∷ [])
from_push ps ms [] [] n f h one = (one, tt)
from_push ps ms [] (g ∷ fs) n f h one = absurd h
from_push ps ms (m ∷ ns) [] n f h one = absurd h
from_push ps ms (m ∷ ns) (g ∷ fs) n f h one = (h.0, from_push ps ms ns fs n f h.1 one)

pub all_facts : (ps : Policies) (ms : List Mapping) (cs : List PathCertificate) (ns : List PolicyNote) (fs : List PolicyFacts) → AreNotes ps ms cs ns → AreFromNotes ps ms ns fs → AreAllPolicyFacts cs fs
all_facts ps ms [] [] [] h a = tt
all_facts ps ms [] [] (f ∷ fs) h a = absurd a
all_facts ps ms [] (n ∷ ns) fs h a = absurd h
all_facts ps ms (c ∷ cs) [] fs h a = absurd h
all_facts ps ms (c ∷ cs) (n ∷ ns) [] h a = absurd a
all_facts ps ms (c ∷ cs) (n ∷ ns) (f ∷ fs) h a = (noted_facts ps ms (part c) n f h.0 a.0, all_facts ps ms cs ns fs h.1 a.1)

-- the parts of a note are within its rooms
part_within : {X : Type 0} (room : List X) (from to : ℕ) (xs : List X) → IsPart room from to xs → (from ≤ to) × (to ≤ length room)
part_within room from to xs p =
    let whole = ap length p.split in
    let front = length-append p.front (xs ++ p.after) in
    let rest = length-append xs p.after in
    (omega (arith, p.end), omega (arith, p.end, p.start, whole, front, rest))

pub note_within : (ps : Policies) (ms : List Mapping) (c : TbsCertificate) (n : PolicyNote) → IsNote ps ms c n
    → (n.policies_from ≤ n.policies_to) × (n.policies_to ≤ length ps) × (n.mappings_from ≤ n.mappings_to) × (n.mappings_to ≤ length ms)
note_within ps ms c n h =
    let p = part_within ps n.policies_from n.policies_to h.policies_there.0 h.policies_there.1 in
    let m = part_within ms n.mappings_from n.mappings_to h.mappings_there.0 h.mappings_there.1 in
    (p.0, p.1, m.0, m.1)

abbrev pub no_note : PolicyNote
no_note = record { policies_from = 0; policies_to = 0; mappings_from = 0; mappings_to = 0; require_explicit = None; inhibit_mapping = None; inhibit_any = None; is_self_issued = false }

-- one of the notes
pub note_at : (ps : Policies) (ms : List Mapping) (cs : List PathCertificate) (ns : List PolicyNote) (at : ℕ) (d : PolicyNote) → at < length ns → AreNotes ps ms cs ns → (c : PathCertificate) × IsNote ps ms (part c) (get_or ns at d)
note_at ps ms [] [] at d lt h = absurd (omega (arith, lt))
note_at ps ms [] (n ∷ ns) at d lt h = absurd h
note_at ps ms (c ∷ cs) [] at d lt h = absurd h
note_at ps ms (c ∷ cs) (n ∷ ns) zero d lt h = (c, h.0)
note_at ps ms (c ∷ cs) (n ∷ ns) (suc at) d lt h = note_at ps ms cs ns at d (omega (arith, lt)) h.1

-- there is a note of each certificate
pub notes_length : (ps : Policies) (ms : List Mapping) (cs : List PathCertificate) (ns : List PolicyNote) → AreNotes ps ms cs ns → length ns ≡ length cs
notes_length ps ms [] [] h = refl
notes_length ps ms [] (n ∷ ns) h = absurd h
notes_length ps ms (c ∷ cs) [] h = absurd h
notes_length ps ms (c ∷ cs) (n ∷ ns) h = let more = notes_length ps ms cs ns h.1 in omega (arith, more)

-- facts of one note more
pub from_more : (ps : Policies) (ms : List Mapping) (ns : List PolicyNote) (at : ℕ) (d : PolicyNote) (fs gs : List PolicyFacts) (f : PolicyFacts) → at < length ns → AreFromNotes ps ms (take at ns) (take at fs)
    → AreFactsFromNote ps ms (get_or ns at d) f → take (at + 1) gs ≡ take at fs ++ f ∷ [] → AreFromNotes ps ms (take (at + 1) ns) (take (at + 1) gs)
from_more ps ms ns at d fs gs f lt h one e =
    subst (λ x. AreFromNotes ps ms x (take (at + 1) gs)) (sym (take_more ns at d lt))
    (subst (λ x. AreFromNotes ps ms (take at ns ++ get_or ns at d ∷ []) x) (sym e) (from_push ps ms (take at ns) (take at fs) (get_or ns at d) f h one))

-- facts of all notes
pub from_all : (ps : Policies) (ms : List Mapping) (ns : List PolicyNote) (at : ℕ) (fs : List PolicyFacts) → at ≤ length ns → length ns ≤ at → AreFromNotes ps ms (take at ns) (take at fs) → AreFromNotes ps ms ns (take (length ns) fs)
from_all ps ms ns at fs below above h =
    let same : at ≡ length ns = omega (arith, below, above) in
    subst (λ x. AreFromNotes ps ms x (take (length ns) fs)) (take_all (length ns) ns (omega arith)) (subst (λ n. AreFromNotes ps ms (take n ns) (take n fs)) same h)

-- notes of one certificate more of a path
pub notes_at : (old new : Policies) (older newer : List Mapping) (p m : ℕ) (path : List PathCertificate) (at : ℕ) (d : PathCertificate) (ns : List PolicyNote) (later : List PolicyNote) (n : PolicyNote)
    → at < length path → p ≤ length old → m ≤ length older → AreNotes (take p old) (take m older) (take at path) (take at ns) → IsNoteAfter old new older newer p m (part (get_or path at d)) n → take (at + 1) later ≡ take at ns ++ n ∷ []
    → AreNotes (take n.policies_to new) (take n.mappings_to newer) (take (at + 1) path) (take (at + 1) later)
notes_at old new older newer p m path at d ns later n lt within there h a e =
    subst (λ x. AreNotes (take n.policies_to new) (take n.mappings_to newer) x (take (at + 1) later)) (sym (take_more path at d lt))
    (subst (λ x. AreNotes (take n.policies_to new) (take n.mappings_to newer) (take at path ++ get_or path at d ∷ []) x) (sym e)
    (notes_after old new older newer p m (take at path) (take at ns) (get_or path at d) n within there h a))

-- notes of all certificates
pub notes_all : (room : Policies) (rooms : List Mapping) (p m : ℕ) (path : List PathCertificate) (at : ℕ) (ns : List PolicyNote) → at ≤ length path → length path ≤ at → AreNotes (take p room) (take m rooms) (take at path) (take at ns)
    → AreNotes room rooms path (take (length path) ns)
notes_all room rooms p m path at ns below above h =
    let same : at ≡ length path = omega (arith, below, above) in
    let whole = notes_whole room rooms p m (take at path) (take at ns) h in
    subst (λ x. AreNotes room rooms x (take (length path) ns)) (take_all (length path) path (omega arith)) (subst (λ n. AreNotes room rooms (take n path) (take n ns)) same whole)

-- a certificate of a path that says nothing which can be read
pub unreadable_at : (path : List PathCertificate) (at : ℕ) (d : PathCertificate) → at < length path → ((f : PolicyFacts) → ArePolicyFacts (part (get_or path at d)) f → ⊥) → IsUnreadableAt path at
unreadable_at path at d lt none =
    record {
      before = take at path;
      certificate = get_or path at d;
      after = drop (at + 1) path;
      split = sym (take-append-drop at path) ∙ ap (λ x. take at path ++ x) (drop_more path at d lt);
      place = length-take-le at path (omega (arith, lt));
      none = none;
    }
