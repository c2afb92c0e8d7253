use Rattle.std.proofs.Common.{◌≡◌, ◌∙◌, false, true, List, Ok, ap, inl, inr, subst, sym}
use Rattle.der.specs.Prelude.{Sequence}
use Rattle.path_rules.specs.declared.mapping.Mapping.{Mapping}
use Rattle.x509.specs.ExtensionIdentifiers.{id_ce}
use Rattle.x509.specs.contracts.asn1.policy_mapping.PolicyMappingItem.TheImpl as mapping
use Rattle.x509_path.proofs.CertificateLemmas.{contents_short}
use Rattle.x509_path.proofs.PolicyListLemmas.{fills_err, fills_none, fills_read, mappings_apart, pair_same}
use Rattle.x509_path.specs.PolicyFactsOf.{HasMappings, mapping_octets, pair_of}
use Rattle.x509_path.specs.PolicyRooms.{Fills}
use Rattle.x509_path.proofs.policy_lists.put_mappings.Goals as goal

pub returns-in-Ok-None : goal.returns-in-Ok-None
returns-in-Ok-None c =
    fills_none mapping.ghosts.item.valid mapping.ghosts.item.octets mappings_apart pair_of pair_same mapping_octets _ (id_ce 33) c.args.signed.now c.find_extension.result c.find_extension.ensures.absent c.find_extension.ensures.found (c.in-Ok-None.is ∙ ap Ok c.in-Ok-None.field-0-is) c.args.room.now c.args.start c.requires

pub returns-in-Ok-Some : goal.returns-in-Ok-Some
returns-in-Ok-Some c =
    subst (Fills (λ (xs : List Mapping). HasMappings xs c.args.signed.now) c.args.room.now c.put_pairs.new.room c.args.start) (sym c.filled.ensures)
    (fills_read mapping.ghosts.item.valid mapping.ghosts.item.octets mappings_apart pair_of pair_same mapping_octets _ (id_ce 33) c.args.signed.now c.find_extension.result c.find_extension.ensures.absent c.find_extension.ensures.found c.in-Ok-Some.known c.in-Ok-Some.known.value.octets.now (c.in-Ok-Some.is ∙ ap Ok c.in-Ok-Some.field-0-is) (λ v r. r.ok.1)
    c.put_pairs.ensures.0 c.args.room.now c.put_pairs.new.room c.args.start c.put_pairs.result c.put_pairs.ensures.1)

pub returns-in-Err : goal.returns-in-Err
returns-in-Err c =
    fills_err mapping.ghosts.item.valid mapping.ghosts.item.octets mappings_apart pair_of pair_same mapping_octets _ (id_ce 33) c.args.signed.now c.find_extension.result c.find_extension.ensures.absent c.find_extension.ensures.found _ c.in-Err.is
    (λ v inner small r octets e l. (
    let short = contents_short Sequence v octets small e in
    elim (r.complete (record { octets = record { ref_ptr = (0, 0); now = octets }; of = record {}; short = short; checked = ∣ l ∣₁ }) small (∣ l ∣₁, short) e)
    [ inl never ↦ (let f : false ≡ true = never in cc) | inr lacks ↦ (let f : false ≡ true = lacks.0 in cc) ]))
    c.args.room.now c.args.room.now c.args.start
