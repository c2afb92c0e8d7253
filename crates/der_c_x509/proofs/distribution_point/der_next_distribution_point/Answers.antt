use Rattle.std.proofs.Common.{refl}
use Rattle.der_c_x509.specs.Calls.{ReadsItem}
use Rattle.der_c_x509.proofs.distribution_point.der_next_distribution_point.Goals as goal

pub returns-in-Ok-clause-reads : goal.returns-in-Ok-clause-reads
returns-in-Ok-clause-reads c = ReadsItem.read c.in-Ok.value c.in-Ok.ensures.reads.0 c.in-Ok.ensures.reads.1 c.distribution_point_of.ensures refl

pub returns-in-Ok-clause-complete : goal.returns-in-Ok-clause-complete
returns-in-Ok-clause-complete c v m working next levels = (refl, (c.in-Ok.ensures.complete refl v m working next levels).1)

pub returns-in-Err-clause-reads : goal.returns-in-Err-clause-reads
returns-in-Err-clause-reads c = ReadsItem.refused c.in-Err.ensures.reads refl

pub returns-in-Err-clause-complete : goal.returns-in-Err-clause-complete
returns-in-Err-clause-complete c v m working next levels = absurd (let no = (c.in-Err.ensures.complete refl v m working next levels).0 in cc)
