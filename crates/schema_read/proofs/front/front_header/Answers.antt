use Rattle.ber.proofs.HeaderLemmas.{end_header_next}
use Rattle.schema_read.proofs.EnclosedLemmas.{none_without_header, none_at_marker, none_reserved, none_at_depth, is_known, real_header}
use Rattle.schema_read.proofs.front.front_header.Goals as goal

pub returns-in-Err-clause-none : goal.returns-in-Err-clause-none
returns-in-Err-clause-none c = none_without_header c.args.depth c.in-Err.ensures.none

pub returns-then-is_end_of_contents-clause-none : goal.returns-then-is_end_of_contents-clause-none
returns-then-is_end_of_contents-clause-none c =
    none_at_marker c.args.depth ((end_header_next c.args.octets.now).0 (c.is_end_of_contents.ensures.0 c.if-is_end_of_contents.true))

pub returns-then-has_reserved_tag-clause-none : goal.returns-then-has_reserved_tag-clause-none
returns-then-has_reserved_tag-clause-none c =
    none_reserved c.args.depth c.in-Ok.ensures.found (c.has_reserved_tag.ensures.0 c.if-has_reserved_tag.true)

pub returns-then-depth-eq0-clause-none : goal.returns-then-depth-eq0-clause-none
returns-then-depth-eq0-clause-none c = none_at_depth c.args.depth c.if-depth-eq0.true

pub returns-clause-real : goal.returns-clause-real
returns-clause-real c = real_header c.args.octets.now c.is_end_of_contents.result c.in-Ok.ensures.found c.is_end_of_contents.ensures c.if-is_end_of_contents.false

pub returns-clause-known : goal.returns-clause-known
returns-clause-known c = is_known c.in-Ok.header c.has_reserved_tag.result c.has_reserved_tag.ensures c.if-has_reserved_tag.false
