use Rattle.std.proofs.Common.{[], true, None, codes, refl, inl, arith}
use Rattle.std.proofs.lemmas.Bool.{false≢true}
use Rattle.declaration_examples.proofs.converted_back.unwritable_types.Goals as goal
use Rattle.declaration_examples.specs.Words.{ClosedAttributes, OpenAttributes, alias_name, end, field, record_of, standard_kind, type_entry, with_attribute}

pub returns-clause-attribute : goal.returns-clause-attribute
returns-clause-attribute c ty none writable =
    false≢true (rw (none None) at (writable.types None (record_of (field (codes "a") true ty end) ClosedAttributes)
    (inl (type_entry (alias_name (codes "U")) (with_attribute ty) [], (0, omega arith, refl), refl, inl refl))))

pub returns-clause-open_type : goal.returns-clause-open_type
returns-clause-open_type c writable =
    false≢true (writable.types None (record_of end OpenAttributes)
    (inl (type_entry (alias_name (codes "U")) (standard_kind end OpenAttributes None) [], (0, omega arith, refl), refl, inl refl)))
