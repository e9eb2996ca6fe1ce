use Rattle.std.specs.Prelude.{Bool, true, false}
use Rattle.cedar_type_rules.specs.declared.open_tag.OpenTag.{OpenTag}
use Rattle.cedar_type_rules.specs.declared.open_tag.OpenTag.TheVariants.{OpenAttributes, ClosedAttributes}

-- whether a record with this openness may have attributes that it doesn't list
abbrev pub is_open : OpenTag → Bool
is_open OpenAttributes = true
is_open ClosedAttributes = false

-- the openness of two records together: open if either is
abbrev pub either_open : OpenTag → OpenTag → OpenTag
either_open OpenAttributes other = OpenAttributes
either_open ClosedAttributes other = other
