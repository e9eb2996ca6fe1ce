use Rattle.cedar_counterexample.specs.declared.record_shape.RecordShape.{RecordShape}
use Rattle.cedar_type_rules.specs.Words.{Ty, record_of}
use Rattle.cedar_types.specs.Meaning.{fields_of}

-- the type of all records of a shape
abbrev pub shape_type : RecordShape → Ty
shape_type shape = record_of (fields_of shape.attributes.now) shape.openness
