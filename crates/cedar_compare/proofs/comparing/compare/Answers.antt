use Rattle.cedar_compare.proofs.CompareLemmas.{nothing_reported}
use Rattle.cedar_compare.proofs.comparing.compare.Goals as goal
use Rattle.cedar_schema.specs.ValidatorSchema.{schema_of}

pub returns-clause-kept : goal.returns-clause-kept
returns-clause-kept c = (
  c.in_ok-lost.ensures.kept,
  λ keeps. nothing_reported c.args.extensions.now (schema_of c.args.old.now) (schema_of c.args.new.now) keeps c.in_ok-lost.field-0.items
      c.in_ok-lost.ensures.losses,
)
