use Rattle.std.proofs.Common.{refl}
use Rattle.cedar_schema_writer.proofs.KindLemmas.{written_parents}
use Rattle.cedar_schema_writer.proofs.actions.write_action.Goals as goal
use Rattle.cedar_schema_writer.specs.Parts.{plain_namespace}

pub returns-clause-written : goal.returns-clause-written
returns-clause-written c =
    let namespace = plain_namespace c.args.namespace.now in
    rw (c.action_type.ensures.body namespace) (record {
      without_attributes = refl;
      parents_are = written_parents namespace c.args.parents.items;
      requests_are = c.in_ok-applies_to.ensures.written;
    })
