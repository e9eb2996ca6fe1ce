use Rattle.std.proofs.Common.{refl}
use Rattle.cedar_ast.proofs.ValueCopies.{uid_real}
use Rattle.cedar_compare.proofs.SampledLemmas.{context_sampled}
use Rattle.cedar_compare.proofs.requests.sample_request.Goals as goal
use Rattle.cedar_compare.specs.Words.{old_of, ty_of, value_trees}

pub existing_value-requires : goal.existing_value-requires
existing_value-requires c =
    let versions = c.args.versions.now in
    let sampled = context_sampled versions.extensions.now (value_trees versions.samples.now) (old_of versions)
    (ty_of c.args.requests.now.context.now) c.requires.versions.sampled c.requires.context in
    record { sampled = sampled.inhabited; uids = sampled.uids }

pub returns : goal.returns
returns c = record {
  principal_is = refl;
  action_is = c.in_ok-clone.ensures.uid;
  resource_is = refl;
  real = (uid_real c.args.principal, uid_real c.in_ok-clone.field-0, uid_real c.args.resource, c.in_ok-context.ensures.real);
  has = c.in_ok-context.ensures.has;
  exists = c.in_ok-context.ensures.exists;
}
