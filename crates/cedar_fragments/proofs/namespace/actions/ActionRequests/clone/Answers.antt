use Rattle.std.proofs.Common.{◌++◌}
use Rattle.cedar_fragments.proofs.CopyLemmas.{refer_same, locate_same}
use Rattle.cedar_fragments.proofs.namespace.actions.ActionRequests.clone.Goals as goal
use Rattle.cedar_schema_ast.specs.ActionBody.{requests}
use Rattle.cedar_schema_ast.specs.declared.json_schema.reference_type.ReferenceType.TheVariants.{Entity as entity}

pub returns : goal.returns
returns g c = record {
  requests = λ refer fair.
      let same = refer_same g.row.N.Denot g.N.FragmentName.is_alike refer fair entity in
      λ i. requests (same c.args.self.now.principals.items c.in_ok-copied_names.field-0.items c.in_ok-copied_names.ensures i)
      (same c.args.self.now.resources.items c.in_ok-copied_names-2.field-0.items c.in_ok-copied_names-2.ensures i)
      (c.in_ok-clone.ensures.written refer fair i);
  locs = λ locs fair.
      let same = locate_same g.row.N.Denot g.N.FragmentName.is_alike locs fair in
      λ i. same c.args.self.now.principals.items c.in_ok-copied_names.field-0.items c.in_ok-copied_names.ensures i
      ++ same c.args.self.now.resources.items c.in_ok-copied_names-2.field-0.items c.in_ok-copied_names-2.ensures i
      ++ c.in_ok-clone.ensures.locs locs fair i;
}
