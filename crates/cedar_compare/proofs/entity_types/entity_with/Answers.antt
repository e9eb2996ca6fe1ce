use Rattle.std.proofs.Common.{ap, map, subst, sym, ◌∙◌}
use Rattle.cedar_ast.proofs.Basics.{Contains-none}
use Rattle.cedar_ast.proofs.ValueCopies.{uid_real}
use Rattle.cedar_compare.proofs.entity_types.entity_with.Goals as goal
use Rattle.cedar_compare.specs.Words.{IsFreshIn, IsValue, PlainUid, named_values, new_of, type_name, uid_of, uid_value}
use Rattle.cedar_schema_elements.proofs.EntityLemmas.{no_values}

pub returns : goal.returns
returns c = record {
  fresh = subst (IsFreshIn (new_of c.args.versions.now) (type_name c.args.name.now)) (sym c.new-2.ensures.uid) c.in_ok-uid.ensures.fresh;
  real = subst (λ (u : PlainUid). IsValue (uid_value u)) (sym c.new-2.ensures.uid) (uid_real c.in_ok-uid.uid);
  attributes_are = ap named_values c.new-2.ensures.attrs;
  tags_are = ap named_values c.new-2.ensures.tags ∙ no_values c.new-tags.result c.new-tags.ensures.empty;
  ancestors_are = c.new-2.ensures.ancestors ∙ ap (map uid_of) c.new.ensures.empty;
  not_itself = Contains-none _;
}
