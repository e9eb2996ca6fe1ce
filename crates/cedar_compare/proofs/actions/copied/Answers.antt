use Rattle.std.proofs.Common.{List, Contains, ap, subst, sym, ◌∙◌}
use Rattle.cedar_compare.proofs.EntityLemmas.{real_entity}
use Rattle.cedar_compare.proofs.actions.copied.Goals as goal
use Rattle.cedar_compare.specs.Words.{DefinesAction, ListsDescendantAction, PlainUid, named_values, old_of}
use Rattle.cedar_schema_elements.proofs.EntityLemmas.{no_values}

pub returns-clause-uid : goal.returns-clause-uid
returns-clause-uid c = c.new.ensures.uid ∙ (c.in_ok-uid.ensures.uid ∙ c.uid.ensures.uid)

pub returns-clause-real : goal.returns-clause-real
returns-clause-real c =
    real_entity c.new.result
    (ap named_values c.new.ensures.attrs ∙ no_values c.new-attributes.result c.new-attributes.ensures.empty)
    (ap named_values c.new.ensures.tags ∙ no_values c.new-tags.result c.new-tags.ensures.empty)

pub returns-clause-action : goal.returns-clause-action
returns-clause-action c =
    let old = old_of c.args.versions.now in
    let same = c.new.ensures.uid ∙ (c.in_ok-uid.ensures.uid ∙ c.uid.ensures.uid) in
    let of = c.requires in
    record {
      defined = subst (DefinesAction old) (sym same) of.defined;
      attributes = ap named_values c.new.ensures.attrs ∙ no_values c.new-attributes.result c.new-attributes.ensures.empty;
      tags = ap named_values c.new.ensures.tags ∙ no_values c.new-tags.result c.new-tags.ensures.empty;
      ancestors = λ upper. (
        λ among. subst (λ (u : PlainUid). ListsDescendantAction old u upper) (sym same)
            ((of.ancestors upper).0 ((c.in_ok-ancestors.ensures upper).0 (subst (λ (xs : List PlainUid). Contains xs upper) c.new.ensures.ancestors among))),
        λ listed. subst (λ (xs : List PlainUid). Contains xs upper) (sym c.new.ensures.ancestors)
            ((c.in_ok-ancestors.ensures upper).1 ((of.ancestors upper).1 (subst (λ (u : PlainUid). ListsDescendantAction old u upper) same listed))),
      );
    }
