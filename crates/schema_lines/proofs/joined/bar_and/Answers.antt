use Rattle.std.proofs.Common.{◌≡◌, ◌∷◌, ◌++◌, [], Bool, List, ap, subst, sym, ◌∙◌, Global}
use Rattle.std.specs.List.{AllByRecursion}
use Rattle.std.specs.declared.rc.Rc.{Rc}
use Rattle.std.specs.declared.string.String.{String}
use Rattle.cedar_type_rules.specs.Words.{Fields, IsStatedWith, Ty, long}
use Rattle.cedar_types.specs.Meaning.{ty_of, type_step, attribute_step, attributes_step}
use Rattle.cedar_types.specs.declared.types.Type.{«Type», roll-Type, fold-roll-Type}
use Rattle.cedar_types.specs.declared.types.Type.TheOpen as layer
use Rattle.cedar_types.specs.declared.types.Type.TheVariants as type
use Rattle.schema_lines.proofs.joined.bar_and.Goals as goal
use Rattle.schema_lines.specs.Samples.{IsStatedAlone}

-- the type of whole numbers stands for the plain one
ty_of-long : ty_of type.Long ≡ long
ty_of-long =
    ap ty_of (sym type.rolls-Long)
    ∙ (let e : ty_of (roll-Type layer.Long) ≡ long =
    fold-roll-Type Ty (Bool × Ty) Fields type_step attribute_step attributes_step layer.Long in
    e)

-- it is stated
long_stated : IsStatedAlone (ty_of type.Long)
long_stated extensions = subst (IsStatedWith extensions []) (sym ty_of-long) (tt, tt)

abbrev Items : Type 0
Items = List (String Global × Rc «Type» Global)

pub closed-requires : goal.closed-requires
closed-requires c =
    let first : Items = (c.in_ok-from_str.field-0, c.in_ok-new.field-0) ∷ [] in
    let second : Items = (c.in_ok-from_str-2.field-0, c.in_ok-new-2.field-0) ∷ [] in
    let is : c.push-2.new.self.items ≡ first ++ second =
    c.in_ok-push-2.ensures.items ∙ ap (λ (items : Items). items ++ second)
    (c.in_ok-push.ensures.items ∙ ap (λ (items : Items). items ++ first) c.new-items.ensures.items) in
    let Q : «Type» → Type 0 = λ ty. IsStatedAlone (ty_of ty) in
    let P : Items → Type 0 = AllByRecursion (λ (item : String Global × Rc «Type» Global). IsStatedAlone (ty_of item.1.value)) in
    subst P (sym is) (
      subst Q (sym c.in_ok-new.ensures.ok) long_stated,
      (subst Q (sym c.in_ok-new-2.ensures.ok) c.requires, tt),
    )
