-- Steps of the walks that tell whether types are inhabited by samples, and require all attributes.
use Rattle.std.proofs.Common.{◌≡◌, ◌↔◌, ◌∙◌, inl, inr, false, List, [], ◌∷◌, sym, ap, Global, Contains, arith, Option, None, Some, Bor, IfSome, IsTrue, refl}
use Rattle.std.specs.Bool.{Decides}
use Rattle.std.specs.Option.{is_some}
use Rattle.std.specs.declared.string.String.{String}
use Rattle.cedar_ast.proofs.Lists.{Contains-cons, Contains-cons_cases}
use Rattle.cedar_types.proofs.EqualityLaws.{attribute_of-parts}
use Rattle.cedar_types.specs.Words.{AttributeType, Attributes, Extensions, Fields, FieldsRequireAll, Has, IsSampled, RequiresAll, Tree, Ty, «Type», Value, attribute_of, fields_from, fields_of, fields_of-pairs, out-AttributeType, pairs_of, plain_attributes, ty_of, value_tree, value_trees}

-- the attributes that are left tell a fact of all of them
abbrev pub TellsLeft : (Fields → Type 0) → Attributes → List (String Global × AttributeType) → Type 0
TellsLeft P all rest = P (fields_from (plain_attributes rest)) ↔ P (fields_of all)

-- at first all are left
pub left-first : (P : Fields → Type 0) (all : Attributes) (own : List (String Global × AttributeType)) → own ≡ pairs_of all
    → TellsLeft P all own
left-first P all own is = rw (is, ← (fields_of-pairs all)) (λ holds. holds, λ holds. holds)

module _ {Next Rest All : Type 0} (left : (Next × Rest) ↔ All) where
  -- where the fact of the next fails, that of all does
  pub left-fails : ¬ Next → Decides false All
  left-fails fails = (λ e. absurd cc, λ whole. absurd (fails (left.1 whole).0))

  -- where it holds, the rest tells
  pub left-next : Next → (Rest ↔ All)
  left-next next = (λ others. left.0 (next, others), λ whole. (left.1 whole).1)

-- whether all attributes are required is told by the next one's flag, its type and the rest
pub required_left : (all : Attributes) (item : String Global × AttributeType) (rest : List (String Global × AttributeType))
    → TellsLeft FieldsRequireAll all (item ∷ rest)
    → (IsTrue (attribute_of item.1).0 × (RequiresAll (attribute_of item.1).1 × FieldsRequireAll (fields_from (plain_attributes rest))))
    ↔ FieldsRequireAll (fields_of all)
required_left all item rest left =
    (λ each. left.0 (each.0, each.1.0, each.1.1), λ whole. (let each = left.1 whole in (each.0, (each.1, each.2))))

-- an attribute's flag is the plain one's
pub flag_same : (attribute : AttributeType) → (attribute_of attribute).0 ≡ (out-AttributeType attribute).is_required
flag_same attribute = ap (λ both. both.0) (attribute_of-parts attribute)

-- what an attribute's type leads to stands for the plain one's
pub type_same : (attribute : AttributeType) (of : «Type») → of ≡ (out-AttributeType attribute).attr_type.value
    → ty_of of ≡ (attribute_of attribute).1
type_same attribute of is_of = ap ty_of is_of ∙ sym (ap (λ both. both.1) (attribute_of-parts attribute))

-- a sample that has a type is among those that are left
abbrev pub IsSampledLeft : Extensions → List Value → Ty → List Value → Type 0
IsSampledLeft extensions samples ty rest =
    (sample : Tree) → Contains (value_trees samples) sample → Has extensions sample ty → Contains (value_trees rest) sample

-- what a member gives is among what the members give
image_among : (samples : List Value) (sample : Value) → Contains samples sample → Contains (value_trees samples) (value_tree sample)
image_among [] sample among = absurd (omega (arith, among.1))
image_among (first ∷ rest) sample among =
    Contains-cons (value_tree first) (value_trees rest) (value_tree sample)
    (elim (Contains-cons_cases first rest sample among) [
      | inl same ↦ inl (ap value_tree same)
      | inr there ↦ inr (image_among rest sample there)
    ])

-- whether one is found decides whether there is one
pub sampled-Decides : (extensions : Extensions) (samples : List Value) (ty : Ty) (found : Option (Bor Value))
    → IfSome found (λ sample. Contains samples sample.now) → IfSome found (λ sample. Has extensions (value_tree sample.now) ty)
    → (found ≡ None → ¬ IsSampled extensions (value_trees samples) ty)
    → Decides (is_some found) (IsSampled extensions (value_trees samples) ty)
sampled-Decides extensions samples ty None among has none = (λ e. absurd cc, λ it. absurd (none refl it))
sampled-Decides extensions samples ty (Some sample) among has none =
    (λ _. (value_tree sample.now, image_among samples sample.now among, has), λ _. refl)
