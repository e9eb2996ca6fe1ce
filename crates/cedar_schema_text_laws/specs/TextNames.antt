-- What names are in the members of a text: so a name that is refused as reserved is one.
use Rattle.std.specs.Bool.{⊤}
use Rattle.std.specs.List.{AllByRecursion}
use Rattle.std.specs.Prelude.{◌≡◌, ◌≢◌, true, [], Option, None, Some}
use Rattle.cedar_ast.specs.Words.{is_identifier_text}
use Rattle.cedar_schema_grammar.specs.Tree.{Applies, Attributes, Body, Declaration, Item, Member, Name, Parent, Part, Path, Says, Ty, action, alone, attribute, choices, common, context, entity, named, namespace, no_attributes, principals, record_of, resources, set_of, standard}
use Rattle.cedar_schema_text.specs.Faults.{is_name}

-- a path is a name
abbrev pub IsNamePath : Path → Type 0
IsNamePath path = is_name path.ids ≡ true

-- a name is an identifier
abbrev pub IsIdName : Name → Type 0
IsIdName x = is_identifier_text x.text ≡ true

abbrev mutual
  -- each path in a type is a name
  pub HasNames : Ty → Type 0
  HasNames (named path) = IsNamePath path
  HasNames (set_of element) = HasNames element
  HasNames (record_of all loc) = HaveNames all

  -- the same of attributes
  pub HaveNames : Attributes → Type 0
  HaveNames no_attributes = ⊤
  HaveNames (attribute annotations name is_required ty more) = HasNames ty × HaveNames more

-- what holds of what may be there
abbrev pub IfThere : {A : Type 0} → (A → Type 0) → Option A → Type 0
IfThere Holds None = ⊤
IfThere Holds (Some it) = Holds it

-- each path in a body is a name; where it lists ids, it lists one at least
abbrev pub BodyHasNames : Body → Type 0
BodyHasNames (choices texts) = texts ≢ []
BodyHasNames (standard parents shape tags) =
    AllByRecursion IsNamePath parents × IfThere HasNames shape × IfThere HasNames tags

-- each path in a parent of an action is a name
abbrev pub ParentHasNames : Parent → Type 0
ParentHasNames it = IfThere IsNamePath it.ty

-- the same of a part of an `appliesTo`
abbrev pub SaysNames : Says → Type 0
SaysNames (principals paths) = AllByRecursion IsNamePath paths
SaysNames (resources paths) = AllByRecursion IsNamePath paths
SaysNames (context ty) = HasNames ty

-- the same of an `appliesTo`
abbrev pub AppliesHasNames : Applies → Type 0
AppliesHasNames it = AllByRecursion (λ (part : Part). SaysNames part.says) it.parts

-- each path in what is declared is a name, and the ids of types are identifiers
abbrev pub ItemHasNames : Item → Type 0
ItemHasNames (entity external names body) = AllByRecursion IsIdName names × BodyHasNames body
ItemHasNames (action external names parents applies) =
    IfThere (AllByRecursion ParentHasNames) parents × IfThere AppliesHasNames applies
ItemHasNames (common name ty) = IsIdName name × HasNames ty

-- the same of a declaration
abbrev pub DeclarationHasNames : Declaration → Type 0
DeclarationHasNames d = ItemHasNames d.item

-- the same of a member of a text
abbrev pub MemberHasNames : Member → Type 0
MemberHasNames (namespace annotations path declarations loc) =
    IsNamePath path × AllByRecursion DeclarationHasNames declarations
MemberHasNames (alone d) = DeclarationHasNames d
