use Rattle.std.specs.Prelude.{◌≡◌, Bool, [], ◌∷◌, Option}
use Rattle.cedar_ast.specs.Words.{HoldsOfBoth, HoldsPairwise, PlainName, PlainUid, Text}
use Rattle.cedar_schema_ast.specs.Words.{ActionReference, Body, Declaration, EntityBody, Expr, Members, Reference, Requests, action, common_type, elsewhere, entity_type, enumerated, extension_expr, external, long_expr, member, named, no_member, record_expr, requests, set_expr, standard, text_expr, truth_expr}
use Rattle.cedar_schema_ast.specs.declared.json_schema.reference_type.ReferenceType.{ReferenceType}
use Rattle.cedar_schema_ast.specs.declared.json_schema.reference_type.ReferenceType.TheVariants.{Entity}
use Rattle.cedar_schema_semantics.specs.Bag.{Bag}
use Rattle.cedar_schema_semantics.specs.Names.{Names, ResolvesTo, NamesAction}

-- a reference of the kind to the name alone
abbrev pub reference_to_one : ReferenceType → PlainName → Reference
reference_to_one kind name = record { possibilities = name ∷ []; kind = kind }

-- the other reference is the one resolved: it is to the name alone that the one resolves to
abbrev pub ResolvesReference : Names → Reference → Reference → Type 0
ResolvesReference names reference resolved =
    (name : PlainName) × ResolvesTo names reference name
    × (resolved ≡ reference_to_one reference.kind name)

mutual
  -- the other expression is the one with each reference resolved
  pub data Resolves (names : Names) : Expr → Expr → Type 0 where
    resolves_text : Resolves names text_expr text_expr
    resolves_long : Resolves names long_expr long_expr
    resolves_truth : Resolves names truth_expr truth_expr
    resolves_set : {element other : Expr} → Resolves names element other
        → Resolves names (set_expr element) (set_expr other)
    resolves_record : {members others : Members} (additional : Bool)
        → ResolvesMembers names members others
        → Resolves names (record_expr members additional) (record_expr others additional)
    resolves_named : {reference resolved : Reference} → ResolvesReference names reference resolved
        → Resolves names (named reference) (named resolved)
    resolves_extension : (name : Text) → Resolves names (extension_expr name) (extension_expr name)

  -- the same of the attributes of a record
  pub data ResolvesMembers (names : Names) : Members → Members → Type 0 where
    resolves_no_member : ResolvesMembers names no_member no_member
    resolves_member : (name : Text) (required : Bool) {expr other : Expr} {rest others : Members}
        → Resolves names expr other
        → ResolvesMembers names rest others
        → ResolvesMembers names (member name required expr rest) (member name required other others)

-- the same of the type of tags, if there is one
abbrev pub ResolvesTags : Names → Option Expr → Option Expr → Type 0
ResolvesTags names = HoldsOfBoth (Resolves names)

-- the same of what is declared of an entity type
abbrev pub ResolvesEntityBody : Names → EntityBody → EntityBody → Type 0
ResolvesEntityBody names (standard parents shape tags)
    (standard resolved resolved_shape resolved_tags) =
    HoldsPairwise (ResolvesReference names) parents resolved × Resolves names shape resolved_shape
    × ResolvesTags names tags resolved_tags
ResolvesEntityBody names (enumerated choices) (enumerated resolved) = choices ≡ resolved
ResolvesEntityBody names (external parents) (external resolved) =
    HoldsPairwise (ResolvesReference names) parents resolved
ResolvesEntityBody names _ _ = ⊥

-- the other reference to an action is the one resolved: it is to the uid alone that the one names
abbrev pub ResolvesParent : Names → ActionReference → ActionReference → Type 0
ResolvesParent names parent resolved =
    (uid : PlainUid) × NamesAction names.actions parent uid
    × (resolved ≡ record { id = parent.id; ty = reference_to_one Entity uid.ty })

-- the other requests are the one with each reference resolved
abbrev pub ResolvesRequests : Names → Requests → Requests → Type 0
ResolvesRequests names (requests principals resources context)
    (requests resolved resolved_resources resolved_context) =
    HoldsPairwise (ResolvesReference names) principals resolved
    × HoldsPairwise (ResolvesReference names) resources resolved_resources
    × Resolves names context resolved_context
ResolvesRequests names elsewhere elsewhere = Unit {0}
ResolvesRequests names _ _ = ⊥

-- the same of what is declared
abbrev pub ResolvesBody : Names → Body → Body → Type 0
ResolvesBody names (common_type definition) (common_type resolved) =
    Resolves names definition resolved
ResolvesBody names (entity_type body) (entity_type resolved) =
    ResolvesEntityBody names body resolved
ResolvesBody names (action body) (action resolved) =
    (body.has_attributes ≡ resolved.has_attributes)
    × HoldsPairwise (ResolvesParent names) body.parents resolved.parents
    × ResolvesRequests names body.applies_to resolved.applies_to
ResolvesBody names _ _ = ⊥

-- the other declaration is the one with each reference resolved
pub record ResolvesDeclaration (names : Names) (it resolved : Declaration) : Type 0 where
  pub namespace : it.namespace ≡ resolved.namespace
  pub id : it.id ≡ resolved.id
  pub body : ResolvesBody names it.body resolved.body

-- the other bag is the one with each reference resolved, in turn
abbrev pub ResolvesBag : Names → Bag → Bag → Type 0
ResolvesBag names bag resolved = HoldsPairwise (ResolvesDeclaration names) bag resolved
