-- Bags whose declarations can be written as Cedar's schema text, but for how deep types are nested.
use Rattle.std.specs.Prelude.{◌≡◌, ◌⊎◌, Contains, None, Option, Some, true}
use Rattle.cedar_ast.specs.Words.{IsReserved, PlainName}
use Rattle.cedar_schema_ast.specs.Words.{Body, Declaration, EntityBody, Expr, Reference, Requests, action, common_type, elsewhere, entity_type, enumerated, external, reference_to, requests, standard}
use Rattle.cedar_schema_semantics.specs.Words.{Bag, CountsIn, Refers}
use Rattle.cedar_schema_text_writer.specs.Flaws.{context_name_flaw, form_flaw, is_record}
use Rattle.cedar_schema_text_writer.specs.Names.{First}
use Rattle.cedar_schema_text_writer.specs.declared.fault.Part.{Part}
use Rattle.cedar_schema_text_writer.specs.declared.fault.Part.TheVariants as part

-- the namespace isn't reserved: no name of one is
abbrev pub IsUnreserved : Option PlainName → Type 0
IsUnreserved None = Unit {0}
IsUnreserved (Some namespace) = ¬ IsReserved namespace

-- each reference in the type is as it was written in the namespace
abbrev pub IsWrittenIn : Option PlainName → Expr → Type 0
IsWrittenIn namespace ty = (reference : Reference) → Refers ty reference
    → (name : PlainName) × (reference ≡ reference_to namespace reference.kind name)

module _ (first : First) where
  -- a type has no flaw
  abbrev pub IsWritableType : Part → Expr → Type 0
  IsWritableType in_part ty = form_flaw first in_part ty ≡ None

  -- nor has the type of tags, where there is one
  abbrev pub AreWritableTags : Option Expr → Type 0
  AreWritableTags None = Unit {0}
  AreWritableTags (Some ty) = IsWritableType part.Tags ty

  -- a shape is a record without a flaw
  abbrev pub IsWritableShape : Expr → Type 0
  IsWritableShape ty = (is_record ty ≡ true) × IsWritableType part.Shape ty

  -- a context is one too, or a name without a flaw
  abbrev pub IsWritableContext : Expr → Type 0
  IsWritableContext ty = ((is_record ty ≡ true) × IsWritableType part.Context ty)
      ⊎ (context_name_flaw first ty ≡ None)

  -- what is declared of an entity type can be written
  abbrev pub IsWritableEntity : EntityBody → Type 0
  IsWritableEntity (standard parents shape tags) = IsWritableShape shape × AreWritableTags tags
  IsWritableEntity (enumerated choices) = Unit {0}
  IsWritableEntity (external parents) = Unit {0}

  -- the requests of an action can be written
  abbrev pub AreWritableRequests : Requests → Type 0
  AreWritableRequests (requests principals resources context) = IsWritableContext context
  AreWritableRequests elsewhere = Unit {0}

  -- what is declared can be written
  abbrev pub IsWritableBody : Body → Type 0
  IsWritableBody (common_type definition) = IsWritableType part.Definition definition
  IsWritableBody (entity_type body) = IsWritableEntity body
  IsWritableBody (action body) = AreWritableRequests body.applies_to

  -- a declaration can be written, in a namespace that isn't reserved, and its references are as
  -- they were written there
  pub record IsWritableDeclaration (it : Declaration) : Type 0 where
    pub namespace : IsUnreserved it.namespace
    pub references : (ty : Expr) → CountsIn it.body ty → IsWrittenIn it.namespace ty
    pub body : IsWritableBody it.body

  -- each declaration of the bag can be written
  abbrev pub IsWritableBag : Bag → Type 0
  IsWritableBag bag = (it : Declaration) → Contains bag it → IsWritableDeclaration it
