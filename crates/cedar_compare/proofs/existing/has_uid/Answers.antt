use Rattle.std.proofs.Common.{◌≡◌, ◌↔◌, Bool, Bor, IfSome, IsTrue, None, Option, Some, is_some, refl, sym, ◌∙◌}
use Rattle.std.proofs.lemmas.Bool.{false≢true}
use Rattle.cedar_ast.proofs.ValueLemmas.{IsName-type_name}
use Rattle.cedar_ast.proofs.ValueCopies.{uid_real}
use Rattle.cedar_compare.specs.SchemaUids.{types_have_uids}
use Rattle.cedar_compare.proofs.existing.has_uid.Goals as goal
use Rattle.cedar_compare.specs.Words.{EntityUID, Exists, HasUidOf, IsExistingOf, PlainName, PlainSchema, schema_of, type_name, uid_of}

-- a type that isn't one of actions has uids
pub returns-then-not-is_action : goal.returns-then-not-is_action
returns-then-not-is_action c = (
  λ _. types_have_uids c.args.schema.now (type_name c.args.name.now) (IsName-type_name c.args.name.now)
      (λ of_actions. false≢true (sym c.if-not-is_action.true ∙ c.is_action.ensures.1 of_actions)),
  λ _. refl,
)

-- an action is found where there is one
told : (schema : PlainSchema) (name : PlainName) (o : Option (Bor EntityUID)) (b : Bool) → b ≡ is_some o
    → (o ≡ None → ¬ HasUidOf (Exists schema) name) → IfSome o (λ uid. IsExistingOf schema name (uid_of uid.now))
    → IsTrue b ↔ HasUidOf (Exists schema) name
told schema name None b is none some = (λ yes. absurd (false≢true (sym is ∙ yes)), λ has. absurd (none refl has))
told schema name (Some uid) b is none some = (λ yes. (uid_of uid.now, some.0, uid_real uid.now, some.1), λ has. is)

pub returns : goal.returns
returns c =
    told (schema_of c.args.schema.now) (type_name c.args.name.now) c.some_action.result c.is_some.result c.is_some.ensures c.some_action.ensures.none
    c.some_action.ensures.some
