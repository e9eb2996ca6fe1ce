-- What is found on the way to a request that is lost.
use Rattle.std.specs.Option.{option_copied, option_map}
use Rattle.std.specs.Prelude.{List, Option, Some, None, Contains, map}
use Rattle.cedar_ast.specs.Words.{PlainName, PlainUid, uid_of}
use Rattle.cedar_ast.specs.declared.extension.Extensions.{Extensions}
use Rattle.cedar_compare.specs.Difference.{Subject, environment_subject}
use Rattle.cedar_schema.specs.Lookup.{IsActionAt}
use Rattle.cedar_counterexample.specs.Between.{between_of}
use Rattle.cedar_compare.specs.PlainRequests.{IsContextOutside}
use Rattle.cedar_compare.specs.declared.requests.ComparedRequests.{ComparedRequests}
use Rattle.cedar_schema_elements.specs.Words.{action_of, kind_context, kind_principals, kind_resources}
use Rattle.cedar_schema_semantics.specs.Words.{Environment, PlainSchema, SchemaAction}
use Rattle.cedar_type_rules.specs.Ty.{Ty}
use Rattle.cedar_types.specs.Meaning.{ty_of}

-- the type of the context of an action, if there is one
abbrev pub context_at : Option SchemaAction → Option Ty
context_at None = None
context_at (Some it) = kind_context it.kind

-- the action of some requests in the new version, if there is one
abbrev pub new_action : ComparedRequests → Option SchemaAction
new_action it = option_map action_of (option_copied it.new)

-- the requests are those of an action in both versions: the action of the new one is found, and a
-- value of the context that the new one's can't be
pub record AreRequestsOf (extensions : Extensions) (old new : PlainSchema)
    (it : ComparedRequests) : Type 0 where
  pub action : IsActionAt new (uid_of it.uid.now) (new_action it)
  pub context : IsContextOutside extensions old new (ty_of it.context.now)
      (context_at (new_action it)) (option_map between_of it.outside)

-- the environment of some requests with a principal and a resource
abbrev pub environment_with : ComparedRequests → PlainName → PlainName → Environment
environment_with it principal resource = record {
  principal = principal;
  action = uid_of it.uid.now;
  resource = resource;
  context = ty_of it.context.now;
}

-- an action, if there is one, is for requests of a principal and a resource
abbrev pub IsAppliedBy : Option SchemaAction → PlainName → PlainName → Type 0
IsAppliedBy None principal resource = ⊥
IsAppliedBy (Some it) principal resource =
    Contains (kind_principals it.kind) principal × Contains (kind_resources it.kind) resource

-- the environments of an action and a principal with each of some resources
abbrev pub subjects_with : PlainUid → PlainName → List PlainName → List Subject
subjects_with uid principal resources = map (environment_subject principal uid) resources
