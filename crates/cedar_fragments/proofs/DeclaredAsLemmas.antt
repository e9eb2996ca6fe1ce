-- Full names, and the namespaces of what they name.
use Rattle.std.proofs.Common.{◌≡◌, List, [], ◌∷◌, ◌++◌, Option, None, Some, ap, refl, ◌∙◌}
use Rattle.cedar_fragments.specs.Words.{Body, PlainName, PlainUid, Text, action_word, declared_action, declared_as, name_of_parts, name_within, namespace_of, path_within, within_part}

-- the last of some parts is the base name
name_of_parts-last : (part : Text) (path : List Text) (base : Text)
    → name_of_parts part (path ++ base ∷ []) ≡ record { base = base; path = part ∷ path }
name_of_parts-last part [] base = refl
name_of_parts-last part (next ∷ rest) base = ap (within_part part) (name_of_parts-last next rest base)

-- what has the path of a namespace stands in it
pub namespace_of-path_within : (namespace : Option PlainName) → namespace_of (path_within namespace) ≡ namespace
namespace_of-path_within None = refl
namespace_of-path_within (Some name) = named name.path name.base
  where
    named : (path : List Text) (base : Text) → namespace_of (path ++ base ∷ []) ≡ Some (record { base = base; path = path })
    named [] base = refl
    named (part ∷ path) base = ap Some (name_of_parts-last part path base)

-- the parts of the name that has them
path_of_parts : (part : Text) (path : List Text)
    → (name_of_parts part path).path ++ (name_of_parts part path).base ∷ [] ≡ part ∷ path
path_of_parts part [] = refl
path_of_parts part (next ∷ rest) = ap (λ parts. part ∷ parts) (path_of_parts next rest)

-- the path of a namespace is that of which it is the namespace
pub path_within-namespace_of : (path : List Text) → path_within (namespace_of path) ≡ path
path_within-namespace_of [] = refl
path_within-namespace_of (part ∷ path) = path_of_parts part path

-- what is declared under a full name in a namespace is declared there
pub declared_as-within : (namespace : Option PlainName) (id : Text) (body : Body) (name : PlainName) (said : Body)
    → name ≡ name_within namespace id → said ≡ body
    → declared_as name said ≡ record { namespace = namespace; id = id; body = body }
declared_as-within namespace id body name said is same =
    (λ i. declared_as (is i) (same i)) ∙ (λ i. record { namespace = namespace_of-path_within namespace i; id = id; body = body })

-- what is declared of an action of a uid in a namespace is declared there
pub declared_action-within : (namespace : Option PlainName) (id : Text) (body : Body) (uid : PlainUid) (said : Body)
    → uid.ty ≡ name_within namespace action_word → uid.eid ≡ id → said ≡ body
    → declared_action uid said ≡ record { namespace = namespace; id = id; body = body }
declared_action-within namespace id body uid said ty eid same =
    (λ i. declared_action (record { ty = ty i; eid = eid i }) (same i))
    ∙ (λ i. record { namespace = namespace_of-path_within namespace i; id = id; body = body })
