-- The names of declarations.
use Rattle.std.proofs.Common.{◌≡◌, ◌≢◌, List, [], ◌∷◌, ap, sym, subst, inl, inr, Option, None, Some, Contains, arith, refl, string_bytes}
use Rattle.std.proofs.lemmas.List.Elements.{Contains-append_cases}
use Rattle.cedar_ast.proofs.Basics.{Contains-none, Contains-single}
use Rattle.cedar_ast.proofs.Lists.{Contains-cons}
use Rattle.cedar_ast.specs.Words.{IsReserved, Text, reserved_word}
use Rattle.cedar_ast.specs.declared.name.Name.{Name}
use Rattle.cedar_diagnosis.specs.Lent.{declaration_of, lent_body, lent_id, namespace_of}
use Rattle.cedar_diagnosis.specs.declared.lent.Lent.{Lent}
use Rattle.cedar_diagnosis.specs.declared.lent.LentBody.TheVariants as lent
use Rattle.cedar_schema_ast.specs.declared.json_schema.action_type.ActionType.{ActionType}
use Rattle.cedar_schema_ast.specs.declared.json_schema.raw_name.RawName.{RawName}
use Rattle.std.specs.Borrow.{Bor}
use Rattle.std.specs.declared.alloc.Global.{Global}
use Rattle.std.specs.declared.string.String.{String}
use Rattle.cedar_schema_ast.specs.Words.{action, action_body, name_within, raw_reference}

-- in a namespace that isn't reserved a name isn't that isn't by itself
pub within_unreserved : (namespace : Option Name) (id : Text) → id ≢ reserved_word → ¬ IsReserved (name_within (namespace_of namespace) id)
within_unreserved None id free reserved = elim reserved [ inl base ↦ free base | inr among ↦ omega (arith, among.1) ]
within_unreserved (Some name) id free reserved =
    elim reserved [
      | inl base ↦ free base
      | inr among ↦
          let it = namespace_of (Some name) in
          elim (Contains-append_cases _ _ reserved_word among) [
            | inl path ↦ name.unreserved (inr path)
            | inr last ↦ name.unreserved (inl (Contains-single _ reserved_word last))
          ]
    ]

-- the one name of a list
pub named_one : {P : Type 0} (name : P) (names : List P) → name ∷ [] ≡ names → Contains names name
named_one name names is = subst (λ each. Contains each name) is (Contains-cons name [] name (inl refl))

pub named_one_of : {P : Type 0} (name : P) (names : List P) → name ∷ [] ≡ names → (other : P) → name ≡ other → Contains names other
named_one_of name names is other same = subst (Contains names) same (named_one name names is)

pub named_only : {P : Type 0} (name : P) (names : List P) → name ∷ [] ≡ names → (other : P) → Contains names other → name ≡ other
named_only name names is other among = Contains-single name other (subst (λ each. Contains each other) (sym is) among)

-- a list without names has none
pub named_none : {P : Type 0} (names : List P) → [] ≡ names → (other : P) → ¬ Contains names other
named_none names is other among = Contains-none other (subst (λ each. Contains each other) (sym is) among)

-- what is declared where an action is lent
pub action_declared : (it : Lent) (id : Bor (String Global)) (declared : Bor (ActionType RawName)) → it.body ≡ lent.Action id declared
    → (declaration_of it).body ≡ action (action_body RawName (raw_reference (namespace_of it.namespace.now)) (namespace_of it.namespace.now) declared.now)
action_declared it id declared is = ap (lent_body (namespace_of it.namespace.now)) is

-- and under which id
pub id_of_action : (it : Lent) (id : Bor (String Global)) (declared : Bor (ActionType RawName)) → it.body ≡ lent.Action id declared
    → (declaration_of it).id ≡ string_bytes id.now
id_of_action it id declared is = ap lent_id is
