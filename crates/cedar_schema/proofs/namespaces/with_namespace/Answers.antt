use Rattle.std.proofs.Common.{◌≡◌, ◌∷◌, ◌++◌, [], List, sym, subst}
use Rattle.cedar_schema.proofs.NamespaceLemmas.{namespace_put}
use Rattle.cedar_schema.proofs.namespaces.with_namespace.Goals as goal
use Rattle.cedar_schema.specs.Words.{DefinedNamespace, HoldsNamespaces, definition_namespaces, name_loc, name_of, named_namespace}

pub returns : goal.returns
returns g c = λ defined holds.
    let name = c.in-Some.name.now in
    let at : DefinedNamespace = record { name = name_of name; name_loc = name_loc name; def_loc = c.loc.result } in
    let is : definition_namespaces g.row.N.Denot g.row.A.Denot c.args.definition.now ≡ at ∷ [] =
    λ i. named_namespace (sym c.in-Some.ensures.located i) (sym c.loc.ensures i) in
    let P : List DefinedNamespace → Type 0 = λ more. HoldsNamespaces (defined ++ more) c.insert.new.self in
    subst P (sym is)
    (namespace_put c.args.namespaces c.insert.new.self c.in_ok-clone.field-0 c.in_ok-namespace.namespace defined at
    c.in_ok-clone.ensures.name c.in_ok-namespace.ensures c.in_ok-insert.ensures.updates.0 holds)
