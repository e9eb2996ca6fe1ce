use Rattle.std.proofs.Common.{◌∷◌, [], List, map, sym, subst}
use Rattle.std.proofs.lemmas.Result.{IfOk-weaker}
use Rattle.cedar_queries.proofs.JoinedLemmas.{known_alone, only_is}
use Rattle.cedar_queries.proofs.known.known_attributes.Goals as goal
use Rattle.cedar_queries.specs.Words.{AreAttributesOf, AreKnownOfAll, AreTexts-fields, AreWellFormed-fields, Attributes, EntityKind, Fields, IsSortedByName-fields, IsWellFormed, OpenAttributes, PlainName, fields_of, kind_ty, lub_names, plain_entry, record_of, type_name}

-- attributes stand for an open record that is well formed
record_formed : (attrs : Attributes) → IsWellFormed (record_of (fields_of attrs) OpenAttributes)
record_formed attrs = (IsSortedByName-fields attrs, AreWellFormed-fields attrs, AreTexts-fields attrs)

pub returns-in-Some : goal.returns-in-Some
returns-in-Some c =
    let types = map plain_entry c.args.types.now.entries in
    let name = type_name c.in-Some.ty.now in
    let only = only_is (lub_names c.in-Entity.lub) name c.in-Some.ensures.name in
    IfOk-weaker c.declared_attributes.result _ (λ attrs. AreAttributesOf types (kind_ty c.args.kind.now) (fields_of attrs))
    (λ attrs declared.
    let AreOfKind : EntityKind → Type 0 = λ kind. AreAttributesOf types (kind_ty kind) (fields_of attrs) in
    let AreOfNames : List PlainName → Type 0 = λ names. AreKnownOfAll types names (fields_of attrs) in
    let AreKnown : Fields → Type 0 = AreKnownOfAll types (name ∷ []) in
    let AreFormed : Fields → Type 0 = λ fields. IsWellFormed (record_of fields OpenAttributes) in
    subst AreOfKind (sym c.in-Entity.is) (subst AreOfNames (sym only) (subst AreKnown (sym declared) (known_alone types name (subst AreFormed declared (record_formed attrs))))))
    c.declared_attributes.ensures
