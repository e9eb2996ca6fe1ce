use Rattle.std.proofs.Common.{None, refl, subst, sym}
use Rattle.std.proofs.lemmas.Str.{IsUtf8-string_bytes}
use Rattle.cedar_ast.proofs.TextsOfNames.{IsOfIdentifiers-name_of}
use Rattle.cedar_schema_ast.proofs.VariantLemmas.{raw_variant-Entity, type-CommonTypeRef, variant-EntityOrCommon}
use Rattle.cedar_schema_ast.specs.Words.{members_from, plain_members, raw_expr, raw_name, raw_reference, raw_variant}
use Rattle.cedar_schema_ast.specs.declared.json_schema.raw_name.RawName.{RawName}
use Rattle.cedar_schema_text_laws.proofs.SayableParts.{record_sayable}
use Rattle.cedar_schema_text_laws.specs.Sayable.{Sayable, SayableMembers}
use Rattle.cedar_schema_text_laws.proofs.sayable.+sayable_types.Goals as goal

pub record_holds-returns : goal.record_holds-returns
record_holds-returns t c =
    record_sayable c.args.record_type.now c.into_iter-name-iterator.ensures.into_iter_gives.5
    (c.loop-name.invariant (subst (λ left. SayableMembers (members_from (plain_members None left))) (sym c.in-None.ensures.steps.0) tt))

pub record_holds-loop-name-preserved : goal.record_holds-loop-name-preserved
record_holds-loop-name-preserved t c = λ rest.
    c.loop-name.invariant (subst (λ left. SayableMembers (members_from (plain_members None left))) (sym c.in-Some.ensures.steps)
    (IsUtf8-string_bytes c.in-Some._name.now, c.attribute_holds.ensures, rest))

pub type_holds-returns-in-CommonTypeRef : goal.type_holds-returns-in-CommonTypeRef
type_holds-returns-in-CommonTypeRef t c =
    let name = c.in-CommonTypeRef.type_name in
    subst (λ ty. Sayable (raw_expr None ty)) (sym c.in-CommonTypeRef.is)
    (subst Sayable (sym (type-CommonTypeRef RawName (raw_reference None) name c.in-CommonTypeRef.loc)) (raw_name name, IsOfIdentifiers-name_of name.0, refl))

pub variant_holds-returns-in-Entity : goal.variant_holds-returns-in-Entity
variant_holds-returns-in-Entity t c =
    let name = c.in-Entity.name in
    subst (λ ty. Sayable (raw_variant None ty)) (sym c.in-Entity.is)
    (subst Sayable (sym (raw_variant-Entity None name)) (raw_name name, IsOfIdentifiers-name_of name.0, refl))

pub variant_holds-returns-in-EntityOrCommon : goal.variant_holds-returns-in-EntityOrCommon
variant_holds-returns-in-EntityOrCommon t c =
    let name = c.in-EntityOrCommon.type_name in
    subst (λ ty. Sayable (raw_variant None ty)) (sym c.in-EntityOrCommon.is)
    (subst Sayable (sym (variant-EntityOrCommon RawName (raw_reference None) name)) (raw_name name, IsOfIdentifiers-name_of name.0, refl))
