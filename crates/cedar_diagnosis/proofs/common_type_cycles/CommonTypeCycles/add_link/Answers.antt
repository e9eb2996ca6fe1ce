use Rattle.std.proofs.Common.{◌≡◌, map, ap, sym, ◌∙◌}
use Rattle.std.proofs.lemmas.Bool.{false≢true}
use Rattle.cedar_ast.specs.Words.{name_of}
use Rattle.cedar_ast.specs.declared.internal_name.InternalName.{InternalName}
use Rattle.cedar_diagnosis.proofs.AddingLemmas.{adds_also, adds_like, adds_nothing}
use Rattle.cedar_diagnosis.proofs.common_type_cycles.CommonTypeCycles.add_link.Goals as goal
use Rattle.cedar_diagnosis.specs.Finding.{LinksToCommon}
use Rattle.cedar_diagnosis.specs.Links.{link_told}
use Rattle.cedar_diagnosis.specs.declared.cycles.Link.{Link}
use Rattle.cedar_name_resolution.proofs.SetLemmas.{HasAlso-pushed}
use Rattle.cedar_name_resolution.specs.Words.{held_names}
use Rattle.cedar_schema_semantics.specs.Words.{Fault, common_type_cycle}

-- a link between common types
abbrev told : Link InternalName → Fault × Fault
told link = link_told (λ key. common_type_cycle (name_of key)) link

pub returns-then-not-may_name_common : goal.returns-then-not-may_name_common
returns-then-not-may_name_common c =
    adds_nothing (LinksToCommon (held_names c.args.self.now.defs.now) (name_of c.args.lower.now) c.args.kind (name_of c.args.to)) (map told c.args.links.now.items)
    (λ link links. false≢true (sym c.if-not-may_name_common.true ∙ c.may_name_common.ensures.1 links.0))

pub returns-then-not-is_defined_as_common : goal.returns-then-not-is_defined_as_common
returns-then-not-is_defined_as_common c =
    adds_nothing (LinksToCommon (held_names c.args.self.now.defs.now) (name_of c.args.lower.now) c.args.kind (name_of c.args.to)) (map told c.args.links.now.items)
    (λ link links. false≢true (sym c.if-not-is_defined_as_common.true ∙ c.is_defined_as_common.ensures.1 links.1))

pub returns : goal.returns
returns c =
    let lower = name_of c.args.lower.now in
    let upper = name_of c.args.to in
    let item : Link InternalName = record { from = c.in_ok-from.from; to = c.args.to } in
    let same : told item ≡ (common_type_cycle lower, common_type_cycle upper) =
    ap (λ name. (common_type_cycle name, common_type_cycle upper)) c.in_ok-from.ensures.name in
    let before = map told c.args.links.now.items in
    let after = map told c.push.new.self.items in
    adds_like (λ link. told item ≡ link) (LinksToCommon (held_names c.args.self.now.defs.now) lower c.args.kind upper) before after
    (λ link is. (c.may_name_common.ensures.0 c.if-not-may_name_common.false, c.is_defined_as_common.ensures.0 c.if-not-is_defined_as_common.false, sym same ∙ is))
    (λ link links. same ∙ links.2)
    (adds_also before after (told item) (HasAlso-pushed told c.args.links.now.items c.push.new.self.items item c.in_ok-push.ensures.items))
