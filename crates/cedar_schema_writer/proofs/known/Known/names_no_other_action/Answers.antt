use Rattle.std.proofs.Common.{◌≡◌, [], Some, ap, sym, ◌∙◌, Contains}
use Rattle.cedar_schema_writer.proofs.NameLemmas.{answered-not, no_other_action-within}
use Rattle.cedar_schema_writer.proofs.known.Known.names_no_other_action.Goals as goal
use Rattle.cedar_schema_writer.specs.Words.{NamesNoOtherAction, PlainName, PlainUid, Text, known_names, name_within, plain_name, plain_namespace, uid_of}

pub returns-in_ok-clone-in-Some : goal.returns-in_ok-clone-in-Some
returns-in_ok-clone-in-Some c =
    let names = known_names c.args.self.now in
    let uid = uid_of c.args.uid.now in
    let namespace = plain_name c.in-Some.namespace in
    let named : plain_name c.name-name.result.now ≡ uid.ty = c.name-name.ensures.name ∙ c.entity_type.ensures.name in
    let ty = c.new-other.ensures.ty ∙ (c.in_ok-ty-in-Some.ensures ∙ ap (λ (it : PlainName). name_within (Some namespace) it.base) named) in
    let eid = c.new-other.ensures.eid ∙ (c.in_ok-clone-in-Some.ensures ∙ c.eid.ensures) in
    let other : PlainUid = record { ty = name_within (Some namespace) uid.ty.base; eid = uid.eid } in
    let key : uid_of c.new-other.result ≡ other =
    (λ i. let name : PlainName = ty i in let text : Text = eid i in record { ty = name; eid = text }) in
    let path : uid.ty.path ≡ [] = ap (λ (it : PlainName). it.path) (sym named) ∙ c.is_unqualified.ensures.0 c.if-is_unqualified.true in
    rw (ap plain_namespace c.in-Some.is)
    (answered-not (Contains names.actions other) (NamesNoOtherAction names (Some namespace) uid)
    c.has_action.result (rw key at c.has_action.ensures) (no_other_action-within names namespace uid.ty.base uid.ty.path uid.eid path))
