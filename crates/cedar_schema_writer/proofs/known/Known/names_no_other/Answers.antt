use Rattle.std.proofs.Common.{◌≡◌, [], Some, ap, ◌∙◌, Contains}
use Rattle.cedar_schema_writer.proofs.NameLemmas.{answered-not, no_other-within}
use Rattle.cedar_schema_writer.proofs.known.Known.names_no_other.Goals as goal
use Rattle.cedar_schema_writer.specs.Words.{NamesNoOther, PlainName, known_names, name_within, plain_name, plain_namespace, type_name}

pub returns-in_ok-other-in-Some : goal.returns-in_ok-other-in-Some
returns-in_ok-other-in-Some c =
    let names = known_names c.args.self.now in
    let name = type_name c.args.name.now in
    let namespace = plain_name c.in-Some.namespace in
    let key : type_name c.in_ok-other-in-Some.other ≡ name_within (Some namespace) name.base =
    c.in_ok-other-in-Some.ensures ∙ ap (λ (it : PlainName). name_within (Some namespace) it.base) c.name-in-Some.ensures.name in
    let path : name.path ≡ [] = cc (c.name.ensures.name, c.is_unqualified.ensures.0 c.if-is_unqualified.true) in
    rw (ap plain_namespace c.in-Some.is)
    (answered-not (Contains names.entities (name_within (Some namespace) name.base)) (NamesNoOther names (Some namespace) name)
    c.knows.result (rw key at c.knows.ensures) (no_other-within names namespace name.base name.path path))
