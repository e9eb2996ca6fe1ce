use Rattle.std.proofs.Common.{◌≡◌, map, ap, ◌∙◌}
use Rattle.cedar_ast.specs.Words.{id_text, name_of}
use Rattle.cedar_diagnosis.proofs.DefinedLemmas.{adds_built_in, adds_pushed}
use Rattle.cedar_diagnosis.proofs.defined.add_built_in.Goals as goal
use Rattle.cedar_name_resolution.specs.Words.{held_names, type_names}
use Rattle.cedar_schema_semantics.specs.Words.{alias_name}

pub returns : goal.returns
returns c =
    let word = id_text c.args.word.now in
    let alias = name_of c.new-alias.result in
    let full = c.in_ok-full_built_in_name.field-0 in
    let base = c.new-alias.ensures.base ∙ c.in_ok-clone.ensures in
    let path = c.new-alias.ensures.path ∙ ap (map id_text) c.new.ensures.items in
    let is_alias : alias ≡ alias_name word = (λ i. record { base = base i; path = path i }) in
    adds_built_in c.add_free.result (type_names (held_names c.args.declared.now)) word (name_of full) alias c.is_type-is_taken.result
    (map name_of c.args.names.now.items) (map name_of c.push.new.self.items) (map name_of c.add_free.new.names.items)
    c.in_ok-full_built_in_name.ensures is_alias c.is_type-is_taken.ensures
    (adds_pushed name_of c.args.names.now.items c.push.new.self.items full c.in_ok-push.ensures.items) c.add_free.ensures
