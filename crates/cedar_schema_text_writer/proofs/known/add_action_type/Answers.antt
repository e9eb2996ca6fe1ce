use Rattle.std.proofs.Common.{[], ◌∷◌, map, ap, sym, subst, ◌∙◌}
use Rattle.std.proofs.lemmas.Bool.{false≢true}
use Rattle.cedar_ast.specs.Words.{PlainName, action_word, name_of}
use Rattle.cedar_name_resolution.proofs.SetLemmas.{HasAlso-pushed}
use Rattle.cedar_name_resolution.specs.Words.{HasAlso, name_within, namespace_name}
use Rattle.cedar_schema_text_writer.proofs.NamesGiven.{none_for_none, one_for_all}
use Rattle.cedar_schema_text_writer.proofs.known.add_action_type.Goals as goal

pub returns-then-is_empty : goal.returns-then-is_empty
returns-then-is_empty c =
    none_for_none (map name_of c.args.names.now.items) (name_within (namespace_name c.args.namespace) action_word) c.args.all.now.entries
    (c.is_empty.ensures.0 c.if-is_empty.true)

pub returns : goal.returns
returns c =
    let old = c.args.names.now.items in
    let new = c.push.new.self.items in
    one_for_all (map name_of old) (map name_of new) (name_within (namespace_name c.args.namespace) action_word) c.args.all.now.entries
    (λ none. false≢true (sym c.if-is_empty.false ∙ c.is_empty.ensures.1 none))
    (subst (λ (name : PlainName). HasAlso (map name_of new) (map name_of old) (name ∷ []))
    (c.in_ok-name_in.ensures.name ∙ ap (name_within (namespace_name c.args.namespace)) c.in_ok-word.ensures)
    (HasAlso-pushed name_of old new c.in_ok-name_in.field-0 c.in_ok-push.ensures.items))
