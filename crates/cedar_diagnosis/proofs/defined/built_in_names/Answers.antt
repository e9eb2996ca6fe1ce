use Rattle.std.proofs.Common.{[], List, map, ap, sym, subst}
use Rattle.cedar_ast.specs.Words.{PlainName, id_text, name_of}
use Rattle.cedar_diagnosis.proofs.AddingLemmas.{gives_all, gives_next, none_give}
use Rattle.cedar_diagnosis.proofs.defined.built_in_names.Goals as goal
use Rattle.cedar_diagnosis.specs.Adding.{Adds, SomeGives}
use Rattle.cedar_diagnosis.specs.BuiltIn.{IsBuiltInName}
use Rattle.cedar_name_resolution.specs.Words.{held_names, type_names}

pub loop-word-init : goal.loop-word-init
loop-word-init c =
    let gives = IsBuiltInName (type_names (held_names c.args.declared.now)) in
    let From : List PlainName → Type 0 = λ names. Adds (SomeGives gives []) [] names in
    subst From (sym (ap (map name_of) c.new-names.ensures.items)) (none_give gives [])

pub loop-word-preserved : goal.loop-word-preserved
loop-word-preserved c =
    gives_next (IsBuiltInName (type_names (held_names c.args.declared.now))) id_text c.args.words.now [] c.loop-word.word-index c.word-item.result
    (map name_of c.loop-word.names.items) (map name_of c.add_built_in.new.names.items) c.loop-word-test.true c.word-item.is c.loop-word.invariant
    c.in_ok-add_built_in.ensures

pub returns : goal.returns
returns c =
    gives_all (IsBuiltInName (type_names (held_names c.args.declared.now))) id_text c.args.words.now [] c.loop-word.word-index
    (map name_of c.loop-word.names.items) c.loop-word-test.false c.loop-word.invariant
