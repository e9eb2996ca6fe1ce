use Rattle.std.proofs.Common.{◌≡◌, ◌++◌, map, take, option_map}
use Rattle.cedar_schema_grammar.specs.Plain.{applies_of, name_of, parent_of}
use Rattle.cedar_schema_grammar.specs.Tree.{action}
use Rattle.cedar_schema_text.specs.Here.{action_here}
use Rattle.cedar_schema_text.specs.Meaning.{actions_of}
use Rattle.cedar_schema_text.proofs.declared.push_actions.Given as goal

abbrev pub invariant-loop-name : goal.invariant-loop-name
invariant-loop-name l =
    map action_here l.all.items
    ≡ map action_here l.fn.all.items
    ++ actions_of l.loc (action l.external (map name_of (take l.name-index l.names)) (option_map (λ v. map parent_of v.items) l.parents) (option_map applies_of l.applies))
