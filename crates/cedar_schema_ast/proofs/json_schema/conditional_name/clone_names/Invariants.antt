use Rattle.std.proofs.Common.{◌≡◌, map, take}
use Rattle.cedar_ast.specs.InternalName.{name_of, name_loc}
use Rattle.cedar_schema_ast.proofs.json_schema.conditional_name.clone_names.Given as goal

abbrev pub invariant-loop-name : goal.invariant-loop-name
invariant-loop-name l = record {
  names : map name_of l.copy.items ≡ map name_of (take l.name-index l.name-items);
  locs : map name_loc l.copy.items ≡ map name_loc (take l.name-index l.name-items);
}
