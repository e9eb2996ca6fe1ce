use Rattle.std.proofs.Common.{◌≡◌, drop, map, take}
use Rattle.cedar_json.proofs.extensions.names_of.Given as goal
use Rattle.cedar_json.specs.Words.{AreNames, plain_name, texts_of, unqualified}

abbrev pub invariant-loop-text : goal.invariant-loop-text
invariant-loop-text l = record {
  made : map plain_name l.names.items ≡ map unqualified (texts_of (take l.text-index l.texts));
  left : AreNames (drop l.text-index l.texts);
}
