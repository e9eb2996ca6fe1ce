use Rattle.std.proofs.Common.{◌≡◌, drop}
use Rattle.cedar_json.proofs.fields.is_among.Given as goal
use Rattle.cedar_json.specs.Fields.{is_among, texts_of}

abbrev pub invariant-loop-name : goal.invariant-loop-name
invariant-loop-name l = is_among l.key (texts_of l.names) ≡ is_among l.key (texts_of (drop l.name-index l.names))
