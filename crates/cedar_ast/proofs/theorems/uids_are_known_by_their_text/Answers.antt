use Rattle.std.proofs.lemmas.Str.{IsUtf8-string_bytes}
use Rattle.cedar_ast.proofs.TextsOfNames.{IsOfIdentifiers-name_of}
use Rattle.cedar_ast.proofs.TextsOfUids.{uids_by_text}
use Rattle.cedar_ast.proofs.theorems.uids_are_known_by_their_text.Goals as goal
use Rattle.cedar_ast.specs.EntityUID.{uid_of}

pub returns : goal.returns
returns c = record {
  plain = uids_by_text;
  uids = λ a b alike. uids_by_text (uid_of a) (uid_of b) (IsOfIdentifiers-name_of a.ty.0.name) (IsOfIdentifiers-name_of b.ty.0.name)
      (IsUtf8-string_bytes a.eid.value.0) (IsUtf8-string_bytes b.eid.value.0) alike;
}
