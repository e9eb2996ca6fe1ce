use Rattle.std.specs.Ordering.{ordering_then}
use Rattle.std.specs.declared.cmp.Ordering.{Ordering}
use Rattle.cedar_ast.specs.PlainName.{PlainName, name_cmp}
use Rattle.cedar_ast.specs.Text.{Text, text_cmp}

-- what a uid stands for: the name of its entity type, and its id
pub record PlainUid : Type 0 where
  pub ty : PlainName
  pub eid : Text

-- the order of uids: by type, and then by the id's bytes
abbrev pub uid_cmp : PlainUid → PlainUid → Ordering
uid_cmp a b = ordering_then (name_cmp a.ty b.ty) (text_cmp a.eid b.eid)
