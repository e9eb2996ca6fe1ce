-- What names and uids write to the hashers of tables.
use Rattle.std.specs.Hash as fed
use Rattle.std.specs.Hash.{HashWrites}
use Rattle.std.specs.Prelude.{◌%◌, ◌&&◌, ◌++◌, [], ◌∷◌, ℕ, Bool, cond, nat_eq, nat_lt}
use Rattle.cedar_ast.specs.LeadingBytes.{name_leading}
use Rattle.cedar_ast.specs.PlainName.{PlainName}
use Rattle.cedar_ast.specs.PlainUid.{PlainUid}

-- the number that a name begins with tells the name whole: a short base name without a path
abbrev pub tells_whole : ℕ → Bool
tells_whole leading = nat_lt (leading % 256) 16 && nat_eq (leading % 2) 0

-- what a name writes: the number that it begins with, and where that doesn't tell it whole its
-- base name and its path
abbrev pub name_input : PlainName → HashWrites
name_input name =
    let leading = name_leading name.base name.path in
    fed.u64 leading
    ++ cond (tells_whole leading) [] (fed.str name.base ++ fed.slice fed.str name.path)

-- what a uid writes: what its type does, and the bytes of its id
abbrev pub uid_input : PlainUid → HashWrites
uid_input uid = name_input uid.ty ++ uid.eid ∷ []
