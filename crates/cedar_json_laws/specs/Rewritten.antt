-- Fragments that are read of what was written of others.
use Rattle.std.specs.Prelude.{◌<◌, length}
use Rattle.cedar_ast.specs.Text.{Text}
use Rattle.cedar_json.specs.Words.{Describes, too_long, written_fragment}
use Rattle.cedar_schema_ast.specs.declared.json_schema.fragment.Fragment.{Fragment}
use Rattle.cedar_schema_ast.specs.declared.json_schema.raw_name.RawName.{RawName}

-- the second fragment was read of a text that was written of the first: the promises of the two
-- calls
pub record IsRewritten (fragment read : Fragment RawName) : Type 0 where
  pub text : Text
  pub is_written : length text < too_long → Describes text (written_fragment fragment)
  pub is_read : Describes text (written_fragment read)
