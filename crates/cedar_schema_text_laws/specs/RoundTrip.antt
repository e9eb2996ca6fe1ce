-- Why a fragment doesn't come back through a text.
use Rattle.std.specs.Prelude.{◌≡◌, ◌⊎◌, ◌≤◌, ◌^◌, length}
use Rattle.cedar_schema_ast.specs.declared.json_schema.fragment.Fragment.{Fragment}
use Rattle.cedar_schema_ast.specs.declared.json_schema.raw_name.RawName.{RawName}
use Rattle.cedar_schema_text.specs.declared.text_reading.TextFault.TheVariants as fault
use Rattle.cedar_schema_text_laws.specs.declared.round_trip.Lost.{Lost}
use Rattle.cedar_schema_text_laws.specs.declared.round_trip.Lost.TheVariants.{Unread, Unwritten}
use Rattle.cedar_schema_text_writer.specs.Flaws.{IsFaultOf, fragment_flaw}
use Rattle.cedar_schema_text_writer.specs.Layout.{fragment_pieces}
use Rattle.cedar_schema_text_writer.specs.Names.{First}
use Rattle.cedar_schema_text_writer.specs.Pieces.{text_of}

-- it can't be written, as the refusal says; or its text is too long, or memory ran out
abbrev pub IsLost : First → Fragment RawName → Lost → Type 0
IsLost first it (Unwritten refusal) = IsFaultOf (fragment_flaw first it) refusal
IsLost first it (Unread refusal) =
    (2 ^ 32 ≤ length (text_of (fragment_pieces first it))) ⊎ (refusal ≡ fault.Memory)
