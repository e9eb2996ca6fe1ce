use Rattle.std.specs.Prelude.{ℕ}
use Rattle.cedar_cli.specs.declared.status.Status.{Status}
use Rattle.cedar_cli.specs.declared.status.Status.TheVariants.{Done, Refused, Usage, Memory, Unwritten, Unread, Lost}

-- the number that a run ends with
abbrev pub code_of : Status → ℕ
code_of Done = 0
code_of Refused = 1
code_of Usage = 2
code_of Memory = 3
code_of Unwritten = 4
code_of Unread = 5
code_of Lost = 6
