use Rattle.cedar_schema_writer.specs.declared.write_back_fault.WriteBackFault.{WriteBackFault}
use Rattle.cedar_schema_writer.specs.declared.write_back_fault.WriteBackFault.TheVariants as fault

-- why nothing is written: memory ran out, or something can't be written, and then the fact holds
abbrev pub Refuses : Type 0 → WriteBackFault → Type 0
Refuses P fault.Memory = Unit {0}
Refuses P fault.Unwritable = P
