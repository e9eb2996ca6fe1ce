use Rattle.std.specs.List.{AllByRecursion}
use Rattle.cedar_schema_text_laws.proofs.sayable.each_holds.Given as goal

abbrev pub invariant-loop-key : goal.invariant-loop-key
invariant-loop-key g l =
    AllByRecursion (λ entry. g.T.Declared.Holds entry.1) l._key-iterator → AllByRecursion (λ entry. g.T.Declared.Holds entry.1) l.all.entries
