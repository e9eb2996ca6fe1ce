-- Why nothing is written, carried from a part to the whole.
use Rattle.std.proofs.Common.{◌≡◌, Result, Ok, Err, IfErr, IsErrAnd}
use Rattle.cedar_schema_writer.specs.Words.{Refuses, WriteBackFault}
use Rattle.cedar_schema_writer.specs.declared.write_back_fault.WriteBackFault.TheVariants as fault

-- where one fact implies another, what is refused for the one is refused for the other
pub refuses_weaker : (P Q : Type 0) → (P → Q) → (given : WriteBackFault) → Refuses P given → Refuses Q given
refuses_weaker P Q to fault.Memory why = tt
refuses_weaker P Q to fault.Unwritable why = to why

-- the same of an answer
pub refusal_weaker : {A : Type 0} (P Q : Type 0) → (P → Q) → (answer : Result A WriteBackFault) → IfErr answer (Refuses P)
    → IfErr answer (Refuses Q)
refusal_weaker P Q to (Ok it) why = tt
refusal_weaker P Q to (Err given) why = refuses_weaker P Q to given why

-- the same of an answer that passes on the error of a part
pub refusal_passed : {A P Q : Type 0} (answer : Result A WriteBackFault) (given : WriteBackFault) → IsErrAnd answer (λ it. it ≡ given)
    → Refuses P given → (P → Q) → IfErr answer (Refuses Q)
refusal_passed (Ok it) given is why to = tt
refusal_passed {P = P} {Q = Q} (Err passed) given is why to = rw is (refuses_weaker P Q to given why)
