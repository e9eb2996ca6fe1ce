-- What a refused closure says.
use Rattle.std.specs.Option.{option_map}
use Rattle.std.specs.Prelude.{◌++◌, Bool, IsTrue, Option, Some, codes, ⊤}
use Rattle.cedar_ast.specs.Text.{Text}
use Rattle.cedar_graph.specs.declared.tc_error.TcError.{TcError}
use Rattle.cedar_graph.specs.declared.tc_error.TcError.TheVariants.{HasCycle, Memory}

-- a cycle is refused only where none is allowed, and its key reaches itself; an answer of memory
-- says nothing
abbrev pub IsRefusal : {K : Type 0} → (K → K → Type 0) → Bool → TcError K → Type 0
IsRefusal reaches enforce_dag (HasCycle key) = IsTrue enforce_dag × reaches key key
IsRefusal reaches enforce_dag Memory = ⊤

-- why a closure was refused, as it is printed where its keys are: with the key that is on a cycle
abbrev pub tc_error_text : {K : Type 0} → (K → Option Text) → TcError K → Option Text
tc_error_text key_text (HasCycle key) =
    option_map (λ (text : Text). codes "a cycle of edges leads back to " ++ text) (key_text key)
tc_error_text key_text Memory = Some (codes "out of memory")
