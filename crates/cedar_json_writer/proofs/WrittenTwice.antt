-- A text describes one fragment.
use Rattle.std.proofs.Common.{◌≡◌, ◌≢◌, ◌<◌, Ok, Err, Some, IfErr, IfOk, MatchResult, Result, length, refl, ap, sym, ◌∙◌}
use Rattle.cedar_json_writer.specs.Words.{Describes, Fragment, JsonSchemaFault, Memory, NotJson, NotUtf8, OutOfShape, RawName, Text, TooLong, TwiceInObject, WrittenFragment, fragment_of, too_long, written_fragment}

-- two fragments that a text describes are the same
pub described_once : (text : Text) (a b : WrittenFragment) → Describes text a → Describes text b → a ≡ b
described_once text a b one two =
    let values : Some one.value ≡ Some two.value = sym one.is_document ∙ two.is_document in
    let value : one.value ≡ two.value = cc in
    let fragments : Some a ≡ Some b = sym one.is_described ∙ ap fragment_of value ∙ two.is_described in
    cc

-- what is read of a text that describes a fragment is that fragment, unless memory runs out
pub read_back : (text : Text) (fragment : Fragment RawName) (answer : Result (Fragment RawName) JsonSchemaFault)
    → (length text < too_long → Describes text (written_fragment fragment))
    → IfOk answer (λ it. Describes text (written_fragment it))
    → IfErr answer (λ fault. fault ≢ Memory → (it : WrittenFragment) → Describes text it → ⊥) → length text < too_long
    → MatchResult answer (λ it. written_fragment it ≡ written_fragment fragment) (λ fault. fault ≡ Memory)
read_back text fragment (Ok it) written read exact short =
    described_once text (written_fragment it) (written_fragment fragment) read (written short)
read_back text fragment (Err Memory) written read exact short = refl
read_back text fragment (Err TooLong) written read exact short = absurd (exact (λ e. absurd (cc)) (written_fragment fragment) (written short))
read_back text fragment (Err (NotUtf8 valid)) written read exact short =
    absurd (exact (λ e. absurd (cc)) (written_fragment fragment) (written short))
read_back text fragment (Err (NotJson stop deep)) written read exact short =
    absurd (exact (λ e. absurd (cc)) (written_fragment fragment) (written short))
read_back text fragment (Err (TwiceInObject at index)) written read exact short =
    absurd (exact (λ e. absurd (cc)) (written_fragment fragment) (written short))
read_back text fragment (Err (OutOfShape at fault)) written read exact short =
    absurd (exact (λ e. absurd (cc)) (written_fragment fragment) (written short))
