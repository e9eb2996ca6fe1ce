-- What is written reads back as the text form, and what was read is its own.
use Rattle.std.proofs.Common.{◌≡◌, ◌≢◌, ◌⊎◌, ℕ, ◌<◌, ◌≤◌, ◌^◌, inl, inr, length, IsUtf8, refl, sym, ap, subst, ◌∙◌}
use Rattle.std.proofs.lemmas.Bool.{cases_lt}
use Rattle.std.specs.List.{AllByRecursion}
use Rattle.cedar_ast.specs.Words.{Text}
use Rattle.cedar_json.specs.DefinitionFormat.{written_fragment}
use Rattle.cedar_schema_ast.specs.declared.json_schema.fragment.Fragment.{Fragment}
use Rattle.cedar_schema_ast.specs.declared.json_schema.raw_name.RawName.{RawName}
use Rattle.cedar_schema_text.proofs.TextLemmas.{one_meaning}
use Rattle.cedar_schema_text.specs.Meaning.{fragment_meant}
use Rattle.cedar_schema_text.specs.Placed.{FragmentAt}
use Rattle.cedar_schema_text.specs.Shown.{fragment_shown}
use Rattle.cedar_schema_text.specs.TextFormat.{StandsFor}
use Rattle.cedar_schema_text.specs.declared.text_reading.TextFault.{TextFault}
use Rattle.cedar_schema_text.specs.declared.text_reading.TextFault.TheVariants as fault
use Rattle.cedar_schema_text_laws.proofs.FragmentTexts.{MembersOf}
use Rattle.cedar_schema_text_laws.proofs.FragmentTexts.{fragment_says as pieces_say}
use Rattle.cedar_schema_text_laws.proofs.OfTexts.{GoodNamespace, fragment_good}
use Rattle.cedar_schema_text_laws.proofs.OwnForms.{fragment_own, fragment_says, namespaces_flawless}
use Rattle.cedar_schema_text_laws.proofs.Said.{fragment_said}
use Rattle.cedar_schema_text_laws.proofs.Tokens.{tokens_of}
use Rattle.cedar_schema_text_laws.specs.Sayable.{SayableFragment}
use Rattle.cedar_schema_text_laws.specs.TextForm.{fragment_form}
use Rattle.cedar_schema_text_writer.specs.Flaws.{IsWritable}
use Rattle.cedar_schema_text_writer.specs.Layout.{fragment_pieces}
use Rattle.cedar_schema_text_writer.specs.Names.{First}
use Rattle.cedar_schema_text_writer.specs.Pieces.{text_of}

-- the text of a fragment
abbrev pub text_written : First → Fragment RawName → Text
text_written first it = text_of (fragment_pieces first it)

-- it stands for a fragment that says the text form
pub stands_for_form : (source : ℕ) (first : First) (it : Fragment RawName) → SayableFragment it → IsWritable first it
    → IsUtf8 (text_written first it) → length (text_written first it) < 2 ^ 32
    → (read : FragmentAt) × StandsFor source (text_written first it) read × (fragment_said read ≡ fragment_form first (written_fragment it))
stands_for_form source first it sayable writable utf8 short =
    let pieces = fragment_pieces first it in
    let of = fragment_form first (written_fragment it) in
    let read = tokens_of source pieces (MembersOf of) (pieces_say source (length (text_of pieces)) first it sayable writable) in
    let members = read.2.0 in
    let facts = read.2.2 in (
      fragment_meant members,
      record {
        members = members;
        is_short = short;
        is_utf8 = utf8;
        has_members = record { tokens = read.0; are_tokens = read.1; is_schema = read.2.1 };
        is_flat = facts.few;
        is_faultless = facts.clean;
        is_meant = refl;
      },
      facts.said,
    )

-- what a text stands for says what texts say
pub good_namespaces : (source : ℕ) (text : Text) (it : FragmentAt) → StandsFor source text it → AllByRecursion GoodNamespace it
good_namespaces source text it stands =
    subst (AllByRecursion GoodNamespace) (sym stands.is_meant) (fragment_good stands.members stands.has_members.tokens stands.has_members.is_schema stands.is_flat)

-- what is read of the text that is written of a fragment is its text form
pub reads_back : (source : ℕ) (first : First) (it read : Fragment RawName) → SayableFragment it → IsWritable first it
    → IsUtf8 (text_written first it) → length (text_written first it) < 2 ^ 32
    → StandsFor source (text_written first it) (fragment_shown read) → written_fragment read ≡ fragment_form first (written_fragment it)
reads_back source first it read sayable writable utf8 short stands =
    let form = stands_for_form source first it sayable writable utf8 short in
    fragment_says read (good_namespaces source (text_written first it) (fragment_shown read) stands)
    ∙ (ap fragment_said (one_meaning source (text_written first it) (fragment_shown read) form.0 stands form.1) ∙ form.2)

-- what was read of a text can be written, and is its own text form
pub read_is_own : (source : ℕ) (text : Text) (it : Fragment RawName) (first : First) → StandsFor source text (fragment_shown it)
    → IsWritable first it × (fragment_form first (written_fragment it) ≡ written_fragment it)
read_is_own source text it first stands =
    let good = good_namespaces source text (fragment_shown it) stands in
    let says = fragment_says it good in
    (namespaces_flawless first it.0.entries good, ap (fragment_form first) says ∙ (fragment_own first (fragment_shown it) good ∙ sym says))

-- a text is short enough, or too long
pub below_or_not : (n limit : ℕ) → (n < limit) ⊎ (limit ≤ n)
below_or_not n limit = elim (cases_lt n limit) [ inl below ↦ inl below | inr above ↦ inr above ]

-- a refusal is want of memory or not
pub is_memory : (it : TextFault) → (it ≡ fault.Memory) ⊎ (it ≢ fault.Memory)
is_memory fault.Memory = inl refl
is_memory _ = inr (λ e. cc)
