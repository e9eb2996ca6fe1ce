-- Entries that stand under keys.
use Rattle.std.specs.List.Sorted.{IsStrictlySortedBy}
use Rattle.std.specs.Prelude.{List, map}
use Rattle.std.specs.declared.cmp.Ordering.{Ordering}
use Rattle.cedar_json_writer.specs.Words.{Each, Text, keyed_members}
use Rattle.json.specs.Json.{Json, object}

-- the object of entries, each under the text of its key
abbrev pub keyed_document : {K A : Type 0} → (K → Text) → (A → Json) → List (K × A) → Json
keyed_document text document entries =
    object (keyed_members (map (λ entry. (text entry.0, document entry.1)) entries))

-- entries stand in the order of their keys, and each is sound
pub record SoundKeyed {K A : Type 0} (order : K → K → Ordering) (Sound : A → Type 0)
    (entries : List (K × A)) : Type 0 where
  pub in_order : IsStrictlySortedBy order (map (λ entry. entry.0) entries)
  pub each : Each (λ entry. Sound entry.1) entries
