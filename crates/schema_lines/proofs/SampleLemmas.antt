-- The name of the sample extension's type fits.
use Rattle.std.proofs.Common.{[], ◌∷◌, Contains, refl, rules}
use Rattle.std.proofs.lemmas.List.Elements.{All-from_recursion}
use Rattle.cedar_ast.specs.Words.{IsUnqualified, TypeNamesFit, primitive_words}
use Rattle.schema_lines.specs.Samples.{sample_type}

-- the one name is unqualified and none of a core type
pub sample_type_fits : TypeNamesFit (sample_type ∷ [])
sample_type_fits = record {
  unqualified = All-from_recursion IsUnqualified (sample_type ∷ []) (refl, tt);
  distinct = search rules;
  free = All-from_recursion (λ name. ¬ Contains primitive_words name.base) (sample_type ∷ []) (search rules, tt);
}
