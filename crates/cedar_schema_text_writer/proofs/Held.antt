-- What names are declared as.
use Rattle.std.proofs.Common.{◌≡◌, Bool, true, false, List, Contains, subst, refl}
use Rattle.std.proofs.lemmas.List.{map-id}
use Rattle.std.specs.Bool.{Decides}
use Rattle.cedar_ast.proofs.PlainNames.{name_cmp-Equal}
use Rattle.cedar_ast.specs.Words.{PlainName, name_cmp}
use Rattle.cedar_name_resolution.proofs.SetLemmas.{found-Decides}
use Rattle.cedar_schema_semantics.specs.Words.{Names}
use Rattle.cedar_schema_text_writer.specs.Names.{is_held, standing_of}
use Rattle.cedar_schema_text_writer.specs.declared.scope.Standing.TheVariants.{Common, Entity, Undeclared}

-- a test decides whether a name is one of some
pub held : (names : List PlainName) (name : PlainName) → Decides (is_held names name) (Contains names name)
held names name =
    subst (λ (ns : List PlainName). Decides (is_held names name) (Contains ns name)) (map-id names)
    (found-Decides name_cmp (λ n. n) name_cmp-Equal names name)

no_test : (b : Bool) → ¬ (b ≡ true) → b ≡ false
no_test true isn't = absurd (isn't refl)
no_test false isn't = refl

pub not_held : (names : List PlainName) (name : PlainName) → ¬ Contains names name → is_held names name ≡ false
not_held names name without = no_test (is_held names name) (λ e. without ((held names name).0 e))

module _ (names : Names) (name : PlainName) where
  -- the name of a common type stands for it
  pub common_stands : Contains names.common name → Common ≡ standing_of names name
  common_stands there = simp ((held names.common name).1 there)

  -- that of an entity type alone stands for that
  pub entity_stands : ¬ Contains names.common name → Contains names.entities name → Entity ≡ standing_of names name
  entity_stands without there = simp (not_held names.common name without, (held names.entities name).1 there)

  -- any other stands for nothing
  pub undeclared_stands : ¬ Contains names.common name → ¬ Contains names.entities name → Undeclared ≡ standing_of names name
  undeclared_stands without neither = simp (not_held names.common name without, not_held names.entities name neither)
