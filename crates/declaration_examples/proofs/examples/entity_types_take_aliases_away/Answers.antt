use Rattle.std.proofs.Common.{◌++◌, sym, None, refl, inl, inr, arith, codes}
use Rattle.std.proofs.lemmas.Bool.{false≢true}
use Rattle.std.proofs.lemmas.List.Elements.{Contains-append_right, Contains-append_cases}
use Rattle.cedar_ast.proofs.Basics.{Contains-image}
use Rattle.cedar_schema_semantics.proofs.BuiltInLemmas.{alias_of, built_in_path, common_cases}
use Rattle.declaration_examples.proofs.examples.entity_types_take_aliases_away.Goals as goal
use Rattle.declaration_examples.specs.Words.{CommonOrEntity, Expr, Extensions, IsCommon, PlainName, alias_bag, alias_name, aliases, as_common, as_entity, as_long, as_text, built_in_name, built_ins, declared_common, definitions, long_expr, refer_here, reference_to, text_expr}

-- no common type has the name of the entity type
no_alias : (extensions : Extensions) (body : Expr) → ¬ IsCommon (definitions alias_bag extensions) CommonOrEntity
    (alias_name (codes "String")) body
no_alias extensions body common =
    elim (common_cases alias_bag extensions (alias_name (codes "String"), body) common.1) [
      | inl here ↦
          elim (Contains-append_cases (declared_common alias_bag) (built_ins extensions) (alias_name (codes "String"), body) here) [
            | inl declared ↦ omega (arith, declared.1)
            | inr built_in ↦ built_in_path extensions (alias_name (codes "String")) body built_in refl
          ]
      | inr alias ↦ false≢true (sym (alias_of alias_bag extensions (alias_name (codes "String")) body alias).2)
    ]

pub returns-clause-entity : goal.returns-clause-entity
returns-clause-entity c extensions =
    as_entity (refer_here CommonOrEntity (codes "String")) (alias_name (codes "String"))
    (inl (refl, inr (tt, (0, omega arith, refl)))) (tt, (0, omega arith, refl)) (no_alias extensions)

pub returns-clause-built_in : goal.returns-clause-built_in
returns-clause-built_in c extensions =
    as_common (reference_to None CommonOrEntity (built_in_name (codes "String"))) (built_in_name (codes "String")) text_expr
    (inl (refl, inl (tt, (2, omega arith, refl)))) (tt, (2, omega arith, refl)) as_text

pub returns-clause-alias : goal.returns-clause-alias
returns-clause-alias c extensions =
    let there = Contains-append_right (declared_common alias_bag ++ built_ins extensions) (aliases alias_bag extensions)
    (alias_name (codes "Long"), long_expr) (1, omega arith, refl) in
    as_common (refer_here CommonOrEntity (codes "Long")) (alias_name (codes "Long")) long_expr
    (inl (refl, inl (tt, Contains-image (λ (it : PlainName × Expr). it.0) (definitions alias_bag extensions).common (alias_name (codes "Long"), long_expr) there))) (tt, there) as_long
