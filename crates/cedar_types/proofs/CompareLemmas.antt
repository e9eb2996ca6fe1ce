-- Comparisons of unions and of kinds of entities, by what they stand for.
use Rattle.std.proofs.Common.{◌≡◌, ◌↔◌, refl, sym, ap, ◌∙◌, IsTrue}
use Rattle.std.specs.Cmp.Derive.Mapped.{lex_map}
use Rattle.std.specs.Cmp.Lexicographic.{slice_cmp}
use Rattle.cedar_ast.proofs.Names.{entity_type_eq-same, entity_type_ord-name_cmp}
use Rattle.cedar_type_rules.proofs.CompareLemmas.{ties_from}
use Rattle.cedar_type_rules.proofs.SubtypeLemmas.{pointwise-map_Decides}
use Rattle.cedar_types.specs.Words.{ComparesBy, EntityKind, EntityLUB, kind_ty, lub_names, name_cmp, ty_cmp, type_name, union_cmp, union_of}
use Rattle.cedar_types.specs.contracts.entity_kind.EntityKindHash.TheImpl as kind_hash
use Rattle.cedar_types.specs.contracts.entity_kind.EntityKindOrd.TheImpl as kind_ord
use Rattle.cedar_types.specs.contracts.entity_kind.EntityKindPartialEq.TheImpl as kind_eq
use Rattle.cedar_types.specs.contracts.entity_lub.EntityLUBHash.TheImpl as lub_hash
use Rattle.cedar_types.specs.contracts.entity_lub.EntityLUBOrd.TheImpl as lub_ord
use Rattle.cedar_types.specs.contracts.entity_lub.EntityLUBPartialEq.TheImpl as lub_eq
use Rattle.cedar_types.specs.declared.entity_kind.EntityKind.TheVariants as kind

-- unions are equal exactly where their names are
lub_eq-same : (a b : EntityLUB) → IsTrue ((lub_eq.ghosts).eq a b) ↔ (lub_names a ≡ lub_names b)
lub_eq-same a b = pointwise-map_Decides type_name _ entity_type_eq-same a.lub_elements.value.items b.lub_elements.value.items

-- kinds are equal exactly where they stand for the same type
pub kind_eq-same : (a b : EntityKind) → IsTrue ((kind_eq.ghosts).eq a b) ↔ (kind_ty a ≡ kind_ty b)
kind_eq-same kind.AnyEntity kind.AnyEntity = (λ _. refl, λ _. refl)
kind_eq-same kind.AnyEntity (kind.Entity b) = (λ e. absurd cc, λ e. absurd cc)
kind_eq-same (kind.Entity a) kind.AnyEntity = (λ e. absurd cc, λ e. absurd cc)
kind_eq-same (kind.Entity a) (kind.Entity b) =
    (λ e. ap union_of ((lub_eq-same a b).0 e), λ e. (lub_eq-same a b).1 (let same : lub_names a ≡ lub_names b = cc in same))

-- unions are ordered by their names
lub_cmp-is : (a b : EntityLUB) → (lub_ord.ghosts).cmp a b ≡ union_cmp (lub_names a) (lub_names b)
lub_cmp-is a b =
    (λ i. slice_cmp (λ x y. entity_type_ord-name_cmp x y i) a.lub_elements.value.items b.lub_elements.value.items)
    ∙ sym (lex_map type_name name_cmp a.lub_elements.value.items b.lub_elements.value.items)

-- kinds are ordered as the types that they stand for
pub kind_cmp-is : (a b : EntityKind) → (kind_ord.ghosts).cmp a b ≡ ty_cmp (kind_ty a) (kind_ty b)
kind_cmp-is kind.AnyEntity kind.AnyEntity = refl
kind_cmp-is kind.AnyEntity (kind.Entity b) = refl
kind_cmp-is (kind.Entity a) kind.AnyEntity = refl
kind_cmp-is (kind.Entity a) (kind.Entity b) = lub_cmp-is a b

-- comparisons of unions agree
pub unions_compare : ComparesBy lub_names union_cmp (lub_eq.ghosts).eq (lub_ord.ghosts).cmp (lub_hash.ghosts).hash_input
unions_compare = record {
  equality = lub_eq-same;
  order = lub_cmp-is;
  total = lub_ord.Laws.total-law;
  ties = ties_from lub_names (lub_eq.ghosts).eq (lub_ord.ghosts).cmp lub_eq-same lub_ord.Laws.matches_eq-law;
  hash = λ a b e. lub_hash.Laws.respects_eq-law a b ((lub_eq-same a b).1 e);
}

-- comparisons of kinds agree
pub kinds_compare : ComparesBy kind_ty ty_cmp (kind_eq.ghosts).eq (kind_ord.ghosts).cmp (kind_hash.ghosts).hash_input
kinds_compare = record {
  equality = kind_eq-same;
  order = kind_cmp-is;
  total = kind_ord.Laws.total-law;
  ties = ties_from kind_ty (kind_eq.ghosts).eq (kind_ord.ghosts).cmp kind_eq-same kind_ord.Laws.matches_eq-law;
  hash = λ a b e. kind_hash.Laws.respects_eq-law a b ((kind_eq-same a b).1 e);
}
