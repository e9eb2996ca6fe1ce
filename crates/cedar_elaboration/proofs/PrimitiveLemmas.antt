-- Primitive types, as they are written and as they are elaborated.
use Rattle.std.proofs.Common.{◌≡◌, true, refl}
use Rattle.std.proofs.lemmas.Bool.{false≢true}
use Rattle.cedar_elaboration.specs.Words.{CoversExtensions, ElaboratesAs, Expr, HasOpenRecord, IsPrimitive, Ty, TypeScope, any_truth, as_long, as_text, as_truth, is_long, is_long_type, is_text, is_text_type, is_truth, is_truth_type, long, text}
use Rattle.cedar_type_rules.specs.Ty.{truth}
use Rattle.cedar_type_rules.specs.declared.bool_type.BoolType.TheVariants.{AnyBool}

-- a primitive type is the one that it is told to be
pub record IsAsTold (ty : Ty) : Type 0 where
  pub as_text_type : is_text_type ty ≡ true → ty ≡ text
  pub as_long_type : is_long_type ty ≡ true → ty ≡ long
  pub as_truth_type : is_truth_type ty ≡ true → ty ≡ any_truth

pub told : (ty : Ty) → IsAsTold ty
told text = record { as_text_type = λ is. refl; as_long_type = λ is. absurd (false≢true is); as_truth_type = λ is. absurd (false≢true is) }
told long = record { as_text_type = λ is. absurd (false≢true is); as_long_type = λ is. refl; as_truth_type = λ is. absurd (false≢true is) }
told (truth AnyBool) = record { as_text_type = λ is. absurd (false≢true is); as_long_type = λ is. absurd (false≢true is); as_truth_type = λ is. refl }
told _ = record { as_text_type = λ is. absurd (false≢true is); as_long_type = λ is. absurd (false≢true is); as_truth_type = λ is. absurd (false≢true is) }

-- a primitive type is elaborated as itself
pub primitive_elaborated : (scope : TypeScope) {expr : Expr} {ty : Ty} → IsPrimitive expr ty → ElaboratesAs scope expr ty
primitive_elaborated scope is_text = λ defined knows. as_text
primitive_elaborated scope is_long = λ defined knows. as_long
primitive_elaborated scope is_truth = λ defined knows. as_truth

-- it has no open record
pub primitive_closed : {expr : Expr} {ty : Ty} → IsPrimitive expr ty → ¬ HasOpenRecord expr
primitive_closed is_text holds = holds
primitive_closed is_long holds = holds
primitive_closed is_truth holds = holds

-- and no extension type
pub primitive_extensions : (scope : TypeScope) {expr : Expr} {ty : Ty} → IsPrimitive expr ty → CoversExtensions scope expr
primitive_extensions scope is_text = λ word mentions. absurd mentions
primitive_extensions scope is_long = λ word mentions. absurd mentions
primitive_extensions scope is_truth = λ word mentions. absurd mentions
