-- Types that can be written, by what they say.
use Rattle.std.proofs.Common.{◌≡◌, ℕ, ◌≤◌, Bool, true, false, cond, Option, Some, None, refl, sym, ap, subst, ◌∙◌, arith, nat_lt}
use Rattle.std.proofs.lemmas.Bool.Decides.{nat_tests}
use Rattle.cedar_ast.specs.Words.{PlainName}
use Rattle.cedar_schema_ast.specs.Words.{Expr, raw_expr, type_nesting}
use Rattle.cedar_schema_ast.specs.declared.json_schema.raw_name.RawName.{RawName}
use Rattle.cedar_schema_ast.specs.declared.json_schema.type_of.Type.{«Type»}
use Rattle.cedar_json_laws.proofs.Placed.{expr_in, types_placed}
use Rattle.cedar_schema_text_laws.proofs.ShownTypes.{nest_raw}
use Rattle.cedar_schema_text_laws.proofs.TypeTexts.{nest}
use Rattle.cedar_schema_text_laws.specs.Sayable.{Sayable}
use Rattle.cedar_schema_text_writer.specs.Flaws.{form_flaw, most_levels, type_flaw}
use Rattle.cedar_schema_text_writer.specs.Layout.{written_pieces}
use Rattle.cedar_schema_text_writer.specs.Names.{First}
use Rattle.cedar_schema_text_writer.specs.TypeLayout.{type_pieces}
use Rattle.cedar_schema_text_writer.specs.declared.fault.Part.{Part}
use Rattle.cedar_schema_text_writer.specs.declared.fault.Unwritable.TheVariants as what

-- an expression that can be written as a type: its levels are few, and nothing in it can't be said
pub record IsSaid (first : First) (namespace : Option PlainName) (in_part : Part) (e : Expr) : Type 0 where
  pub sayable : Sayable e
  pub few : nest e ≤ 128
  pub flawless : form_flaw first in_part (expr_in namespace e) ≡ None

pub cond_none : {A : Type 0} (test : Bool) (it : A) (other : Option A) → cond test (Some it) other ≡ None → (test ≡ false) × (other ≡ None)
cond_none true it other none = absurd cc
cond_none false it other none = (refl, none)

pub cond_other : {A : Type 0} (test : Bool) (one : Option A) (it : A) → cond test one (Some it) ≡ None → (test ≡ true) × (one ≡ None)
cond_other true one it none = (refl, none)
cond_other false one it none = absurd cc

at_most : (a b : ℕ) → nat_lt a b ≡ false → b ≤ a
at_most a b less = grind (arith, nat_tests)

module _ (first : First) (namespace : Option PlainName) where
  -- a type without a flaw can be said
  pub said_type : (in_part : Part) (ty : «Type» RawName) → Sayable (raw_expr None ty) → type_flaw first namespace in_part ty ≡ None
      → IsSaid first namespace in_part (raw_expr None ty)
  said_type in_part ty sayable flawless =
      let parts = cond_none (nat_lt most_levels (type_nesting RawName ty)) (record { what = what.TooDeep; part = in_part })
      (form_flaw first in_part (raw_expr namespace ty)) flawless in
      record {
        sayable = sayable;
        few = subst (λ n. n ≤ 128) (sym (nest_raw ty)) (at_most 128 (type_nesting RawName ty) parts.0);
        flawless = sym (ap (form_flaw first in_part) (types_placed namespace ty)) ∙ parts.1;
      }

  -- its pieces
  pub said_pieces : (level : ℕ) (ty : «Type» RawName)
      → type_pieces first namespace level (expr_in namespace (raw_expr None ty)) ≡ written_pieces first namespace level ty
  said_pieces level ty = sym (ap (type_pieces first namespace level) (types_placed namespace ty))
