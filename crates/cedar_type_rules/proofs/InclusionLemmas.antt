-- Which names are listed, and what a look-up of a name says of it.
use Rattle.std.proofs.Common.{◌≡◌, inl, inr, Bool, [], ◌∷◌, refl, sym, ap, subst, ◌∙◌, Option, Some, None, Contains, arith, Bor}
use Rattle.std.proofs.lemmas.Slice.Eq.{bytes_eq-Decides}
use Rattle.std.specs.Bool.{Decides}
use Rattle.std.specs.Option.{is_some, option_map, option_copied}
use Rattle.std.specs.Str.{bytes_eq}
use Rattle.cedar_ast.proofs.Inclusion.{chosen}
use Rattle.cedar_ast.proofs.Lists.{Contains-cons, Contains-cons_cases}
use Rattle.cedar_type_rules.specs.Words.{Fields, Text, Ty, end, field, field_at, field_names}

-- an attribute is found exactly where its name is among the names
pub field_at-Decides : (name : Text) (fields : Fields) → Decides (is_some (field_at name fields)) (Contains (field_names fields) name)
field_at-Decides name end = (λ e. absurd cc, λ among. absurd (omega (arith, among.1)))
field_at-Decides name (field other required ty rest) =
    let same = bytes_eq-Decides name other in
    let either = chosen (bytes_eq name other) (required, ty) (field_at name rest) (name ≡ other)
    (Contains (field_names rest) name) same (field_at-Decides name rest) in (
      λ e. Contains-cons other (field_names rest) name (elim (either.0 e) [ inl s ↦ inl (sym s) | inr there ↦ inr there ]),
      λ among. either.1 (elim (Contains-cons_cases other (field_names rest) name among) [ inl s ↦ inl (sym s) | inr there ↦ inr there ]),
    )

-- what is found is there, whatever is read of it
is_some-read : {A B : Type 0} (f : A → B) (found : Option (Bor A)) → is_some (option_map f (option_copied found)) ≡ is_some found
is_some-read f None = refl
is_some-read f (Some x) = refl

-- whether an attribute is found decides whether its name is among the names
pub found-Decides : {A : Type 0} (f : A → Bool × Ty) (found : Option (Bor A)) (name : Text) (fields : Fields)
    → option_map f (option_copied found) ≡ field_at name fields → Decides (is_some found) (Contains (field_names fields) name)
found-Decides f found name fields e =
    subst (λ there. Decides there (Contains (field_names fields) name)) (sym (ap is_some e) ∙ is_some-read f found) (field_at-Decides name fields)
