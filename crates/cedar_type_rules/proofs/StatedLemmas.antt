-- Types that are inhabited by samples are inhabited.
use Rattle.std.proofs.Common.{◌≡◌, Bool, true, false, refl, List, [], ◌∷◌, Option, Some, cond}
use Rattle.std.specs.BTreeMap.{is_at}
use Rattle.std.specs.Map.{lookup}
use Rattle.std.specs.Ordering.{is_eq}
use Rattle.std.specs.declared.cmp.Ordering.{Ordering}
use Rattle.std.specs.declared.cmp.Ordering.TheVariants.{Equal}
use Rattle.cedar_ast.proofs.PlainNames.{name_cmp-Equal}
use Rattle.cedar_ast.proofs.ValueLemmas.{IsName-plain_name}
use Rattle.cedar_type_rules.specs.Words.{AreInhabited, AreInhabitedWith, Extensions, Fields, IsInhabited, IsInhabitedWith, IsName, IsStated, IsStatedWith, Name, PlainName, Tree, Ty, call_value, end, extension_of, field, name_cmp, never, no_tree, plain_name, record_of, set_of}

-- a name that ties with what a name stands for isn't reserved
tied_name : (sought : PlainName) (key : Name) (answer : Ordering) → name_cmp sought (plain_name key) ≡ answer
    → is_eq answer ≡ true → IsName sought
tied_name sought key Equal is tied = rw ((name_cmp-Equal sought (plain_name key)).0 is) (IsName-plain_name key)
tied_name sought key _ is tied = absurd cc

-- a name at which something is found isn't reserved, if that is so of what is found further on
chosen_name : {X : Type 0} (sought : PlainName) (key : Name) (first value : X) (others : Option X) (b : Bool)
    → is_eq (name_cmp sought (plain_name key)) ≡ b → (others ≡ Some value → IsName sought)
    → cond b (Some first) others ≡ Some value → IsName sought
chosen_name sought key first value others true tied later found = tied_name sought key (name_cmp sought (plain_name key)) refl tied
chosen_name sought key first value others false tied later found = later found

-- a name at which something is found isn't reserved
found_name : {X : Type 0} (sought : PlainName) (entries : List (Name × X)) (value : X)
    → lookup (is_at (λ key. name_cmp sought (plain_name key))) entries ≡ Some value → IsName sought
found_name sought [] value found = cc
found_name sought (entry ∷ rest) value found =
    chosen_name sought entry.0 entry.1 value _ (is_eq (name_cmp sought (plain_name entry.0))) refl (found_name sought rest value) found

mutual
  -- a type that is inhabited by samples is inhabited throughout
  pub IsInhabited-with : (extensions : Extensions) (samples : List Tree) (ty : Ty) → IsInhabitedWith extensions samples ty
      → IsInhabited extensions ty
  IsInhabited-with extensions samples never lives = lives
  IsInhabited-with extensions samples (set_of ty) lives = IsInhabited-with extensions samples ty lives
  IsInhabited-with extensions samples (record_of fields openness) lives = AreInhabited-with extensions samples fields lives
  IsInhabited-with extensions samples (extension_of name) (call_value function args, among, gives) = (
    call_value function no_tree,
    (found_name function extensions.functions.entries gives.0 gives.1, tt),
    (gives.0, gives.1, gives.2, tt),
  )
  IsInhabited-with extensions samples (extension_of name) (sample, among, has) = elim has [ ]
  IsInhabited-with extensions samples ty lives = tt

  -- so are the types of attributes that are
  AreInhabited-with : (extensions : Extensions) (samples : List Tree) (fields : Fields) → AreInhabitedWith extensions samples fields
      → AreInhabited extensions fields
  AreInhabited-with extensions samples end lives = tt
  AreInhabited-with extensions samples (field name required ty rest) lives =
      (IsInhabited-with extensions samples ty lives.0, AreInhabited-with extensions samples rest lives.1)

-- a type that is stated with samples is stated
pub IsStated-with : (extensions : Extensions) (samples : List Tree) (ty : Ty) → IsStatedWith extensions samples ty → IsStated extensions ty
IsStated-with extensions samples ty stated = (IsInhabited-with extensions samples ty stated.0, stated.1)
