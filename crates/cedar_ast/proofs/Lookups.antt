-- Look-ups by what a key stands for.
use Rattle.std.proofs.Common.{◌≡◌, ◌↔◌, Option, Some, None, Bor, IsOk, IsSome, IfOk, refl}
use Rattle.std.specs.BTreeMap.{BTreeMap, get_by}
use Rattle.std.specs.Option.{option_copied, ok_or}
use Rattle.cedar_ast.proofs.Names.{name_ord-name_cmp}
use Rattle.cedar_ast.specs.Words.{Name, at_name, plain_name}
use Rattle.cedar_ast.specs.contracts.name.NameOrd.TheImpl as name_ord

-- a look-up at a name finds what the map holds at what the name stands for
pub get-at_name : {X : Type 0} (entries : BTreeMap Name X) (name : Name)
    → get_by ((name_ord.ghosts).cmp name) entries ≡ at_name entries (plain_name name)
get-at_name entries name i = get_by (λ key. name_ord-name_cmp name key i) entries

-- what is found is `Ok`, and else there is an error
pub ok_or-found : {T E : Type 0} (found : Option (Bor T)) (error : E)
    → (IsOk (ok_or found error) ↔ IsSome (option_copied found)) × IfOk (ok_or found error) (λ value. option_copied found ≡ Some value.now)
ok_or-found None error = ((λ h. h, λ h. h), tt)
ok_or-found (Some value) error = ((λ h. h, λ h. h), refl)
