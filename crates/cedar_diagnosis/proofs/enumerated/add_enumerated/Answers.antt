use Rattle.std.proofs.Common.{◌≡◌, [], ◌∷◌, map}
use Rattle.cedar_ast.proofs.Names.{entity_type_ord-Equal}
use Rattle.cedar_ast.specs.Words.{PlainName, type_name}
use Rattle.cedar_ast.specs.contracts.entity_type.EntityTypeOrd.TheImpl as order
use Rattle.cedar_diagnosis.proofs.AddingLemmas.{adds_also, adds_like}
use Rattle.cedar_diagnosis.proofs.NameLemmas.{named_one_of, named_only}
use Rattle.cedar_diagnosis.proofs.enumerated.add_enumerated.Goals as goal
use Rattle.cedar_diagnosis.specs.Finding.{IsEnumeratedName}
use Rattle.cedar_diagnosis.specs.Lent.{declaration_of}
use Rattle.cedar_diagnosis.specs.Names.{entity_names_in}
use Rattle.cedar_name_resolution.proofs.SetLemmas.{inserted}

pub returns-in_ok-_is_new : goal.returns-in_ok-_is_new
returns-in_ok-_is_new c =
    let it = declaration_of c.args.it.now in
    let name = type_name c.in-Some.ty in
    let one : name ∷ [] ≡ entity_names_in it = rw c.in-Some.is at c.in_ok-ty.ensures in
    let Same : PlainName → Type 0 = λ other. name ≡ other in
    rw c.in_ok-_is_new.ensures.keys
    (adds_like Same (IsEnumeratedName it) (map type_name c.args.types.now.keys) _
    (λ other same. (c.is_enumerated.ensures.0 c.if-not-is_enumerated.false, named_one_of name (entity_names_in it) one other same))
    (λ other found. named_only name (entity_names_in it) one other found.1)
    (adds_also (map type_name c.args.types.now.keys) _ name
    (inserted ((order.ghosts).cmp) type_name entity_type_ord-Equal c.args.types.now.keys c.in-Some.ty)))
