use Rattle.std.proofs.Common.{◌≡◌, true, false, [], arith, refl}
use Rattle.cedar_ast.proofs.ValueLemmas.{IsText-nil}
use Rattle.cedar_compare.proofs.UserLemmas.{users_lose}
use Rattle.cedar_compare.proofs.examples.required_attributes_lose_entities.Goals as goal
use Rattle.cedar_compare.specs.Samples.{with_age, without_attributes}

pub returns : goal.returns
returns c extensions = users_lose extensions without_attributes (with_age true) [] IsText-nil (
  ((λ name among. among), tt),
  refl,
  record { attributes = tt; tags = tt },
  record { above = λ upper among. absurd (omega (arith, among.1)); not_itself = λ among. absurd (omega (arith, among.1)) },
)
    (λ of. absurd (let wrong : true ≡ false = of.0.1.0 in cc))
