-- Where the common types of a bag are elaborated, enough is known to write out whatever counts in
-- it.
use Rattle.cedar_schema.specs.Words.{AreElaborated, Bag, Covers, Expr, Extensions, HoldsJust, TypeScope, defined_names, definitions, elaborated_types, held_names}

-- enough is known of what the bag defines
pub knows_all : (bag : Bag) (extensions : Extensions) (known : TypeScope)
    → HoldsJust (held_names known.defs.now) (defined_names bag extensions)
    → AreElaborated bag extensions (elaborated_types known.common.now) → (expr : Expr) → Covers (definitions bag extensions) known expr
knows_all bag extensions known names written expr =
    record {
      names = names;
      elaborated = written.elaborated;
      referred = λ reference refers name body resolves common. written.each (name, body) common.1;
    }
