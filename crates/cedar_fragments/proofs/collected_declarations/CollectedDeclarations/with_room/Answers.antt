use Rattle.std.proofs.Common.{ap}
use Rattle.cedar_fragments.proofs.collected_declarations.CollectedDeclarations.with_room.Goals as goal
use Rattle.cedar_fragments.specs.WrittenDeclarations.{written_actions, written_entities}
use Rattle.cedar_name_resolution.specs.WrittenTypes.{written_common}

-- of no fragments there is nothing
pub returns : goal.returns
returns g c =
    let names = c.in_ok-with_room.ensures in
    let declarations = c.in_ok-empty_with_room.ensures in
    let N = g.row.N.Denot in
    let refer = g.N.WrittenName.refer in record {
      names = record {
        common = rw names.common (λ name. (λ is. is, λ is. is));
        entities = rw names.entities (λ name. (λ is. is, λ is. is));
        actions = rw names.actions (λ uid. (λ is. is, λ is. is));
      };
      declarations = record {
        common = ap (written_common N refer) declarations.common;
        entities = ap (written_entities N refer) declarations.entities;
        actions = ap (written_actions N refer) declarations.actions;
      };
    }
